-- However a session ended, its run had a dialogue.
use Rattle.ksm_host.proofs.Names.{AllRead, BadLine, Bool, Broken, Dialogue, End, Err, false, HasReplied, HasTalked, inl, inr, List, Ok, OnOk, Option, refl, Result, RunFault, RunTalks, ScriptState}
use Rattle.ksm_host.proofs.Names.{status_after, true, Write, ℕ, ◌≡◌}

module _ {R W : Type 0} (takes : R → R → List ℕ → Type 0) (waits : W → R → R → Option (List ℕ) → Type 0) (fails is_sent : W → Type 0)
    (contents : W → Option (List ℕ)) (from : ScriptState) (first last : R) (begun writer later : W) where
  abbrev Ran : Result End RunFault → Type 0
  Ran result = RunTalks takes waits fails is_sent contents from first last begun writer result

  spoken : (end : End) → Ran (Ok end) → (bytes : List ℕ) × Dialogue takes waits (HasReplied is_sent contents (contents begun) from) first last bytes
  spoken end (inl talk) = talk
  spoken end (inr long) = (long.0, long.6)

  unsent : (end : End) → Ran (Ok end) → fails later → HasTalked takes waits fails is_sent contents first last begun Broken from
  unsent end (inl talk) failed = (Write, later, inl (failed, talk.0, talk.1))
  unsent end (inr long) failed = (Write, later, inr long)

  -- by how the run ended, and by whether all that it wrote is sent
  pub has_talked : (result : Result End RunFault) (sent : Bool) → Ran result → OnOk result (sent ≡ false → fails later)
      → HasTalked takes waits fails is_sent contents first last begun (status_after result sent) from
  has_talked (Ok AllRead) true ran failed = spoken AllRead ran
  has_talked (Ok AllRead) false ran failed = unsent AllRead ran (failed refl)
  has_talked (Ok (BadLine number)) true ran failed = spoken (BadLine number) ran
  has_talked (Ok (BadLine number)) false ran failed = unsent (BadLine number) ran (failed refl)
  has_talked (Err fault) sent ran failed = (fault, writer, ran)
