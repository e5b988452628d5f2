-- A command of one caller is a step of the script's state.
use Rattle.ksm_script.proofs.Names.{Answer, ap, append-nil, Caller, Command, Commands, entries, journal_after, List, made_by, new_journal, Owned, PartsId, PassState, refl, reply_to, script_of}
use Rattle.ksm_script.proofs.Names.{ScriptState, SeesOn, Some, StepsAlone, sym, ◌++◌, ◌∙◌, ◌≡◌}

module _ (parts : PartsId) (old new : Caller) (c : Command) (r : Answer) (one : parts.callers ≡ 1) (sees : SeesOn parts old new (made_by old.number c r)) where
  -- nothing of anybody else comes in between
  only_made : new.seen ≡ old.seen ++ made_by old.number c r
  only_made =
      sees.seen
      ∙ ap (λ (l : List Owned). (old.seen ++ l) ++ made_by old.number c r) (sees.alone one)
      ∙ ap (λ (l : List Owned). l ++ made_by old.number c r) (append-nil old.seen)

  journaled : entries new.seen ≡ journal_after (entries old.seen) c r
  journaled = sym (new_journal (entries old.seen) (journal_after (entries old.seen) c r) old.seen new.seen old.number c r refl refl only_made)

  -- a command of the only caller is a step of the script's state, with the reply to the command's answer
  pub commands : (passes : List PassState) → StepsAlone parts old new c r → Commands c (script_of parts old passes) (Some (reply_to r)) (script_of parts new passes)
  commands passes steps =
      let step = steps one in
      (r, step.0, refl, λ i. let z : ScriptState = record { book = step.1 i; journal = journaled i; passes = passes } in z)
