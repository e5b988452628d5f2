-- What a run wrote is a beginning of the replies to what it read.
use Rattle.ksm_host.proofs.Names.{[], AllRead, AnsweredAll, AnsweredLast, ap, append-nil, append_assoc, append_known, Appends, Appends-kept, AppendsBroken, AppendsPart, bad_line, BadLine, Bool}
use Rattle.ksm_host.proofs.Names.{Broken, End, Err, false, inl, inr, Keeps, LineReply, List, more, None, Ok, Option, Read, refl, Replies, Result, RunFault, Runs, ScriptState, Serves, Some}
use Rattle.ksm_host.proofs.Names.{status_after, Streams, subst, text_of, true, Write, ℕ, ◌++◌, ◌+◌, ◌∙◌, ◌∷◌, ◌≡◌}

whole : (begun written : Option (List ℕ)) (text : List ℕ) → Appends begun written text → AppendsPart begun written text
whole begun written text h = (text, [], append-nil text, h)

-- a text and a beginning of the next one
broken : (begun written : Option (List ℕ)) (text next : List ℕ) → AppendsBroken begun written text next → AppendsPart begun written (text ++ next)
broken begun written text next h = (text ++ h.0, h.1, append_assoc text h.0 h.1 ∙ ap (λ t. text ++ t) h.2, h.3)

-- the line read last has its reply too
with_last : (old new : Option (List ℕ)) (from to : ScriptState) (text : List ℕ) (reply : LineReply) → AnsweredLast old new from to text reply
    → AnsweredAll old new from to (text ++ text_of reply)
with_last old new from to text reply (lines, line, bytes, count, now, before, last, read, consumed) =
    (lines ++ (line ++ 10 ∷ []), bytes, count + 1, more before line (Some reply) to last, read, consumed)

append_nothing : (known : Option (List ℕ)) → append_known known [] ≡ known
append_nothing None = refl
append_nothing (Some bytes) = ap (λ (l : List ℕ). let o : Option (List ℕ) = Some l in o) (append-nil bytes)

-- where nothing is left in the buffer, all that was written is sent
pub kept_where_sent : (inner : Option (List ℕ)) (buffer : List ℕ) (written : Option (List ℕ)) → Keeps written (append_known inner buffer) → buffer ≡ [] → Keeps written inner
kept_where_sent inner buffer written kept empty =
    subst (λ (o : Option (List ℕ)). Keeps written o) (ap (λ (l : List ℕ). append_known inner l) empty ∙ append_nothing inner) kept

module _ (io : Streams) (from to : ScriptState) where
  -- the replies, and what was written of them
  abbrev pub Stands : Option (List ℕ) → Type 0
  Stands now = (text : List ℕ) × Replies io.unread io.left from to text × AppendsPart io.begun now text

  -- what is written stays where it is sent
  pub stands_sent : (now : Option (List ℕ)) → Keeps io.written now → Stands io.written → Stands now
  stands_sent now kept s = (s.0, s.1, (s.2.0, s.2.1, s.2.2, Appends-kept io.begun io.written now s.2.0 s.2.3 kept))

  -- however a run ended, what it wrote is a beginning of the replies to what it read
  pub stands_after : (r : Result End RunFault) → Runs io from to r → Stands io.written
  stands_after (Ok AllRead) run = let a = run.goes in (a.0, (run.last, inl a.1, run.given), whole io.begun io.written a.0 a.2)
  stands_after (Ok (BadLine number)) run =
      let b = run.goes in (
        b.0 ++ text_of (bad_line number),
        (run.last, inr (inl (b.0, b.1, b.3, ap (λ n. b.0 ++ text_of (bad_line n)) b.2)), run.given),
        whole io.begun io.written (b.0 ++ text_of (bad_line number)) b.4,
      )
  stands_after (Err Read) run =
      let b = run.goes in (b.0, (run.last, inr (inr (b.1, b.2, b.5)), run.given), whole io.begun io.written b.0 b.6)
  stands_after (Err Write) run = elim run.goes [
    | inl a ↦ (
      a.0 ++ text_of a.1,
      (run.last, inl (with_last io.unread io.left from run.last a.0 a.1 a.2), run.given),
      broken io.begun io.written a.0 (text_of a.1) a.3,
    )
    | inr b ↦ (
      b.0 ++ text_of (bad_line (b.1 + 1)),
      (run.last, inr (inl (b.0, b.1, b.2, refl)), run.given),
      broken io.begun io.written b.0 (text_of (bad_line (b.1 + 1))) b.3,
    )
  ]

  module _ (inner : Option (List ℕ)) (waiting : List ℕ) (kept : Keeps io.written (append_known inner waiting)) where
    broke : (r : Result End RunFault) → Runs io from to r → Serves (record io { written = inner }) from Broken
    broke r run = let s = stands_sent (append_known inner waiting) kept (stands_after r run) in (to, s.0, waiting, s.1, s.2)

    -- what a session came to by its run, and by whether all that it wrote is sent
    pub serves_after : (r : Result End RunFault) (sent : Bool) → Runs io from to r → (sent ≡ true → Keeps io.written inner) → Serves (record io { written = inner }) from (status_after r sent)
    serves_after (Ok AllRead) true run k =
        let a = run.goes in
        (to, record { last = run.last; goes = (a.0, a.1, Appends-kept io.begun io.written inner a.0 a.2 (k refl), a.3); given = run.given })
    serves_after (Ok (BadLine number)) true run k =
        let b = run.goes in
        let appended = Appends-kept io.begun io.written inner (b.0 ++ text_of (bad_line number)) b.4 (k refl) in
        (to, number, record { last = run.last; goes = (b.0, b.1, b.2, b.3, appended); given = run.given })
    serves_after (Ok AllRead) false run k = broke (Ok AllRead) run
    serves_after (Ok (BadLine number)) false run k = broke (Ok (BadLine number)) run
    serves_after (Err fault) sent run k = broke (Err fault) run
