-- The worked lines hold.
use Rattle.ksm_script.proofs.Names.{[], AllZip, Answer, ap, arith, at, Audit, AuditedBy, BadNode, BadValue, Book, both_hold, Command, commanded, CommandLines, Commands, Content, Done, Err, Found}
use Rattle.ksm_script.proofs.Names.{frames_of, full, GivesUp, Gone, Held, HeldView, Holding, HoldsStill, Idle, idle_of, inl, inr, IsAnswerOrMemory, IsVacant, KeepsBook, length, LineReply, List}
use Rattle.ksm_script.proofs.Names.{LooksAt, LookupLines, Memory, merged, None, NotRunning, Ok, one_holds, Option, PassState, PassView, Pruned, ReaderLog, refl, Refused, register, reply_to, Row}
use Rattle.ksm_script.proofs.Names.{Scanned, ScriptState, shape, Some, start, subst, sym, TableName, UnknownPage, UnknownPlace, Unmerged, Vacant, word_loads, ℕ, ⊎_elim, ◌++◌, ◌<◌, ◌∙◌, ◌∷◌, ◌≡◌, ◌≤◌}
use Rattle.ksm_base.specs.declared.command.Command.TheVariants as commands
use Rattle.ksm_base.specs.declared.reply.Reply.TheVariants as replies

all_is : (n s : ScriptState) → KeepsBook s n → n.passes ≡ s.passes → n ≡ s
all_is n s b p = λ i. let z : ScriptState = record { book = b.0 i; journal = b.1 i; passes = p i } in z

-- ---- commands

-- the answer that a reply tells
abbrev answer_of : LineReply → Answer
answer_of (Scanned visits stop) = Ok (replies.Scanned visits stop)
answer_of (Pruned count) = Ok (replies.Pruned count)
answer_of (Unmerged pages stop) = Ok (replies.Unmerged pages stop)
answer_of (Refused (Book fault)) = Err fault
answer_of _ = Ok replies.Done

answer_back : (a : Answer) → answer_of (reply_to a) ≡ a
answer_back (Ok replies.Done) = refl
answer_back (Ok (replies.Scanned visits stop)) = refl
answer_back (Ok (replies.Pruned count)) = refl
answer_back (Ok (replies.Unmerged pages stop)) = refl
answer_back (Err fault) = refl

told_of : Option LineReply → Answer
told_of None = Ok replies.Done
told_of (Some reply) = answer_of reply

reply_is : (a b : Answer) → (let told : Option LineReply = Some (reply_to a) in told) ≡ Some (reply_to b) → a ≡ b
unfolding told_of
reply_is a b e = sym (answer_back a) ∙ ap told_of e ∙ answer_back b

module _ (s : ScriptState) (command : Command) (answer : Answer) where
  leads : IsAnswerOrMemory s.book command answer
      → Commands command s (Some (reply_to answer)) (commanded s command answer) × ((n : ScriptState) → Commands command s (Some (reply_to answer)) n → n ≡ commanded s command answer)
  leads lawful = ((answer, lawful, refl, refl), λ n d. d.3 ∙ ap (commanded s command) (sym (reply_is answer d.0 d.2)))

  never : (IsAnswerOrMemory s.book command answer → ⊥) → (n : ScriptState) → ¬ (Commands command s (Some (reply_to answer)) n)
  never not n d = not (subst (IsAnswerOrMemory s.book command) (sym (reply_is answer d.0 d.2)) d.1)

-- the lines of commands are answered as is written beside them
pub command_lines : (t : TableName) → CommandLines t
command_lines t =
    let s = start t in
    let m = merged t in
    let page = at 0 0 in record {
      registered = leads s (register 0) (Ok replies.Done) tt;
      no_memory = leads s (register 0) (Err Memory) tt;
      not_unknown = never s (register 0) (Err UnknownPage) (λ e. e);
      no_page = leads s (commands.Drop page) (Err UnknownPage) refl;
      not_dropped = never s (commands.Drop page) (Ok replies.Done) (λ e. cc e);
      stored = leads m (commands.Store page (full 0xbb)) (Ok replies.Done) tt;
      not_stored = never s (commands.Store page (full 0xbb)) (Ok replies.Done) (λ e. cc e);
      scanned = leads m (commands.Scan 2) (Ok (replies.Scanned 2 None)) refl;
      not_more = never m (commands.Scan 2) (Ok (replies.Scanned 3 None)) (λ e. absurd (omega (arith, e)));
      scanned_by_knob = leads m (commands.Scan 100) (Ok (replies.Scanned 100 None)) refl;
      not_by_knob = never m (commands.Scan 100) (Ok (replies.Scanned 4 None)) (λ e. absurd (omega (arith, e)));
      not_running = leads s (commands.Scan 2) (Err NotRunning) refl;
      pruned = leads m commands.Prune (Ok (replies.Pruned 0)) refl;
      not_pruned = never m commands.Prune (Ok (replies.Pruned 1)) (λ e. cc e);
      unmerged = leads m (commands.Unmerge 0) (Ok (replies.Unmerged 2 None)) refl;
      not_one = never m (commands.Unmerge 0) (Ok (replies.Unmerged 1 None)) (λ e. absurd (omega (arith, e)));
      mergeable = leads m (commands.Mergeable 0) (Ok replies.Done) tt;
      not_mergeable = never m (commands.Mergeable 7) (Ok replies.Done) (λ e. cc e);
      no_node = leads m (commands.MovePage page 9) (Err BadNode) refl;
      not_moved = never m (commands.MovePage page 9) (Ok replies.Done) (λ e. cc e);
      no_dup = leads m (commands.MoveDup 3 0) (Err UnknownPlace) refl;
      not_moved_dup = never m (commands.MoveDup 3 0) (Ok replies.Done) (λ e. cc e);
      bad_value = leads m (commands.SetRun 3) (Err BadValue) refl;
      not_set = never m (commands.SetRun 3) (Ok replies.Done) (λ e. cc e);
    }

-- ---- lookups

vacant_is : (v : PassView) (place : ℕ) (log : ReaderLog) (next : PassState) → IsVacant place log → Found v place (Gone Vacant) next → next ≡ Idle (record v { log = v.log ++ log })
vacant_is v place log (Idle w) is f = λ i. Idle (let z : PassView = record { table = f.0 i; log = (f.1.1 ∙ ap (λ (l : ReaderLog). v.log ++ l) (f.1.2 ∙ sym is)) i } in z)
vacant_is v place log (Holding h) is f = absurd f

held_is : (v : PassView) (place frame generation : ℕ) (next : PassState) → Found v place (Held frame generation) next → (x : HeldView) × (next ≡ Holding x) × (x.place ≡ place) × (x.frame ≡ frame)
held_is v place frame generation (Idle w) f = absurd f
held_is v place frame generation (Holding h) f = (h, refl, f.0.1, sym f.1)

looked_is : (h : HeldView) (bytes : List ℕ) (next : PassState) → LooksAt (Holding h) (Content bytes) next → (x : HeldView) × (next ≡ Holding x) × (x.log ≡ h.log ++ word_loads 0 bytes)
looked_is h bytes (Idle w) f = absurd f
looked_is h bytes (Holding x) f = (x, refl, ap (λ (z : HeldView). z.log) f.hold)

left_is : (h : HeldView) (next : PassState) → GivesUp (Holding h) Done next → (w : PassView) × (next ≡ Idle w)
left_is h (Idle w) f = (w, refl)
left_is h (Holding x) f = absurd f

holds_are : (h k : HeldView) (next : List PassState) → AllZip HoldsStill (Holding h ∷ Holding k ∷ []) next → next ≡ Holding h ∷ Holding k ∷ []
holds_are h k [] z = absurd z
holds_are h k (p ∷ []) z = absurd z.1
holds_are h k (p ∷ q ∷ []) z = λ i. z.0 i ∷ z.1.0 i ∷ []
holds_are h k (p ∷ q ∷ r ∷ next) z = absurd z.1.1

audited_is : (v : PassView) (h : HeldView) (rows : List Row) (next : List PassState) → v.table.shape ≡ shape 1 4 → AuditedBy (v ∷ []) (Audit rows) (idle_of next) → AllZip HoldsStill (Idle v ∷ Holding h ∷ []) next
    → (w : PassView) × (next ≡ Idle w ∷ Holding h ∷ []) × (length rows ≡ 4)
audited_is v h rows [] four a z = absurd z
audited_is v h rows (p ∷ []) four a z = absurd z.1
audited_is v h rows (Idle w ∷ q ∷ []) four a z = (w, (λ i. Idle w ∷ z.1.0 i ∷ []), a.width ∙ ap frames_of four)
audited_is v h rows (Holding x ∷ q ∷ []) four a z = absurd z.0
audited_is v h rows (p ∷ q ∷ r ∷ next) four a z = absurd z.1.1

memory_is : (v : PassView) (h : HeldView) (next : List PassState) → idle_of next ≡ v ∷ [] → AllZip HoldsStill (Idle v ∷ Holding h ∷ []) next → next ≡ Idle v ∷ Holding h ∷ []
memory_is v h [] e z = absurd z
memory_is v h (p ∷ []) e z = absurd z.1
memory_is v h (Idle w ∷ Idle u ∷ []) e z = absurd (cc z.1.0)
memory_is v h (Idle w ∷ Holding x ∷ []) e z = let same : w ≡ v = cc e in λ i. Idle (same i) ∷ z.1.0 i ∷ []
memory_is v h (Holding x ∷ q ∷ []) e z = absurd z.0
memory_is v h (p ∷ q ∷ r ∷ next) e z = absurd z.1.1

-- the lines of lookups are answered as is written beside them
pub lookup_lines : (v : PassView) (h k : HeldView) → v.table.shape ≡ shape 1 4 → LookupLines v h k
lookup_lines v h k is =
    let four : frames_of v.table.shape ≡ 4 = ap frames_of is in
    let s = one_holds v h in
    let both = both_hold h k in
    let lt : 3 < frames_of v.table.shape = omega (arith, four) in
    let le : frames_of v.table.shape ≤ 4 = omega (arith, four) in record {
      no_pass = (((refl, refl), (refl, refl)), λ n d. all_is n s d.1 d.0.1);
      holds = (((Holding h, (refl, refl), refl), (refl, refl)), λ n d. all_is n s d.1 (d.0.2 ∙ ap (λ p. Idle v ∷ p ∷ []) d.0.1.1));
      no_place = (
        ((Idle v, inr (le, (refl, refl)), refl), (refl, refl)),
        λ n d. ⊎_elim (λ a. absurd (omega (arith, a.0, four))) (λ b. all_is n s d.1 (d.0.2 ∙ ap (λ p. p ∷ Holding h ∷ []) b.1.1)) d.0.1,
      );
      not_busy = λ n d. ⊎_elim (λ a. absurd (omega (arith, a.0, four))) (λ b. absurd (cc b.1.0)) d.0.1;
      not_refused = λ n d. ⊎_elim (λ a. never_found v 3 d.0.0 a.1) (λ b. absurd (omega (arith, b.0, four))) d.0.1;
      not_while_held = λ n d. absurd (cc d.0.1.0);
      vacant = λ log is_log. (
        ((Idle (record v { log = v.log ++ log }), inl (lt, (refl, (log, refl, is_log))), refl), (refl, refl)),
        λ n d. ⊎_elim
            (λ a. all_is n (one_holds (record v { log = v.log ++ log }) h) d.1 (d.0.2 ∙ ap (λ p. p ∷ Holding h ∷ []) (vacant_is v 3 log d.0.0 is_log a.1)))
            (λ b. absurd (cc b.1.0))
            d.0.1,
      );
      held = λ frame generation n d. ⊎_elim
          (λ a. let f = held_is v 3 frame generation d.0.0 a.1 in (f.0, all_is n (both_hold f.0 h) d.1 (d.0.2 ∙ ap (λ p. p ∷ Holding h ∷ []) f.1), f.2, f.3))
          (λ b. absurd (cc b.1.0))
          d.0.1;
      equal_no_pass = λ page. (((refl, refl), (refl, refl)), λ n d. all_is n s d.1 d.0.1);
      equal_holds = λ page. (((Holding h, (refl, refl), refl), (refl, refl)), λ n d. all_is n s d.1 (d.0.2 ∙ ap (λ p. Idle v ∷ p ∷ []) d.0.1.1));
      equal_no_place = λ page. (
        ((Idle v, inr (le, (refl, refl)), refl), (refl, refl)),
        λ n d. ⊎_elim (λ a. absurd (omega (arith, a.0, four))) (λ b. all_is n s d.1 (d.0.2 ∙ ap (λ p. p ∷ Holding h ∷ []) b.1.1)) d.0.1,
      );
      look_no_pass = (((refl, refl), (refl, refl)), λ n d. all_is n s d.1 d.0.1);
      look_idle = (((Idle v, (refl, refl), refl), (refl, refl)), λ n d. all_is n s d.1 (d.0.2 ∙ ap (λ p. p ∷ Holding h ∷ []) d.0.1.1));
      not_looked = λ bytes n d. absurd (cc d.0.1.0);
      looked = λ bytes n d. (let f = looked_is h bytes d.0.0 d.0.1 in (f.0, all_is n (one_holds v f.0) d.1 (d.0.2 ∙ ap (λ p. Idle v ∷ p ∷ []) f.1), f.2));
      leave_no_pass = (((refl, refl), (refl, refl)), λ n d. all_is n s d.1 d.0.1);
      leave_idle = (((Idle v, (refl, refl), refl), (refl, refl)), λ n d. all_is n s d.1 (d.0.2 ∙ ap (λ p. p ∷ Holding h ∷ []) d.0.1.1));
      not_left = λ n d. absurd (cc d.0.1.0);
      left = λ n d. (let f = left_is h d.0.0 d.0.1 in (f.0, all_is n _ d.1 (d.0.2 ∙ ap (λ p. Idle v ∷ p ∷ []) f.1)));
      audit_holds = ((((refl, refl), (refl, (refl, tt))), (refl, refl)), λ n d. all_is n both d.1 (holds_are h k n.passes d.0.1));
      audit_not_held = λ n d. absurd d.0.0;
      audit_memory = (((refl, (tt, (refl, tt))), (refl, refl)), λ n d. all_is n s d.1 (memory_is v h n.passes d.0.0 d.0.1));
      audited = λ rows n d. (let f = audited_is v h rows n.passes is d.0.0 d.0.1 in (f.0, all_is n (one_holds f.0 h) d.1 f.1, f.2));
      not_audited = λ rows n d. absurd (cc d.0.0.0);
    }
  where
    never_found : (v : PassView) (place : ℕ) (next : PassState) → Found v place (Refused (Book UnknownPlace)) next → ⊥
    never_found v place (Idle w) f = f
    never_found v place (Holding h) f = f
