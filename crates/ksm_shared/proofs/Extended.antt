-- What a call under the lock tells its share.
use Rattle.std.proofs.Common.{◌≡◌, ◌<◌, ℕ, Bool, true, false, if◌then◌else◌, List, [], ◌∷◌, ◌++◌, refl, sym, ap, ◌∙◌, subst, arith, Option, Some, None, Ok, Err, eq-eqb}
use Rattle.std.proofs.lemmas.List.{append-nil}
use Rattle.atomic_table.specs.Table.{Me}
use Rattle.ksm_base.specs.declared.command.Command.{Command}
use Rattle.ksm_base.specs.declared.fault.Fault.TheVariants.{Memory, UnknownPage, AlreadyRegistered, NoFrame, NotRunning, SharedPages, BadValue, InUse, CrossesNodes, UnknownPlace, BadNode}
use Rattle.ksm_base.specs.Answers.{Answer, IsAnswer}
use Rattle.ksm_base.specs.Apply.{IsAnswerOrMemory, after}
use Rattle.ksm_base.specs.Journal.{Entry, AreAnswers, IsLegal, is_memory, journal_after, replay}
use Rattle.ksm_base.specs.State.{BookState, opening}
use Rattle.frame_table.specs.Named.{TableName}
use Rattle.ksm_book.specs.Carried.{JournaledBook}
use Rattle.ksm_shared.specs.declared.seen.Owned.{Owned}
use Rattle.ksm_shared.specs.declared.seen.Caller.{Caller}
use Rattle.ksm_shared.specs.declared.seen.View.{View}
use Rattle.ksm_shared.specs.Named.{PartsId}
use Rattle.ksm_shared.specs.Seen.{entries, entries_by, Begins, OwnersBelow, caller, owned, first, added, book_view, IsShareSeat, IsBookSeat, Wrote}
use Rattle.ksm_shared.specs.Locked.{made, made_by, said_of, part_of, state_seen, SeesOn, StepsAlone}
use Rattle.ksm_shared.specs.Published.{list_of}
use Rattle.ksm_shared.proofs.Lists.{entries_by_append, entries_by_own, entries_append, owners_append}

added_made : (g : Caller) (c : Command) (r : Answer) → added (g ∷ []) (said_of c r) ≡ made_by g.number c r
added_made g c r = elim (is_memory r) as (λ (b : Bool). added (g ∷ []) (if b then None else Some (c, r)) ≡ (if b then [] else (owned g.number (c, r) ∷ []))) [ true ↦ refl | false ↦ refl ]

entries_made : (number : ℕ) (c : Command) (r : Answer) → entries (made_by number c r) ≡ made c r
entries_made number c r = elim (is_memory r) as (λ (b : Bool). entries (if b then [] else (owned number (c, r) ∷ [])) ≡ (if b then [] else ((c, r) ∷ []))) [ true ↦ refl | false ↦ refl ]

owners_made : (count number : ℕ) (c : Command) (r : Answer) → number < count → OwnersBelow count (made_by number c r)
owners_made count number c r lt = elim (is_memory r) as (λ (b : Bool). OwnersBelow count (if b then [] else (owned number (c, r) ∷ []))) [ true ↦ tt | false ↦ (lt, tt) ]

own_made : (number : ℕ) (c : Command) (r : Answer) → entries_by number (made_by number c r) ≡ made c r
own_made number c r = elim (is_memory r) as (λ (b : Bool). entries_by number (if b then [] else (owned number (c, r) ∷ [])) ≡ (if b then [] else ((c, r) ∷ []))) [ true ↦ refl | false ↦ entries_by_own number (c, r) ]

journal_made : (journal : List Entry) (c : Command) (r : Answer) → journal_after journal c r ≡ journal ++ made c r
journal_made journal c r = elim (is_memory r) as (λ (b : Bool). (if b then journal else journal ++ (c, r) ∷ []) ≡ journal ++ (if b then [] else ((c, r) ∷ []))) [ true ↦ sym (append-nil journal) | false ↦ refl ]

-- the journal that the book's seat knows has the command's entry at its end after a command
pub new_log : (bv : View) (sm : Me (Option Entry) View) (bv' sv' : View) (e : Option Entry) (c : Command) (r : Answer) → IsShareSeat sm → e ≡ said_of c r → Wrote bv sm.0 bv' sv' e
    → bv'.log ≡ bv.log ++ made_by (first sm.0.callers).number c r
new_log bv sm bv' sv' e c r s is w =
    let g = first sm.0.callers in
    let a : added sm.0.callers e ≡ made_by g.number c r = (λ i. added (s i).0.callers (is i)) ∙ added_made (caller g.number g.seen) c r in
    ap (λ (v : View). v.log) w.book_is ∙ ap (λ (l : List Owned). bv.log ++ l) a

-- the journal that the book's seat knows stays after a look
pub same_log : (bv : View) (sm : Me (Option Entry) View) (bv' sv' : View) → IsShareSeat sm → Wrote bv sm.0 bv' sv' None → bv'.log ≡ bv.log
same_log bv sm bv' sv' s w =
    let none : added sm.0.callers None ≡ [] = ap (λ (m : Me (Option Entry) View). added m.0.callers None) s in
    ap (λ (v : View). v.log) w.book_is ∙ ap (λ (l : List Owned). bv.log ++ l) none ∙ append-nil bv.log

-- the journal of the book is still that of its seat
pub new_journal : (j j' : List Entry) (log log' : List Owned) (number : ℕ) (c : Command) (r : Answer) → j ≡ entries log → j' ≡ journal_after j c r → log' ≡ log ++ made_by number c r → j' ≡ entries log'
new_journal j j' log log' number c r is now more =
    now ∙ journal_made j c r ∙ (λ i. is i ++ sym (entries_made number c r) i) ∙ sym (entries_append log (made_by number c r)) ∙ ap entries (sym more)

-- a command's entry is owned by one of the callers
pub new_owners : (count : ℕ) (log log' : List Owned) (number : ℕ) (c : Command) (r : Answer) → number < count → OwnersBelow count log → log' ≡ log ++ made_by number c r → OwnersBelow count log'
new_owners count log log' number c r lt o is = subst (OwnersBelow count) (sym is) (owners_append count log (made_by number c r) o (owners_made count number c r lt))

-- the book's seat still has the log and no caller after a caller's write
pub book_seat_is : (bv sv sv' : View) (m : Me (Option Entry) View) (e : Option Entry) (count : ℕ) → IsBookSeat m → Wrote bv sv m.0 sv' e → bv.shares ≡ count → m ≡ (book_view m.0.log count, [])
book_seat_is bv sv sv' m e count is w n = is ∙ ap (λ (k : ℕ). let x : Me (Option Entry) View = (book_view m.0.log k, []) in x) (ap (λ (v : View). v.shares) w.book_is ∙ n)

owners_right : (count : ℕ) (xs ys : List Owned) → OwnersBelow count (xs ++ ys) → OwnersBelow count ys
owners_right count [] ys o = o
owners_right count (x ∷ xs) ys o = owners_right count xs ys o.1

owners_left : (count : ℕ) (xs ys : List Owned) → OwnersBelow count (xs ++ ys) → OwnersBelow count xs
owners_left count [] ys o = tt
owners_left count (x ∷ xs) ys o = (o.0, owners_left count xs ys o.1)

-- the one share owns every entry
sole : (xs : List Owned) → OwnersBelow 1 xs → entries_by 0 xs ≡ entries xs
sole [] o = refl
sole (x ∷ xs) o = let zero_is : x.owner ≡ 0 = omega (arith, o.0) in
    subst (λ (b : Bool). (if b then (x.entry ∷ entries_by 0 xs) else entries_by 0 xs) ≡ x.entry ∷ entries xs) (sym (eq-eqb x.owner 0 zero_is)) (ap (λ (l : List Entry). x.entry ∷ l) (sole xs o.1))

sole_of : (callers number : ℕ) (log : List Owned) → number < callers → OwnersBelow callers log → callers ≡ 1 → entries_by number log ≡ entries log
sole_of callers number log lt o one =
    let here : number ≡ 0 = omega arith in
    ap (λ (n : ℕ). entries_by n log) here ∙ sole log (subst (λ (n : ℕ). OwnersBelow n log) one o)

none_between : (xs : List Owned) → entries xs ≡ [] → xs ≡ []
none_between [] e = refl
none_between (x ∷ xs) e = absurd (cc e)

-- a share is shown a legal journal, whose last entries are its own
pub sees_on : (parts : PartsId) (old new : Caller) (log log' more : List Owned) → log' ≡ log ++ more → new ≡ caller old.number log' → Begins old.number old.seen log → old.number < parts.callers
    → OwnersBelow parts.callers log' → AreAnswers (opening parts.frames.shape) (entries log') → SeesOn parts old new more
sees_on parts old new log log' more is share begins lt owners legal =
    let seen : log' ≡ (old.seen ++ begins.0) ++ more = is ∙ ap (λ (l : List Owned). l ++ more) begins.1 in
    let now : new.seen ≡ log' = ap (λ (c : Caller). c.seen) share in
    let number : new.number ≡ old.number = ap (λ (c : Caller). c.number) share in
    let between = owners_right parts.callers old.seen begins.0 (owners_left parts.callers (old.seen ++ begins.0) more (subst (OwnersBelow parts.callers) seen owners)) in
    record {
      number = number;
      between = begins.0;
      seen = now ∙ seen;
      others = begins.2;
      legal = subst (λ (l : List Owned). AreAnswers (opening parts.frames.shape) (entries l)) (sym now) legal;
      alone = λ one. none_between begins.0 (sym (sole_of parts.callers old.number begins.0 lt between one) ∙ begins.2);
      whole = λ one. (λ i. entries_by (number i) (now i)) ∙ sole_of parts.callers old.number log' lt owners one ∙ ap entries (sym now);
    }

-- the share has seen what the book's seat knows
pub shown_all : (bv sv bv' sv' : View) (e : Option Entry) → Wrote bv sv bv' sv' e → first sv'.callers ≡ caller (first sv.callers).number bv'.log
shown_all bv sv bv' sv' e w =
    let number = (first sv.callers).number in
    ap (λ (v : View). first v.callers) w.share_is ∙ ap (λ (l : List Owned). caller number l) (sym (ap (λ (v : View). v.log) w.book_is))

-- the answers in the journal of a locked book are those that its commands may have
pub answers_seen : (parts : PartsId) (b : JournaledBook) (es : List Entry) → b.keeper.table ≡ parts.frames → b.journal ≡ es → IsLegal b.keeper.table.shape b.journal b.state
    → AreAnswers (opening parts.frames.shape) es
answers_seen parts b es own journal legal =
    subst (λ (x : TableName × List Entry). AreAnswers (opening x.0.shape) x.1) (λ i. (own i, journal i)) legal.answers

-- its part gains its entries of those added
part_gains : (parts : PartsId) (old new : Caller) (more : List Owned) → SeesOn parts old new more → part_of new ≡ part_of old ++ entries_by old.number more
part_gains parts old new more x =
    (λ i. entries_by (x.number i) (x.seen i))
    ∙ entries_by_append old.number (old.seen ++ x.between) more
    ∙ ap (λ (l : List Entry). l ++ entries_by old.number more) (entries_by_append old.number old.seen x.between ∙ ap (λ (l : List Entry). part_of old ++ l) x.others ∙ append-nil (part_of old))

-- a caller's part grows by the entry that it made
pub part_grows : (parts : PartsId) (old new : Caller) (c : Command) (r : Answer) → SeesOn parts old new (made_by old.number c r) → part_of new ≡ part_of old ++ made c r
part_grows parts old new c r x = part_gains parts old new (made_by old.number c r) x ∙ ap (λ (l : List Entry). part_of old ++ l) (own_made old.number c r)

-- a caller's part stays where nothing was added
pub part_stays : (parts : PartsId) (old new : Caller) → SeesOn parts old new [] → part_of new ≡ part_of old
part_stays parts old new x = part_gains parts old new [] x ∙ append-nil (part_of old)

-- with one share the journal goes on with the new entry alone
alone_grows : (parts : PartsId) (old new : Caller) (c : Command) (r : Answer) → parts.callers ≡ 1 → SeesOn parts old new (made_by old.number c r) → entries new.seen ≡ entries old.seen ++ made c r
alone_grows parts old new c r one x =
    let is : new.seen ≡ old.seen ++ made_by old.number c r =
    x.seen ∙ ap (λ (b : List Owned). (old.seen ++ b) ++ made_by old.number c r) (x.alone one) ∙ ap (λ (l : List Owned). l ++ made_by old.number c r) (append-nil old.seen) in
    ap entries is ∙ entries_append old.seen (made_by old.number c r) ∙ ap (λ (l : List Entry). entries old.seen ++ l) (entries_made old.number c r)

-- with one share a look shows nothing more
pub shows_nothing : (parts : PartsId) (old new : Caller) → SeesOn parts old new [] → parts.callers ≡ 1 → new ≡ old
shows_nothing parts old new x one =
    let seen : new.seen ≡ old.seen = x.seen ∙ append-nil (old.seen ++ x.between) ∙ ap (λ (b : List Owned). old.seen ++ b) (x.alone one) ∙ append-nil old.seen in
    (λ i. caller (x.number i) (seen i))

abbrev States : Type 0
States = (b : BookState) (earlier later : List Entry) → replay b (earlier ++ later) ≡ replay (replay b earlier) later

abbrev Parts : Type 0
Parts = (b : BookState) (earlier later : List Entry) → AreAnswers b (earlier ++ later) → AreAnswers b earlier × AreAnswers (replay b earlier) later

-- an answer that the definitions allow is one that they allow beside want of memory
or_memory : (b : BookState) (c : Command) (r : Answer) → IsAnswer b c r → IsAnswerOrMemory b c r
or_memory b c (Ok reply) h = h
or_memory b c (Err Memory) h = tt
or_memory b c (Err UnknownPage) h = h
or_memory b c (Err AlreadyRegistered) h = h
or_memory b c (Err (NoFrame node)) h = h
or_memory b c (Err NotRunning) h = h
or_memory b c (Err SharedPages) h = h
or_memory b c (Err BadValue) h = h
or_memory b c (Err InUse) h = h
or_memory b c (Err CrossesNodes) h = h
or_memory b c (Err UnknownPlace) h = h
or_memory b c (Err BadNode) h = h

memory_fits : (b : BookState) (c : Command) (r : Answer) → is_memory r ≡ true → IsAnswerOrMemory b c r × (after b c r ≡ b)
memory_fits b c (Ok reply) is = absurd (cc is)
memory_fits b c (Err Memory) is = (tt, refl)
memory_fits b c (Err UnknownPage) is = absurd (cc is)
memory_fits b c (Err AlreadyRegistered) is = absurd (cc is)
memory_fits b c (Err (NoFrame node)) is = absurd (cc is)
memory_fits b c (Err NotRunning) is = absurd (cc is)
memory_fits b c (Err SharedPages) is = absurd (cc is)
memory_fits b c (Err BadValue) is = absurd (cc is)
memory_fits b c (Err InUse) is = absurd (cc is)
memory_fits b c (Err CrossesNodes) is = absurd (cc is)
memory_fits b c (Err UnknownPlace) is = absurd (cc is)
memory_fits b c (Err BadNode) is = absurd (cc is)

-- with one caller the journal is its part, and its command a step from there
pub steps_alone : States → Parts → (parts : PartsId) (old new : Caller) (c : Command) (r : Answer) → SeesOn parts old new (made_by old.number c r) → StepsAlone parts old new c r
steps_alone states answers parts old new c r x one = by_memory (is_memory r) refl
  where
    start : BookState
    start = opening parts.frames.shape

    by_memory : (m : Bool) → is_memory r ≡ m → IsAnswerOrMemory (state_seen parts old) c r × (state_seen parts new ≡ after (state_seen parts old) c r)
    by_memory true e =
        let none : made c r ≡ [] = ap (λ (b : Bool). if b then [] else (c, r) ∷ []) e in
        let same : entries new.seen ≡ entries old.seen = alone_grows parts old new c r one x ∙ ap (λ (l : List Entry). entries old.seen ++ l) none ∙ append-nil (entries old.seen) in
        let fits = memory_fits (state_seen parts old) c r e in
        (fits.0, ap (replay start) same ∙ sym fits.1)
    by_memory false e =
        let some : made c r ≡ (c, r) ∷ [] = ap (λ (b : Bool). if b then [] else (c, r) ∷ []) e in
        let more : entries new.seen ≡ entries old.seen ++ (c, r) ∷ [] = alone_grows parts old new c r one x ∙ ap (λ (l : List Entry). entries old.seen ++ l) some in
        let may = (answers start (entries old.seen) ((c, r) ∷ []) (subst (AreAnswers start) more x.legal)).1 in
        (or_memory (state_seen parts old) c r may.0, ap (replay start) more ∙ states start (entries old.seen) ((c, r) ∷ []))

-- the entries after a command
entries_grow : (log log' : List Owned) (number : ℕ) (c : Command) (r : Answer) → log' ≡ log ++ made_by number c r → entries log' ≡ entries log ++ made c r
entries_grow log log' number c r is = ap entries is ∙ entries_append log (made_by number c r) ∙ ap (λ (l : List Entry). entries log ++ l) (entries_made number c r)

list_said : (said : Option Entry) (c : Command) (r : Answer) → said ≡ said_of c r → list_of said ≡ made c r
list_said said c r is = ap list_of is ∙ elim (is_memory r) as (λ (b : Bool). list_of (if b then None else Some (c, r)) ≡ (if b then [] else ((c, r) ∷ []))) [ true ↦ refl | false ↦ refl ]

-- the entries that were followed are still the journal after the next command
pub follows_on : (j j' : List Entry) (log log' : List Owned) (number : ℕ) (c : Command) (r : Answer) (said : Option Entry) → log' ≡ log ++ made_by number c r → said ≡ said_of c r → j ≡ entries log
    → j' ≡ j ++ list_of said → j' ≡ entries log'
follows_on j j' log log' number c r said more is now next =
    next ∙ (λ i. now i ++ list_said said c r is i) ∙ sym (entries_grow log log' number c r more)

-- the entries that are followed next are the journal of the book
pub follows_book : (j b b' : List Entry) (c : Command) (r : Answer) (said : Option Entry) → j ≡ b → b' ≡ journal_after b c r → said ≡ said_of c r → b' ≡ j ++ list_of said
follows_book j b b' c r said now next is = next ∙ journal_made b c r ∙ (λ i. sym now i ++ sym (list_said said c r is) i)

-- the journal of a locked book leads to its state
pub leads_seen : (parts : PartsId) (b : JournaledBook) (es : List Entry) → b.keeper.table ≡ parts.frames → b.journal ≡ es → IsLegal b.keeper.table.shape b.journal b.state
    → b.state ≡ replay (opening parts.frames.shape) es
leads_seen parts b es own journal legal = legal.leads ∙ (λ i. replay (opening (own i).shape) (journal i))
