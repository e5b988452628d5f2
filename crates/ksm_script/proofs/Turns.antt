-- A run goes on by one line.
use Rattle.ksm_script.proofs.Names.{[], AllRead, Answered, AnsweredAll, AnsweredLast, AnsweredToBad, Answers, ap, append-nil, append_assoc, Appends, Appends-kept, Appends-nil, Appends-trans}
use Rattle.ksm_script.proofs.Names.{AppendsPart, at, AtOnce, Bad, bad_line, BadLine, Bool, BreaksOff, CarriesOut, Consumes, Consumes-nil, Consumes-trans, Dialogue, Empty, End, end_at, EndsAs, EndsBad}
use Rattle.ksm_script.proofs.Names.{EndsOpen, Err, false, Goes, GoesOn, HasReplied, inl, Input, inr, IsAtEnd, IsBad, IsDone, IsErrAnd, IsNoLine, IsPlain, IsReadAs, IsReplied, IsSaid, IsSoFar}
use Rattle.ksm_script.proofs.Names.{IsWithin, Keeps, length, Line, LineEnd, LineFault, LineReply, List, more, Newline, nil_from_length, None, none, Ok, Option, Read, ReadFor, refl, reply_text, Result}
use Rattle.ksm_script.proofs.Names.{result_and, RunFault, ScriptState, SessionView, silent, Some, some_is, streams, subst, sym, TakesForm, Talks, text_of, took, Took, TooLong, true, waited, Write}
use Rattle.ksm_script.proofs.Names.{WritesReply, ℕ, ◌++◌, ◌+◌, ◌∙◌, ◌∷◌, ◌≡◌, ◌≢◌, ◌≤◌, ◌⊎◌}
use Rattle.ksm_script.proofs.Parts.{broken_after}

-- a run ends so, or goes on
abbrev ended_so : End → Result End RunFault
ended_so end = Ok end

abbrev went_so : Option End → Result (Option End) RunFault
went_so x = Ok x

-- before the first line, nothing was read and nothing written
pub nothing_yet : (reader writer : Option (List ℕ)) (state : ScriptState) → IsSoFar [] reader reader writer writer state state 1
nothing_yet reader writer state =
    record { text = []; count = 0; counted = refl; answered = none; consumed = Consumes-nil reader; appended = Appends-nil writer }

-- the same after a line was read
pub in_state : (lines : List ℕ) (first now : Option (List ℕ)) (begun written kept : Option (List ℕ)) (from state same : ScriptState) (number : ℕ) → same ≡ state
    → Keeps written kept → IsSoFar lines first now begun written from state number → IsSoFar lines first now begun kept from same number
in_state lines first now begun written kept from state same number e k s =
    let stays : Appends begun kept s.text = Appends-kept begun written kept s.text s.appended k in
    record {
      text = s.text;
      count = s.count;
      counted = s.counted;
      answered = subst (λ (b : ScriptState). Answered from lines s.text s.count b) (sym e) s.answered;
      consumed = s.consumed;
      appended = stays;
    }

-- a line as it was read, which ended so
pub record IsRead (Talk : List ℕ → Type 0) (now next : Option (List ℕ)) (line : List ℕ) (end : LineEnd) : Type 0 where
  pub bytes : List ℕ
  pub talk : Talk bytes
  pub ends : EndsAs end line bytes
  pub consumed : Consumes now next bytes
  pub plain : IsPlain line
  pub last : end ≡ Input → IsAtEnd next

-- a line of no bytes was answered
pub one_empty : {R W : Type 0} (remaining : R → Option (List ℕ)) (takes : R → R → List ℕ → Type 0) (contents : W → Option (List ℕ)) (fails : W → Type 0) (now later : R) (writer : W) (session : SessionView)
    → TakesForm Empty (Took remaining takes now later) → AtOnce remaining takes contents fails (now, writer, session) (later, writer, session) (Ok true)
one_empty remaining takes contents fails now later writer session taken =
    let state = session.state in
    let carried : CarriesOut state taken.0 None state =
    record { form = Empty; plain = taken.2; short = taken.3; written = taken.1; answers = (refl, refl) } in
    ((taken.0, None, carried, taken.4.0, Appends-nil (contents writer)), taken.4.1)

module _ {R W : Type 0} (remaining : R → Option (List ℕ)) (takes : R → R → List ℕ → Type 0) (waits : W → R → R → Option (List ℕ) → Type 0) (is_sent : W → Type 0)
    (contents : W → Option (List ℕ)) (first : R) (begun : Option (List ℕ)) (from : ScriptState) where
  abbrev pub Replied : List ℕ → W → Type 0
  Replied = HasReplied is_sent contents begun from

  -- where a run is before the line of a number, and by which dialogue it came there
  abbrev pub IsAt : R → W → ScriptState → ℕ → Type 0
  IsAt now written state number =
      (lines : List ℕ) × IsSoFar lines (remaining first) (remaining now) begun (contents written) from state number × Dialogue takes waits Replied first now lines

  -- a dialogue goes on by that of one line
  join : (Within : List ℕ → W → Type 0) (now : R) (lines : List ℕ) → ((before : List ℕ) (writer : W) → Within before writer → Replied (lines ++ before) writer)
      → Dialogue takes waits Replied first now lines → (next : R) (bytes : List ℕ) → Dialogue takes waits Within now next bytes → Dialogue takes waits Replied first next (lines ++ bytes)
  join Within now lines may so next bytes silent = subst (Dialogue takes waits Replied first now) (sym (append-nil lines)) so
  join Within now lines may so next bytes (took {now = mid} {before = before} talk part taken) =
      subst (Dialogue takes waits Replied first next) (append_assoc lines before part) (took (join Within now lines may so mid before talk) part taken)
  join Within now lines may so next bytes (waited {now = mid} {before = before} talk writer allowed part came) =
      subst (Dialogue takes waits Replied first next) (append_assoc lines before part) (waited (join Within now lines may so mid before talk) writer (may before writer allowed) part came)

  -- within a line, the replies to the lines before it are sent
  replied_within : (now : R) (written : W) (state : ScriptState) (number : ℕ) (at : IsAt now written state number) (before : List ℕ) (writer : W)
      → IsWithin is_sent contents written before writer → Replied (at.0 ++ before) writer
  replied_within now written state number at before writer within =
      let so = at.1 in
      let stays = Appends-kept begun (contents written) (contents writer) so.text so.appended within.1 in
      (at.0, before, so.text, so.count, state, refl, within.0, so.answered, stays, within.2)

  -- the dialogue of a run by that of its last line
  pub talk_on : (now next : R) (written : W) (state : ScriptState) (number : ℕ) → IsAt now written state number
      → ((bytes : List ℕ) × Dialogue takes waits (IsWithin is_sent contents written) now next bytes) → (bytes : List ℕ) × Dialogue takes waits Replied first next bytes
  talk_on now next written state number at talk = (at.0 ++ talk.0, join _ now at.0 (replied_within now written state number at) at.2 next talk.0 talk.1)

  -- the same where it broke off
  pub breaks_on : (fails : W → Type 0) (now next : R) (written writer : W) (state : ScriptState) (number : ℕ) → IsAt now written state number → (fault : RunFault)
      → BreaksOff takes waits fails (IsWithin is_sent contents written) now next writer fault → BreaksOff takes waits fails Replied first next writer fault
  breaks_on fails now next written writer state number at Write broken = let talk = talk_on now next written state number at (broken.1, broken.2) in (broken.0, talk.0, talk.1)
  breaks_on fails now next written writer state number at Read (inl failed) =
      let may = replied_within now written state number at in
      inl (at.0 ++ failed.0, failed.1, failed.2, join _ now at.0 may at.2 failed.1 failed.0 failed.3, may failed.0 failed.2 failed.4, failed.5)
  breaks_on fails now next written writer state number at Read (inr broken) = let talk = talk_on now next written state number at (broken.1, broken.2) in inr (broken.0, talk.0, talk.1)

  -- behind a line that was read
  pub went_on : (now next : R) (written wrote : W) (state : ScriptState) (number : ℕ) (session : SessionView) (at : IsAt now written state number)
      → GoesOn (Dialogue takes waits (IsWithin is_sent contents written) now next) at.0 (remaining first) (remaining next) begun (contents wrote) from session number (Ok None)
      → IsAt next wrote session.state (number + 1)
  went_on now next written wrote state number session at on =
      (at.0 ++ on.0, on.1, join _ now at.0 (replied_within now written state number at) at.2 next on.0 on.2)

  -- a run that a fault of its last line ends
  pub run_broken : (fails : W → Type 0) (next : R) (writer : W) (line : List ℕ) (to : ScriptState) (r : Result End RunFault) (e : RunFault) → IsErrAnd r (λ f. f ≡ e)
      → Goes (streams (remaining first) (remaining next) begun (contents writer)) from to (Err e) × BreaksOff takes waits fails Replied first next writer e
      → Goes (streams (remaining first) (remaining next) begun (contents writer)) from to r × EndsBad (remaining first) (remaining next) line r × Talks takes waits fails Replied first next writer r
      × (r ≡ ended_so AllRead → is_sent writer ⊎ EndsOpen (remaining first) (remaining next))
  run_broken fails next writer line to (Ok x) e is broken = absurd is
  run_broken fails next writer line to (Err f) e is broken = (
    subst (λ (x : RunFault). Goes (streams (remaining first) (remaining next) begun (contents writer)) from to (Err x)) (sym is) broken.0,
    tt,
    subst (BreaksOff takes waits fails Replied first next writer) (sym is) broken.1,
    λ all. absurd (cc all),
  )

  module _ (fails : W → Type 0) (old new : R × W × SessionView) (number : ℕ) (at : IsAt old.0 old.1 old.2.state number) where
    -- behind a line that was answered at once
    pub one_more : (b : Bool) → AtOnce remaining takes contents fails old new (Ok b) → b ≡ true → IsAt new.0 new.1 new.2.state (number + 1)
    one_more true told is =
        let so = at.1 in
        let one = told.0 in (
          at.0 ++ (one.0 ++ 10 ∷ []),
          record {
            text = so.text ++ reply_text one.1;
            count = so.count + 1;
            counted = ap (λ n. n + 1) so.counted;
            answered = more so.answered one.0 one.1 new.2.state one.2;
            consumed = Consumes-trans (remaining first) (remaining old.0) (remaining new.0) at.0 (one.0 ++ 10 ∷ []) so.consumed one.3;
            appended = Appends-trans begun (contents old.1) (contents new.1) so.text (reply_text one.1) so.appended one.4;
          },
          took at.2 (one.0 ++ 10 ∷ []) told.1,
        )
    one_more false told is = absurd (cc is)

    -- where no line was answered at once
    pub one_left : (b : Bool) → AtOnce remaining takes contents fails old new (Ok b) → b ≡ false → IsAt new.0 new.1 new.2.state number
    one_left true told is = absurd (cc is)
    one_left false same is =
        subst (λ (s : SessionView). IsAt new.0 new.1 s.state number) (sym same.2)
        (subst (λ (w : W). IsAt new.0 w old.2.state number) (sym same.1) (subst (λ (r : R). IsAt r old.1 old.2.state number) (sym same.0) at))

    -- a run whose last line was answered at once, and its reply broken off
    pub one_broken : (fault : RunFault) → AtOnce remaining takes contents fails old new (Err fault)
        → Goes (streams (remaining first) (remaining new.0) begun (contents new.1)) from new.2.state (Err fault) × BreaksOff takes waits fails Replied first new.0 new.1 fault
    one_broken fault told =
        let so = at.1 in
        let one = told.2 in
        let consumed = Consumes-trans (remaining first) (remaining old.0) (remaining new.0) at.0 (one.0 ++ 10 ∷ []) so.consumed one.3 in
        subst (λ f. Goes (streams (remaining first) (remaining new.0) begun (contents new.1)) from new.2.state (Err f) × BreaksOff takes waits fails Replied first new.0 new.1 f) (sym told.0) (
          inl (so.text, one.1, (at.0, one.0, at.0 ++ (one.0 ++ 10 ∷ []), so.count, old.2.state, so.answered, one.2, inl refl, consumed), broken_after _ _ _ so.text _ so.appended one.4),
          (told.1, at.0 ++ (one.0 ++ 10 ∷ []), took at.2 (one.0 ++ 10 ∷ []) told.3),
        )

module _ {R W : Type 0} (remaining : R → Option (List ℕ)) (takes : R → R → List ℕ → Type 0) (contents : W → Option (List ℕ)) (fails : W → Type 0) (now later : R) (old new : W) (from to : SessionView)
    (form : Line) (taken : TakesForm form (Took remaining takes now later)) where
  carried_as : (reply : Option LineReply) → Answers form from.state reply to.state → CarriesOut from.state taken.0 reply to.state
  carried_as reply answers = record { form = form; plain = taken.2; short = taken.3; written = taken.1; answers = answers }

  -- a line that was taken whole, and whose reply was written or broken off
  pub said_once : (r : Result (Unit {0}) RunFault) → IsSaid (WritesReply contents fails) (Answers form) from to old new r
      → AtOnce remaining takes contents fails (now, old, from) (later, new, to) (result_and r (Ok true))
  said_once (Ok x) (inl said) = ((taken.0, Some said.0, carried_as (Some said.0) said.1, taken.4.0, said.2.0), taken.4.1)
  said_once (Ok x) (inr quiet) =
      let same = subst (λ (w : W). Appends (contents old) (contents w) []) (sym quiet.1) (Appends-nil (contents old)) in
      ((taken.0, None, carried_as None quiet.0, taken.4.0, same), taken.4.1)
  said_once (Err e) (inl said) =
      let cut = said.2.1 in (cut.0, cut.1, (taken.0, said.0, carried_as (Some said.0) said.1, taken.4.0, cut.2), taken.4.1)
  said_once (Err e) (inr quiet) = absurd (cc quiet.2)

-- a failed write ends a run
pub broke_on : (Line : List ℕ → Type 0) (lines : List ℕ) (first now begun written : Option (List ℕ)) (from : ScriptState) (session : SessionView) (number : ℕ) (told : Result (Option End) RunFault)
    → told ≡ Err Write → Goes (streams first now begun written) from session.state (Err Write) → GoesOn Line lines first now begun written from session number told
broke_on Line lines first now begun written from session number told is h =
    subst (λ (r : Result (Option End) RunFault). GoesOn Line lines first now begun written from session number r) (sym is) h

-- a run goes on behind a line, or ends with it, as it was told
pub goes_so : (Line : List ℕ → Type 0) (lines : List ℕ) (first now begun written : Option (List ℕ)) (from : ScriptState) (session : SessionView) (number : ℕ) (x y : Option End) → x ≡ y
    → GoesOn Line lines first now begun written from session number (Ok x) → GoesOn Line lines first now begun written from session number (Ok y)
goes_so Line lines first now begun written from session number x y is on = subst (λ (z : Option End). GoesOn Line lines first now begun written from session number (Ok z)) is on

-- where a run ends with all read, its last line ended it so
pub all_told : (x : Option End) (end : End) → x ≡ Some end → ended_so end ≡ ended_so AllRead → went_so x ≡ went_so (Some AllRead)
all_told x end is all = cc

-- what ends within a line, or is sent, does so behind the lines that were read before
pub open_behind : {S : Type 0} (first now later : Option (List ℕ)) (lines : List ℕ) → Consumes first now lines → S ⊎ EndsOpen now later → S ⊎ EndsOpen first later
open_behind first now later lines so (inl sent) = inl sent
open_behind first now later lines so (inr last) =
    let consumed = subst (λ (t : List ℕ). Consumes first later t) (sym (append_assoc lines last.0 last.1)) (Consumes-trans first now later lines (last.0 ++ last.1) so last.2) in
    inr (lines ++ last.0, last.1, consumed, last.3, last.4)

last_of : (end : LineEnd) → went_so (end_at end) ≡ went_so (Some AllRead) → end ≡ Input
last_of Newline e = absurd (cc e)
last_of Input e = refl
last_of TooLong e = absurd (cc e)

-- where a run ends with all read, the input ended with its last line
pub replied_last : (end : LineEnd) (number : ℕ) (old new : SessionView) (reply : Option LineReply) (ended : Option End) → IsReplied end number old new reply ended
    → went_so ended ≡ went_so (Some AllRead) → end ≡ Input
replied_last end number old new reply ended (inl did) all = last_of end (ap went_so (sym did.1) ∙ all)
replied_last end number old new reply ended (inr bad) all = absurd (cc (ap went_so (sym bad.2) ∙ all))

abbrev pub found : LineEnd → Result LineEnd RunFault
found end = Ok end

-- a plain line that was taken from the input was read
pub read_as : (Line : List ℕ → Type 0) (now next : Option (List ℕ)) (line : List ℕ) (end : LineEnd) → ((bytes : List ℕ) × EndsAs end line bytes × Consumes now next bytes × Line bytes) → IsPlain line
    → (found end ≡ found Input → IsAtEnd next) → IsRead Line now next line end
read_as Line now next line end read plain last =
    record { bytes = read.0; talk = read.3; ends = read.1; consumed = read.2; plain = plain; last = λ e. last (ap (λ (x : LineEnd). found x) e) }

-- a line of some bytes that the end of the input ended
pub ends_within : (Line : List ℕ → Type 0) (now later : Option (List ℕ)) (line : List ℕ) (end : LineEnd) → IsRead Line now later line end → end ≡ Input → length line ≢ 0 → EndsOpen now later
ends_within Line now later line end read last some =
    let whole : read.bytes ≡ line = (subst (λ (e : LineEnd). EndsAs e line read.bytes) last read.ends).0 in
    ([], line, subst (λ (t : List ℕ). Consumes now later t) whole read.consumed, read.plain, λ is. some (ap length is))

not_long : (end : LineEnd) (line bytes : List ℕ) → end ≢ TooLong → EndsAs end line bytes → length line ≤ 256
not_long Newline line bytes h e = e.1
not_long Input line bytes h e = e.1
not_long TooLong line bytes h e = absurd (h refl)

read_for : (left : Option (List ℕ)) (end : LineEnd) (lines line bytes : List ℕ) → end ≢ TooLong → EndsAs end line bytes → (end ≡ Input → IsAtEnd left)
    → ReadFor (lines ++ (line ++ 10 ∷ [])) (lines ++ bytes) left
read_for left Newline lines line bytes h e last = inl (ap (λ (t : List ℕ). lines ++ t) e.0)
read_for left Input lines line bytes h e last =
    inr (append_assoc lines bytes (10 ∷ []) ∙ ap (λ (t : List ℕ). lines ++ (t ++ 10 ∷ [])) e.0, last refl)
read_for left TooLong lines line bytes h e last = absurd (h refl)

whole_line : (end : LineEnd) (line bytes : List ℕ) → end ≢ TooLong → end ≢ Input → EndsAs end line bytes → bytes ≡ line ++ 10 ∷ []
whole_line Newline line bytes h i e = e.0
whole_line Input line bytes h i e = absurd (i refl)
whole_line TooLong line bytes h i e = absurd (h refl)

bad_of : (left : Option (List ℕ)) (end : LineEnd) (line : List ℕ) → (end ≢ TooLong → IsNoLine line) → (end ≡ Input → IsAtEnd left) → IsBad end line left
bad_of left Newline line bad last = bad (λ e. absurd cc)
bad_of left Input line bad last = (bad (λ e. absurd cc), last refl)
bad_of left TooLong line bad last = tt

module _ (Line : List ℕ → Type 0) (lines : List ℕ) (first now later : Option (List ℕ)) (begun written : Option (List ℕ)) (from state : ScriptState) (number : ℕ) (line : List ℕ) (end : LineEnd)
    (so : IsSoFar lines first now begun written from state number) (read : IsRead Line now later line end) where
  consumed_then : Consumes first later (lines ++ read.bytes)
  consumed_then = Consumes-trans first now later lines read.bytes so.consumed read.consumed

  module _ (next : ScriptState) (reply : Option LineReply) (did : IsDone state next line end reply) where
    carried : CarriesOut state line reply next
    carried =
        record { form = did.form; plain = read.plain; short = not_long end line read.bytes did.short read.ends; written = did.written; answers = did.answers }

    turned : Answered from (lines ++ (line ++ 10 ∷ [])) (so.text ++ reply_text reply) (so.count + 1) next
    turned = more so.answered line reply next carried

    ended_by : ReadFor (lines ++ (line ++ 10 ∷ [])) (lines ++ read.bytes) later
    ended_by = read_for later end lines line read.bytes did.short read.ends read.last

    -- once the line is carried out, all lines that were read are answered
    pub answered_all : AnsweredAll first later from next (so.text ++ reply_text reply)
    answered_all =
        (lines ++ (line ++ 10 ∷ []), lines ++ read.bytes, so.count + 1, turned, ended_by, consumed_then)

    -- the same where the line has this reply
    pub answered_last : (told : LineReply) → reply ≡ Some told → AnsweredLast first later from next so.text told
    answered_last told is =
        let last = subst (λ (r : Option LineReply). CarriesOut state line r next) is carried in
        (lines, line, lines ++ read.bytes, so.count, state, so.answered, last, ended_by, consumed_then)

    -- once its reply is written, the run goes on behind a line that did not end at the end of the input
    pub goes_on : (wrote : Option (List ℕ)) → end ≢ Input → Appends written wrote (reply_text reply) → IsSoFar (lines ++ read.bytes) first later begun wrote from next (number + 1)
    goes_on wrote open_end appended =
        let whole = whole_line end line read.bytes did.short open_end read.ends in
        record {
          text = so.text ++ reply_text reply;
          count = so.count + 1;
          counted = ap (λ n. n + 1) so.counted;
          answered = subst (λ (t : List ℕ). Answered from (lines ++ t) (so.text ++ reply_text reply) (so.count + 1) next) (sym whole) turned;
          consumed = consumed_then;
          appended = Appends-trans begun written wrote so.text (reply_text reply) so.appended appended;
        }

  -- nothing was left to read
  pub all_read : end ≡ Input → length line ≡ 0 → AnsweredAll first later from state so.text
  all_read last nil =
      let empty : line ≡ [] = nil_from_length line nil in
      let nothing : read.bytes ≡ [] = (subst (λ (e : LineEnd). EndsAs e line read.bytes) last read.ends).0 ∙ empty in
      let all : lines ++ read.bytes ≡ lines = ap (λ (t : List ℕ). lines ++ t) nothing ∙ append-nil lines in
      (lines, lines, so.count, so.answered, inl refl, subst (λ (t : List ℕ). Consumes first later t) all consumed_then)

  -- where the line is bad, the lines before it are answered, and what was read ends with it, whatever its number
  pub bad_read : (fault : LineFault) → IsReadAs (Err fault) end line → AnsweredToBad first later from state so.text so.count × EndsBad first later line (Ok (BadLine 0))
  bad_read fault bad =
      let is = bad_of later end line bad read.last in
      ((line, read.bytes, end, (lines, so.answered, consumed_then), read.plain, read.ends, is), (lines, read.bytes, end, consumed_then, read.plain, read.ends, is))

module _ (Line : List ℕ → Type 0) (lines : List ℕ) (first now : Option (List ℕ)) (later begun written wrote : Option (List ℕ)) (from : ScriptState) (old new : SessionView) (number : ℕ)
    (so : IsSoFar lines first now begun written from old.state number) where
  -- a line that is carried out, and whose reply is written, ends the run or has it go on
  pub done_on : (end : LineEnd) (reply : Option LineReply) → IsRead Line now later old.line end → IsDone old.state new.state old.line end reply → Appends written wrote (reply_text reply)
      → GoesOn Line lines first later begun wrote from new number (Ok (end_at end))
  done_on Newline reply read did appended = (read.bytes, goes_on _ _ _ _ _ _ _ _ _ _ _ _ so read _ _ did _ (λ e. absurd cc) appended, read.talk)
  done_on Input reply read did appended =
      ((so.text ++ reply_text reply, answered_all _ _ _ _ _ _ _ _ _ _ _ _ so read _ _ did, Appends-trans _ _ _ so.text _ so.appended appended, read.last refl), tt, read.bytes, read.talk)
  done_on TooLong reply read did appended = absurd (did.short refl)

  -- a line whose reply is written, whatever it is
  pub replied_on : (end : LineEnd) (reply : Option LineReply) (ended : Option End) → IsRead Line now later old.line end → IsReplied end number old new reply ended
      → Appends written wrote (reply_text reply) → GoesOn Line lines first later begun wrote from new number (Ok ended)
  replied_on end reply ended read (inl did) appended =
      subst (λ (x : Option End). GoesOn Line lines first later begun wrote from new number (Ok x)) (sym did.1) (done_on end reply read did.0 appended)
  replied_on end reply ended read (inr bad) appended =
      let refused = bad_read _ _ _ _ _ _ _ _ _ _ _ _ so read Bad bad.0 in
      let text = subst (λ (r : Option LineReply). Appends written wrote (reply_text r)) bad.1 appended in
      let all = Appends-trans _ _ _ so.text _ so.appended text in
      let on : GoesOn Line lines first later begun wrote from old number (Ok (Some (BadLine number))) =
      ((so.text, so.count, sym so.counted, refused.0, all), refused.1, read.bytes, read.talk) in
      subst (λ (x : Option End). GoesOn Line lines first later begun wrote from new number (Ok x)) (sym bad.2)
      (subst (λ (s : SessionView). GoesOn Line lines first later begun wrote from s number (Ok (Some (BadLine number)))) (sym bad.3) on)

  -- a line whose reply is broken off
  pub replied_broken : (end : LineEnd) (reply : Option LineReply) (ended : Option End) → IsRead Line now later old.line end → IsReplied end number old new reply ended
      → (told : LineReply) → reply ≡ Some told → AppendsPart written wrote (text_of told) → Goes (streams first later begun wrote) from new.state (Err Write)
  replied_broken end reply ended read (inl did) told is part =
      inl (so.text, told, answered_last _ _ _ _ _ _ _ _ _ _ _ _ so read _ _ did.0 told is, broken_after _ _ _ so.text _ so.appended part)
  replied_broken end reply ended read (inr bad) told is part =
      let refused = bad_read _ _ _ _ _ _ _ _ _ _ _ _ so read Bad bad.0 in
      let same : told ≡ bad_line (so.count + 1) = some_is _ _ (sym is ∙ bad.1) ∙ ap bad_line (sym so.counted) in
      let broken = broken_after _ _ _ so.text _ so.appended (subst (λ r. AppendsPart written wrote (text_of r)) same part) in
      subst (λ (s : SessionView). Goes (streams first later begun wrote) from s.state (Err Write)) (sym bad.3) (inr (so.text, so.count, refused.0, broken))
