-- What a call does to a pass, and what it answers (own).
use Rattle.std.specs.Prelude.{◌≡◌, ℕ, ◌<◌, ◌≤◌, List, slice_index, Option, Some, None}
use Rattle.ksm_base.specs.declared.page.TheConstants.{PAGE_WORDS}
use Rattle.ksm_base.specs.Values.{frames_of}
use Rattle.frame_table.specs.declared.pass.Found.{Found}
use Rattle.frame_table.specs.declared.pass.Found.TheVariants as found
use Rattle.frame_table.specs.declared.pass.Why.{Why}
use Rattle.frame_table.specs.declared.pass.Why.TheVariants as why
use Rattle.frame_table.specs.declared.equal.FoundEqual.{FoundEqual}
use Rattle.frame_table.specs.declared.equal.FoundEqual.TheVariants as equal
use Rattle.frame_table.specs.Named.{TableName, HeldView, PassView}
use Rattle.frame_table.specs.Lookup.{LooksUp, ReadsWord, Leaves}
use Rattle.frame_table.specs.Equal.{LooksUpEqual, SameHold, IsRead}
use Rattle.ksm_ffi.specs.declared.answer.Answer.{Answer}
use Rattle.ksm_ffi.specs.declared.answer.Answer.TheVariants as answer
use Rattle.ksm_ffi.specs.declared.reader.Phase.{Phase}
use Rattle.ksm_ffi.specs.declared.reader.Phase.TheVariants.{Idle, Held, Away}

-- what a pass does: it is there, or its hold is
abbrev pub phase_of : Option PassView → Option HeldView → Phase
phase_of (Some p) None = Idle p
phase_of None (Some h) = Held h
phase_of _ _ = Away

-- the pass is of this table; between calls it is with nobody else
abbrev pub IsOf : TableName → Phase → Type 0
IsOf t (Idle p) = p.table ≡ t
IsOf t (Held h) = h.table ≡ t
IsOf t Away = ⊥

-- what is answered where there was nothing to hold
abbrev pub why_answer_of : Why → Answer
why_answer_of why.Vacant = answer.Vacant
why_answer_of why.Zero = answer.Zero
why_answer_of why.Generation = answer.Life

-- what is answered to what a lookup found, and what the pass does then
abbrev pub found_answer : Found → Answer
found_answer (found.Held h) = answer.Done
found_answer (found.Gone p w) = why_answer_of w
found_answer (found.Busy p) = answer.Busy

abbrev pub found_phase : Found → Phase
found_phase (found.Held h) = Held h
found_phase (found.Gone p w) = Idle p
found_phase (found.Busy p) = Idle p

abbrev pub equal_answer : FoundEqual → Answer
equal_answer (equal.Held h) = answer.Done
equal_answer (equal.Differs h) = answer.Differs
equal_answer (equal.Gone p w) = why_answer_of w
equal_answer (equal.Busy p) = answer.Busy

abbrev pub equal_phase : FoundEqual → Phase
equal_phase (equal.Held h) = Held h
equal_phase (equal.Differs h) = Held h
equal_phase (equal.Gone p w) = Idle p
equal_phase (equal.Busy p) = Idle p

-- nothing has changed, and this is why
abbrev pub Stays : Phase → Answer → Answer → Phase → Type 0
Stays before reason a after = (a ≡ reason) × (after ≡ before)

-- whether a place may be looked up: the pass holds nothing, and its table has the place
abbrev pub MayLookUp : Phase → ℕ → Type 0
MayLookUp (Idle v) place = place < frames_of v.table.shape
MayLookUp (Held v) place = ⊥
MayLookUp Away place = ⊥

-- what is answered where a place may not be looked up
abbrev pub why_not_of : Phase → Answer
why_not_of (Idle v) = answer.Range
why_not_of (Held v) = answer.Holding
why_not_of Away = answer.Holding

-- a lookup of a place by a pass that holds nothing
abbrev pub Finds : Phase → ℕ → Answer → Phase → Type 0
Finds (Idle v) place a after =
    (place < frames_of v.table.shape → (f : Found) × LooksUp v place f × (a ≡ found_answer f) × (after ≡ found_phase f))
    × (frames_of v.table.shape ≤ place → Stays (Idle v) answer.Range a after)
Finds (Held v) place a after = Stays (Held v) answer.Holding a after
Finds Away place a after = Unit {0}

-- the same, with a comparison of the frame's words with a page
abbrev pub FindsEqual : Phase → ℕ → List ℕ → Answer → Phase → Type 0
FindsEqual (Idle v) place page a after = (place < frames_of v.table.shape → (f : FoundEqual)
    × LooksUpEqual v place page f × (a ≡ equal_answer f) × (after ≡ equal_phase f))
    × (frames_of v.table.shape ≤ place → Stays (Idle v) answer.Range a after)
FindsEqual (Held v) place page a after = Stays (Held v) answer.Holding a after
FindsEqual Away place page a after = Unit {0}

-- a load of the word i of the frame that is held
abbrev pub Reads : Phase → ℕ → Answer → ℕ → Phase → Type 0
Reads (Held v) i a word after =
    (i < PAGE_WORDS → (a ≡ answer.Done) × ((w : HeldView) × ReadsWord v i word w × (after ≡ Held w)))
    × (PAGE_WORDS ≤ i → Stays (Held v) answer.Range a after)
Reads (Idle v) i a word after = Stays (Idle v) answer.Idle a after
Reads Away i a word after = Unit {0}

-- each word of the page is read, and these are they
abbrev pub ReadsPage : HeldView → List ℕ → HeldView → Type 0
ReadsPage v words w = SameHold v w × ((i : ℕ) → i < PAGE_WORDS → IsRead w i (slice_index words i))

-- a load of each word of the frame that is held
abbrev pub ReadsAll : Phase → Answer → List ℕ → Phase → Type 0
ReadsAll (Held v) a words after = (a ≡ answer.Done) × ((w : HeldView) × ReadsPage v words w × (after ≡ Held w))
ReadsAll (Idle v) a words after = Stays (Idle v) answer.Idle a after
ReadsAll Away a words after = Unit {0}

-- the reference is given back
abbrev pub GoesIdle : Phase → Answer → Phase → Type 0
GoesIdle (Held v) a after = (a ≡ answer.Done) × ((p : PassView) × Leaves v p × (after ≡ Idle p))
GoesIdle (Idle v) a after = Stays (Idle v) answer.Idle a after
GoesIdle Away a after = Unit {0}

abbrev pub IsIdle : Phase → Type 0
IsIdle (Idle v) = Unit {0}
IsIdle (Held v) = ⊥
IsIdle Away = ⊥

-- what is told of a hold: its place, its frame and its life
abbrev pub Tells : Phase → Answer → ℕ → ℕ → ℕ → Type 0
Tells (Held v) a place frame life = (a ≡ answer.Done) × (place ≡ v.place) × (frame ≡ v.frame) × (life ≡ v.generation)
Tells (Idle v) a place frame life = a ≡ answer.Idle
Tells Away a place frame life = Unit {0}

-- each word of the page is read, and then the reference is given back
abbrev pub ReadsThenLeaves : HeldView → List ℕ → PassView → Type 0
ReadsThenLeaves v words p = (w : HeldView) × ReadsPage v words w × Leaves w p

-- what was found is read and left; where nothing was, the pass holds nothing
abbrev pub ReadsAndLeaves : Found → List ℕ → Phase → Type 0
ReadsAndLeaves (found.Held v) words after = (p : PassView) × ReadsThenLeaves v words p × (after ≡ Idle p)
ReadsAndLeaves (found.Gone p w) words after = after ≡ Idle p
ReadsAndLeaves (found.Busy p) words after = after ≡ Idle p

-- a whole lookup: where a frame was found, its words are read, and the reference is given back
abbrev pub LooksUpAll : Phase → ℕ → Answer → List ℕ → Phase → Type 0
LooksUpAll (Idle v) place a words after = (frames_of v.table.shape ≤ place → Stays (Idle v) answer.Range a after)
    × (place < frames_of v.table.shape → (f : Found) × LooksUp v place f × (a ≡ found_answer f)
    × ReadsAndLeaves f words after)
LooksUpAll (Held v) place a words after = Stays (Held v) answer.Holding a after
LooksUpAll Away place a words after = Unit {0}

-- the same, and the pass is as it was
abbrev pub TellsHold : Phase → Answer → ℕ → ℕ → ℕ → Phase → Type 0
TellsHold v a place frame life after = Tells v a place frame life × (after ≡ v)
