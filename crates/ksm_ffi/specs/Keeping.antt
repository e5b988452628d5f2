-- Which calls of the keeper are refused, and what those do that are not (own).
use Rattle.std.specs.Prelude.{◌≡◌, ℕ, ◌<◌, ◌≤◌, ◌==◌, cond, slice_index}
use Rattle.ksm_base.specs.declared.page.TheConstants.{PAGE_WORDS}
use Rattle.ksm_base.specs.declared.shape.Shape.{Shape}
use Rattle.ksm_base.specs.Values.{frames_of}
use Rattle.frame_core.specs.declared.event.KeeperStep.{KeeperStep}
use Rattle.frame_core.specs.declared.event.KeeperStep.TheVariants.{Reap, Put, Raise, Open, Add, Sub, Publish, Replace, Withdraw, Freeze, Word}
use Rattle.frame_core.specs.declared.frame.Kind.{Kind}
use Rattle.frame_core.specs.declared.frame.Kind.TheVariants.{Free, Filling, Private, Stable, Dying, Retired}
use Rattle.frame_core.specs.State.{count_in}
use Rattle.frame_core.specs.Ledger.{frame_at}
use Rattle.frame_table.specs.Named.{KeeperView}
use Rattle.frame_table.specs.Kept.{May, did}
use Rattle.ksm_ffi.specs.declared.answer.Answer.{Answer}
use Rattle.ksm_ffi.specs.declared.answer.Answer.TheVariants as answer

-- there are such a frame, place and word
abbrev pub IsInside : Shape → KeeperStep → Type 0
IsInside sh (Reap f) = f < frames_of sh
IsInside sh (Put f i w) = (f < frames_of sh) × (i < PAGE_WORDS)
IsInside sh (Raise f) = f < frames_of sh
IsInside sh (Open f) = f < frames_of sh
IsInside sh (Add f) = f < frames_of sh
IsInside sh (Sub f) = f < frames_of sh
IsInside sh (Publish p f) = (p < frames_of sh) × (f < frames_of sh)
IsInside sh (Replace p f) = (p < frames_of sh) × (f < frames_of sh)
IsInside sh (Withdraw p) = p < frames_of sh
IsInside sh (Freeze f) = f < frames_of sh
IsInside sh (Word f i) = (f < frames_of sh) × (i < PAGE_WORDS)

-- whether the step is allowed, and if not, why
abbrev pub Judges : KeeperView → KeeperStep → Answer → Type 0
Judges v e answer.Done = May v e
Judges v e answer.Range = ¬ IsInside v.table.shape e
Judges v e answer.State = IsInside v.table.shape e × ¬ May v e
Judges v e _ = ⊥

-- what is answered to a step that was made, which found this word
abbrev pub made_answer : KeeperView → KeeperStep → ℕ → Answer
made_answer v (Reap f) n = cond (count_in n == 0) answer.Done answer.Used
made_answer v (Freeze f) n = cond (count_in n == (frame_at v.ledger f).base) answer.Done answer.Used
made_answer v e n = answer.Done

-- the step is made where it is allowed, and else nothing has changed
abbrev pub Keeps : KeeperView → KeeperStep → Answer → KeeperView → Type 0
Keeps v e a w = (May v e → (n : ℕ) × (w ≡ did v e n) × (a ≡ made_answer v e n)) × (¬ May v e → Judges v e a × (w ≡ v))

-- what is loaded of a frame's words
abbrev pub KeepsWord : KeeperView → ℕ → ℕ → Answer → ℕ → KeeperView → Type 0
KeepsWord v f i a word w =
    (May v (Word f i) → (a ≡ answer.Done) × (word ≡ slice_index (frame_at v.ledger f).content i)
    × (w ≡ did v (Word f i) word))
    × (¬ May v (Word f i) → Judges v (Word f i) a × (w ≡ v))

-- the number of what the keeper uses a frame for
abbrev pub kind_number : Kind → ℕ
kind_number Free = 0
kind_number Filling = 1
kind_number Private = 2
kind_number Stable = 3
kind_number Dying = 4
kind_number Retired = 5

-- what is told of a frame: what the keeper uses it for, its own references, and the frame's life
abbrev pub TellsFrame : KeeperView → ℕ → Answer → ℕ → ℕ → ℕ → Type 0
TellsFrame v f a kind base life =
    (f < frames_of v.table.shape → (a ≡ answer.Done) × (kind ≡ kind_number (frame_at v.ledger f).kind)
    × (base ≡ (frame_at v.ledger f).base) × (life ≡ (frame_at v.ledger f).generation))
    × (frames_of v.table.shape ≤ f → a ≡ answer.Range)

-- the same, and the keeper is as it was
abbrev pub TellsOf : KeeperView → ℕ → Answer → ℕ → ℕ → ℕ → KeeperView → Type 0
TellsOf v f a kind base life w = TellsFrame v f a kind base life × (w ≡ v)
