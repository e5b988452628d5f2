-- What a comparison of a page with the words of a hold says (own).
use Rattle.std.specs.Prelude.{◌≡◌, ℕ, ◌<◌, Bool, true, false, List, [], ◌∷◌, ◌++◌, slice_index, slice_index_or, slice_set, Option, Some, None}
use Rattle.frame_table.specs.Terms.{PAGE_WORDS, LoadWord}
use Rattle.frame_table.specs.declared.pass.Found.TheVariants.{Held as found_held, Gone as found_gone, Busy as found_busy}
use Rattle.frame_table.specs.declared.equal.FoundEqual.{FoundEqual}
use Rattle.frame_table.specs.declared.equal.FoundEqual.TheVariants.{Held, Differs, Gone, Busy}
use Rattle.frame_table.specs.Named.{PassView, HeldView}
use Rattle.frame_table.specs.Lookup.{ReaderLog, LooksUp}

-- the loads of these words, each by its number
abbrev pub word_steps : List (ℕ × ℕ) → ReaderLog
word_steps [] = []
word_steps (x ∷ xs) = (LoadWord x.0, x.1) ∷ word_steps xs

-- what is known once these words were read
abbrev pub known_after : List (Option ℕ) → List (ℕ × ℕ) → List (Option ℕ)
known_after known [] = known
known_after known (x ∷ xs) = known_after (slice_set known x.0 (Some x.1)) xs

-- the same hold, in which some words were read
abbrev pub SameHold : HeldView → HeldView → Type 0
SameHold v w = (words : List (ℕ × ℕ)) × (w ≡ record v { log = v.log ++ word_steps words; known = known_after v.known words })

-- the word i was read in this hold, and is this one
abbrev pub IsRead : HeldView → ℕ → ℕ → Type 0
IsRead v i word = slice_index_or v.known i None ≡ Some word

-- each word of the page was read, and is the page's
abbrev pub AllEqual : List ℕ → HeldView → Type 0
AllEqual page v = (i : ℕ) → i < PAGE_WORDS → IsRead v i (slice_index page i)

-- a word was read that is not the page's
abbrev pub SomeDiffers : List ℕ → HeldView → Type 0
SomeDiffers page v = (i word : ℕ) × (i < PAGE_WORDS) × IsRead v i word × ¬ (word ≡ slice_index page i)

-- what a comparison answers
abbrev pub Compares : List ℕ → HeldView → Bool → HeldView → Type 0
Compares page v true w = SameHold v w × AllEqual page w
Compares page v false w = SameHold v w × SomeDiffers page w

-- what a lookup with a comparison answers: the lookup is that of `find`
abbrev pub LooksUpEqual : PassView → ℕ → List ℕ → FoundEqual → Type 0
LooksUpEqual v place page (Held h) = (first : HeldView) × LooksUp v place (found_held first) × SameHold first h × AllEqual page h
LooksUpEqual v place page (Differs h) = (first : HeldView) × LooksUp v place (found_held first) × SameHold first h × SomeDiffers page h
LooksUpEqual v place page (Gone p why) = LooksUp v place (found_gone p why)
LooksUpEqual v place page (Busy p) = LooksUp v place (found_busy p)
