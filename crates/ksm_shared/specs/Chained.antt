-- The logbook of the journal: its links, the pens that add them, and beginnings of the journal (own).
use Rattle.std.specs.Prelude.{◌≡◌, ◌<◌, ℕ, true, List, [], ◌∷◌, ◌++◌, length, map, Err}
use Rattle.logbook.specs.Pages.{Book, Cell, Named, Nib, Step, View, cell, may_make, may_write}
use Rattle.ksm_base.specs.declared.command.Command.TheVariants.{SetRun}
use Rattle.ksm_base.specs.declared.fault.Fault.TheVariants.{Memory}
use Rattle.ksm_base.specs.Journal.{Entry}
use Rattle.ksm_shared.specs.declared.beginning.Link.{Link}

-- a link that is asked for where none is added
abbrev pub no_link : Link
no_link = record { entry = (SetRun 0, Err Memory); key = 0 }

-- the key of the first cell that is added to a logbook of two words
abbrev pub first_key : ℕ
first_key = 2

-- the key of the pen that may add what comes after these links, where the first of them was added by the pen with this
-- key
abbrev pub next_key : ℕ → List Link → ℕ
next_key key [] = key
next_key key (l ∷ ls) = next_key l.key ls

-- the cell of each pen by which one of these links was added is at home: the pen is spent
abbrev pub AreSpent : ℕ → List Cell → List Link → Type 0
AreSpent key cells [] = Unit {0}
AreSpent key cells (l ∷ ls) = ((cell cells key).1 ≡ true) × AreSpent l.key cells ls

-- The rule of the logbook: each link spent the pen that the one before it names. So whoever has the pen that the last
-- link seen names has seen them all. The first word is 0 until a cell is added.
pub record IsChained (cells : List Cell) (links : List Link) : Type 0 where
  pub word : (0 < length cells) × ((cell cells 0).1 ≡ true)
  pub unused : (cell cells 0).0 ≡ 0 → length cells ≡ first_key
  pub spent : AreSpent first_key cells links

-- the first word of a logbook
abbrev pub first_word : Book → Named
first_word b = record { tracked = true; key = 0; book = b }

-- the step gave the right to make a word, which is the first one where the word found was 0
abbrev pub Cuts : Step Link → View Link ℕ → ℕ → View Link ℕ → Type 0
Cuts s v found w = (w.1.0.right ≡ may_make) × (found ≡ 0 → w.1.0.key ≡ first_key)

-- the link was added to all that had been seen
abbrev pub Adds : Step Link → View Link ℕ → ℕ → View Link ℕ → Type 0
Adds s v found w = w.0 ≡ v.0 ++ s.ask ∷ []

-- the journal that these links have
abbrev pub linked : List Link → List Entry
linked links = map (λ (l : Link). l.entry) links

-- the pen is that of this book which may add what comes after these links
abbrev pub MayAdd : Book → List Link → Book → Nib → Type 0
MayAdd book links own nib = (own ≡ book) × (nib.right ≡ may_write) × (nib.key ≡ next_key first_key links)

-- a beginning of the journal in a logbook
pub record Reached : Type 0 where
  pub logbook : Book
  pub journal : List Entry
