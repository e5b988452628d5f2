-- The lines of the language (own).
use Rattle.std.specs.Prelude.{◌≡◌, ℕ, ◌^◌, ◌<◌, ◌==◌, List, [], ◌∷◌, Option, Some, None, codes, decimal}
use Rattle.std.specs.List.{slice_split}
use Rattle.ksm_base.specs.declared.page.GuestPage.{GuestPage}
use Rattle.ksm_base.specs.declared.knobs.Knob as knobs
use Rattle.ksm_lines.specs.declared.knob.Shown as showns
use Rattle.ksm_lines.specs.declared.part.Part.{Part}
use Rattle.ksm_lines.specs.declared.part.Part.TheVariants.{Guest, Page, Node, Place, Pass, Visits, Value, Content, Knob, Shown}
use Rattle.ksm_lines.specs.declared.line.Line.{Line}
use Rattle.ksm_lines.specs.declared.line.Line.TheVariants as lines
use Rattle.ksm_lines.specs.declared.line.PageLine.TheVariants as pages
use Rattle.ksm_lines.specs.declared.line.RareLine.TheVariants as rares
use Rattle.ksm_lines.specs.declared.line.ShortLine.TheVariants as shorts
use Rattle.ksm_lines.specs.Content.{content_of}
use Rattle.ksm_lines.specs.Knobs.{knob_name, shown_name, named_in}

-- the words of a line: its bytes, parted at each space
abbrev pub words_of : List ℕ → List (List ℕ)
words_of line = slice_split (λ byte. byte == 32) line

-- how the words of a part are read and written
pub data Kind : Type 0 where
  guest : Kind
  number : Kind
  visits : Kind
  content : Kind
  knob : Kind
  shown : Kind

abbrev pub kind_of : Part → Kind
kind_of Guest = guest
kind_of Visits = visits
kind_of Content = content
kind_of Knob = knob
kind_of Shown = shown
kind_of _ = number

-- what a word of a kind tells
abbrev pub Told : Kind → Type 0
Told guest = ℕ
Told number = ℕ
Told visits = Option ℕ
Told content = List ℕ
Told knob = knobs.Knob
Told shown = showns.Shown

-- A number is written by its decimal digits without leading zeros, a page's content in hexadecimal, a knob by its name.
abbrev pub IsWritten : (kind : Kind) → Told kind → List ℕ → Type 0
IsWritten guest n word = (n < 2 ^ 16) × (word ≡ decimal n)
IsWritten number n word = (n < 2 ^ 32) × (word ≡ decimal n)
IsWritten visits told word = (n : ℕ) × (told ≡ Some n) × (n < 2 ^ 32) × (word ≡ decimal n)
IsWritten content page word = content_of word ≡ Some page
IsWritten knob named word = word ≡ knob_name named
IsWritten shown named word = word ≡ shown_name named

-- what it tells that no word stands there: only a number of visits may be left out
abbrev pub left_out : (kind : Kind) → Option (Told kind)
left_out visits = Some None
left_out _ = None

-- a value for each part
abbrev pub Values : List Part → Type 0
Values [] = Unit {0}
Values (part ∷ parts) = Told (kind_of part) × Values parts

-- each word writes the value of the part at its place, and no word is left; a part that may be left out is at the end
abbrev pub AreWritten : (parts : List Part) → Values parts → List (List ℕ) → Type 0
AreWritten [] values [] = Unit {0}
AreWritten [] values (word ∷ words) = ⊥
AreWritten (part ∷ parts) values [] = (left_out (kind_of part) ≡ Some values.0) × AreWritten parts values.1 []
AreWritten (part ∷ parts) values (word ∷ words) =
    IsWritten (kind_of part) values.0 word × AreWritten parts values.1 words

-- what makes a line of such values
abbrev pub Makes : List Part → Type 0
Makes [] = Line
Makes (part ∷ parts) = Told (kind_of part) → Makes parts

abbrev pub made : (parts : List Part) → Makes parts → Values parts → Line
made [] line values = line
made (part ∷ parts) make values = made parts (make values.0) values.1

-- a form of lines: the first word, the parts behind it, and what makes the line
abbrev pub Form : Type 0
Form = (name : List ℕ) × (parts : List Part) × Makes parts

-- the page of two words
abbrev pub at : ℕ → ℕ → GuestPage
at owner page = record { guest = owner; page = page }

abbrev pub scan_of : Option ℕ → Line
scan_of None = lines.Rare rares.ScanPages
scan_of (Some n) = lines.Short (shorts.Scan n)

-- the forms; no bytes are one empty word
abbrev pub forms : List Form
forms =
    ([], [], lines.Empty)
    ∷ (
      codes "reg",
      Guest ∷ Page ∷ Node ∷ Content ∷ [],
      λ owner page node. lines.Page (pages.Register (at owner page) node),
    )
    ∷ (codes "drop", Guest ∷ Page ∷ [], λ owner page. lines.Rare (rares.Drop (at owner page)))
    ∷ (codes "put", Guest ∷ Page ∷ Content ∷ [], λ owner page. lines.Page (pages.Store (at owner page)))
    ∷ (codes "get", Guest ∷ Page ∷ [], λ owner page. lines.Short (shorts.Get (at owner page)))
    ∷ (codes "ticket", Guest ∷ Page ∷ [], λ owner page. lines.Short (shorts.Ticket (at owner page)))
    ∷ (codes "rmap", Place ∷ [], λ place. lines.Rare (rares.Mappers place))
    ∷ (codes "scan", Visits ∷ [], scan_of)
    ∷ (codes "prune", [], lines.Rare rares.Prune)
    ∷ (codes "unmerge", Guest ∷ [], λ owner. lines.Rare (rares.Unmerge owner))
    ∷ (codes "mergeable", Guest ∷ [], λ owner. lines.Rare (rares.Mergeable owner))
    ∷ (codes "move", Guest ∷ Page ∷ Node ∷ [], λ owner page node. lines.Rare (rares.MovePage (at owner page) node))
    ∷ (codes "movedup", Place ∷ Node ∷ [], λ place node. lines.Rare (rares.MoveDup place node))
    ∷ (codes "set", Knob ∷ Value ∷ [], λ named value. lines.Rare (rares.Set named value))
    ∷ (codes "show", Shown ∷ [], λ named. lines.Short (shorts.Show named))
    ∷ (codes "stat", [], lines.Short shorts.Stat)
    ∷ (codes "find", Pass ∷ Place ∷ [], λ pass place. lines.Short (shorts.Find pass place))
    ∷ (codes "equal", Pass ∷ Place ∷ Content ∷ [], λ pass place. lines.Page (pages.Equal pass place))
    ∷ (codes "look", Pass ∷ [], λ pass. lines.Short (shorts.Look pass))
    ∷ (codes "leave", Pass ∷ [], λ pass. lines.Short (shorts.Leave pass))
    ∷ (codes "audit", [], lines.Rare rares.Audit)
    ∷ []

-- the form of a name
abbrev pub form_in : List ℕ → Option Form
form_in = named_in (λ form. form.0) forms

-- words behind the name of a form write values that make the line
abbrev pub IsOf : Line → Option Form → List (List ℕ) → Type 0
IsOf line None words = ⊥
IsOf line (Some form) words =
    (told : Values form.1) × (made form.1 form.2 told ≡ line) × AreWritten form.1 told words

-- the words are the line: the first is the name of its form
abbrev pub IsLine : Line → List (List ℕ) → Type 0
IsLine line [] = ⊥
IsLine line (name ∷ words) = IsOf line (form_in name) words

-- the bytes are the line: single spaces stand between its words, and none at the ends
abbrev pub Writes : Line → List ℕ → Type 0
Writes line bytes = IsLine line (words_of bytes)

-- no form of a line is written so
abbrev pub IsNoLine : List ℕ → Type 0
IsNoLine line = (form : Line) → ¬ (Writes form line)
