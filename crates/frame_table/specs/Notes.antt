-- What the keeper keeps of a frame as it runs: its note without the content, which stands in the words of the table (own).
use Rattle.std.specs.Prelude.{ℕ}
use Rattle.frame_core.specs.declared.ledger.Note.{Note}
use Rattle.frame_table.specs.declared.keeper.Kept.{Kept}
use Rattle.frame_table.specs.declared.keeper.Use.{Use}

abbrev pub kept_of : Note → Kept
kept_of note = record { kind = note.kind; base = note.base; generation = note.generation }

-- its two parts
abbrev pub use_of : Note → Use
use_of note = record { kind = note.kind; base = note.base }

abbrev pub generation_of : Note → ℕ
generation_of note = note.generation
