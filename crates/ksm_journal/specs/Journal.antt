-- A journal, whether its entries are kept or counted. Own.
use Rattle.std.specs.Prelude.{ℕ, ◌-◌, ◌^◌, Bool, true, false, ltb, ◌&&◌, if◌then◌else◌, List, Option, None, Some, slice_get}
use Rattle.ksm_base.specs.Journal.{Entry}
use Rattle.ksm_journal.specs.Coding.{KeptView}

-- what contracts see of a journal: its entries, whether they are kept, and whether there is memory for one more
pub record JournalView : Type 0 where
  pub entries : List Entry
  pub is_kept : Bool
  pub has_room : Bool

-- the most entries of a journal
abbrev pub most_entries : ℕ
most_entries = 2 ^ 64 - 1

abbrev pub is_some : Option KeptView → Bool
is_some None = false
is_some (Some k) = true

-- where the entries are not kept, one more takes no memory
abbrev pub is_free : Option KeptView → Bool
is_free None = true
is_free (Some k) = k.has_room

-- a journal of so many entries has memory for one more, and number for it
abbrev pub has_room_for : ℕ → Option KeptView → Bool
has_room_for count kept = ltb count most_entries && is_free kept

-- the entry with this number, from 0 on, if there is one and the entries are kept
abbrev pub told_at : Bool → List Entry → ℕ → Option Entry
told_at kept entries number = if kept then slice_get entries number else None
