-- What a shared book is made of before anybody has commanded (own).
use Rattle.std.specs.Prelude.{◌≡◌, ◌≤◌, []}
use Rattle.ksm_base.specs.State.{opening}
use Rattle.ksm_base.specs.Values.{IsShape}
use Rattle.ksm_base.specs.declared.limits.TheConstants.{MOST_PASSES}
use Rattle.frame_table.specs.Named.{TableName}
use Rattle.frame_table.specs.Seats.{new_keeper}
use Rattle.ksm_book.specs.Carried.{unjournaled}
use Rattle.ksm_pages.specs.Paged.{nowhere}
use Rattle.ksm_book.specs.Whole.{BookView}
use Rattle.ksm_shared.specs.declared.opening.Inner.{Inner}
use Rattle.ksm_shared.specs.Named.{PartsId}
use Rattle.ksm_shared.specs.Locked.{Locked}
use Rattle.ksm_shared.specs.Seen.{book_view}

-- the parts that are made of a table of frames and of what is to lie under the lock
abbrev pub parts_of : TableName → Inner → PartsId
parts_of frames p = record {
  frames = frames;
  seen = p.seen.shared.table_id;
  logbook = p.scribe.logbook;
  is_kept = p.journal.is_kept;
  callers = p.callers;
  readers = p.readers;
}

-- what is to lie under the lock is of these parts, and none of it has made a step
pub record IsNew (parts : PartsId) (p : Inner) : Type 0 where
  pub shape : p.shape ≡ parts.frames.shape
  pub fits : IsShape p.shape
  pub keeper : p.keeper ≡ new_keeper parts.frames
  pub seen : p.seen.shared.table_id ≡ parts.seen
  pub words : p.seen.shared.table_id.words ≡ 1
  pub seat : p.seat.table_id ≡ parts.seen
  pub nothing : p.seat.me ≡ (book_view [] 0, [])
  pub some : 1 ≤ p.callers
  pub few : p.callers ≤ MOST_PASSES
  pub callers : p.callers ≡ parts.callers
  pub few_readers : p.readers ≤ MOST_PASSES
  pub readers : p.readers ≡ parts.readers
  pub logbook : p.scribe.logbook ≡ parts.logbook
  pub scribe : p.scribe.journal ≡ []
  pub journal : p.journal.entries ≡ []
  pub kept : p.journal.is_kept ≡ parts.is_kept

-- the opening book of these parts: no page and no dup, and the keeper has made no step
abbrev pub opening_book : PartsId → BookView
opening_book parts = record { state = opening parts.frames.shape; frame = nowhere; keeper = new_keeper parts.frames }

-- the locked book is as it opens: it has no entry, nobody owns one, and readers are shown the counters of the opening
-- book
pub record IsOpeningLock (parts : PartsId) (locked : Locked) : Type 0 where
  pub book : unjournaled locked.book ≡ opening_book parts
  pub journal : locked.book.journal ≡ []
  pub kept : locked.book.is_kept ≡ parts.is_kept
  pub log : locked.log ≡ []
  pub shown : locked.shown ≡ []
