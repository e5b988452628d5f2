-- What is true of the locked book whenever the lock is free (own).
use Rattle.std.specs.Prelude.{◌≡◌, []}
use Rattle.ksm_shared.specs.declared.merge.Merge.TheInside.{Inside}
use Rattle.ksm_shared.specs.Named.{PartsId}
use Rattle.ksm_shared.specs.Seen.{OwnersBelow, book_view, entries}

-- The book lies in the frames of these parts, and has the journal that its seat knows, kept or counted as these parts
-- say. The seat is that of the table of
-- these parts, which has one word, and knows how many shares there are; each entry is owned by one of them. Readers are
-- shown the counters after the whole journal.
pub record IsUnlocked {N : Type 0} (parts : PartsId) (m : Inside N) : Type 0 where
  pub own : m.book.keeper.table ≡ parts.frames
  pub journal : m.book.journal ≡ entries m.seat.me.0.log
  pub kept : m.book.is_kept ≡ parts.is_kept
  pub seen : m.seen.shared.table_id ≡ parts.seen
  pub word : m.seen.shared.table_id.words ≡ 1
  pub seated : m.seat.table_id ≡ parts.seen
  pub seat : m.seat.me ≡ (book_view m.seat.me.0.log parts.callers, [])
  pub owners : OwnersBelow parts.callers m.seat.me.0.log
  pub callers : m.callers ≡ parts.callers
  pub shown : m.publisher ≡ entries m.seat.me.0.log
