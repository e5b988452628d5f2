use Rattle.std.proofs.Common.{◌≡◌, ◌≤◌, [], vec_capacity, vec_len}
use Rattle.ksm_shared.specs.Seen.{book_view}
use Rattle.ksm_shared.specs.Locked.{fresh}
use Rattle.ksm_shared.proofs.opening.mint_all.Given as goal

abbrev pub invariant-loop : goal.invariant-loop
invariant-loop g l = (l.book.table_id ≡ l.table.table_id) × (l.book.me ≡ (book_view [] l.counter, [])) × (l.shares.items ≡ fresh l.counter) × (vec_len l.shares ≡ l.counter) × (l.callers ≤ vec_capacity l.shares)
