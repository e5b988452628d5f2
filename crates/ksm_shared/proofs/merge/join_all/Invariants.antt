use Rattle.std.proofs.Common.{◌≡◌, true, [], ◌++◌}
use Rattle.ksm_shared.specs.Seen.{view_of}
use Rattle.ksm_shared.proofs.merge.join_all.Given as goal

abbrev pub invariant-loop-share : goal.invariant-loop-share
invariant-loop-share g l =
    (goal.iterator-loop-share g).can_next l.share-iterator × (goal.iterator-loop-share g).is_finite l.share-iterator
    × (l.book.table_id ≡ l.fn.book.table_id)
    × (l.book.me ≡ (view_of true l.fn.book.me.0.log l.fn.book.me.0.shares l.yielded, []))
    × (l.fn.shares.items ≡ l.yielded ++ l.share-iterator.rest.items)
