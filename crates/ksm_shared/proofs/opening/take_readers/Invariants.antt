use Rattle.std.proofs.Common.{◌≡◌, ◌≤◌, replicate, vec_capacity, vec_len}
use Rattle.ksm_shared.specs.Published.{new_reader}
use Rattle.ksm_shared.proofs.opening.take_readers.Given as goal

abbrev pub invariant-loop : goal.invariant-loop
invariant-loop g l = (l.readers.items ≡ replicate l.counter new_reader) × (vec_len l.readers ≡ l.counter) × (l.count ≤ vec_capacity l.readers)
