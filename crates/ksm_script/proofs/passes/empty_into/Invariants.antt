use Rattle.ksm_script.proofs.Names.{All, IsSomeAnd, Option, PassState, PassView, table_of, vec_capacity, vec_len, ◌+◌, ◌≡◌, ◌≤◌}
use Rattle.ksm_script.proofs.passes.empty_into.Given as goal

abbrev pub invariant-slots : goal.invariant-slots
invariant-slots l = record {
  own : All (λ (o : Option PassState). IsSomeAnd o (λ s. table_of s ≡ l.table)) l.slots.items;
  out : All (λ (p : PassView). p.table ≡ l.table) l.room.items;
  count : vec_len l.room + vec_len l.slots ≡ vec_len l.fn.slots;
  capacity : vec_len l.fn.slots ≤ vec_capacity l.room;
}

abbrev pub decreases-slots : goal.decreases-slots
decreases-slots l = vec_len l.slots
