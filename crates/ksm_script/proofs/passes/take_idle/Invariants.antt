use Rattle.ksm_script.proofs.Names.{drop, emptied, idle_of, map, present, take, vec_capacity, vec_len, ◌++◌, ◌≡◌, ◌≤◌}
use Rattle.ksm_script.proofs.passes.take_idle.Given as goal

abbrev pub invariant-loop-k : goal.invariant-loop-k
invariant-loop-k l = record {
  len : vec_len l.slots ≡ vec_len l.fn.slots;
  few : vec_len l.idle ≤ l.k;
  capacity : vec_capacity l.idle ≡ vec_capacity l.fn.idle;
  slots : take l.k l.slots.items ++ map emptied (drop l.k l.slots.items) ≡ map emptied l.fn.slots.items;
  idle : l.idle.items ++ idle_of (present (drop l.k l.slots.items)) ≡ idle_of (present l.fn.slots.items);
}
