use Rattle.ksm_script.proofs.Names.{drop, gaps, refilled, take, vec_capacity, vec_len, ◌++◌, ◌≡◌}
use Rattle.ksm_script.proofs.passes.put_idle.Given as goal

abbrev pub invariant-loop-k : goal.invariant-loop-k
invariant-loop-k l = record {
  len : vec_len l.slots ≡ vec_len l.fn.slots;
  gaps : gaps (drop l.k l.slots.items) ≡ vec_len l.idle;
  capacity : vec_capacity l.idle ≡ vec_capacity l.fn.idle;
  slots : take l.k l.slots.items ++ refilled (drop l.k l.slots.items) l.idle.items ≡ refilled l.fn.slots.items l.fn.idle.items;
}
