use Rattle.ksm_script.proofs.Names.{All, Idle, new_pass, Option, PassState, PassView, Some, vec_capacity, vec_len, ◌+◌, ◌≡◌, ◌≤◌}
use Rattle.ksm_script.proofs.passes.Passes.new.Given as goal

abbrev pub invariant-passes : goal.invariant-passes
invariant-passes l = record {
  new : All (λ (p : PassView). p ≡ new_pass l.table) l.passes.items;
  slots : All (λ (o : Option PassState). o ≡ Some (Idle (new_pass l.table))) l.slots.items;
  count : vec_len l.slots + vec_len l.passes ≡ vec_len l.fn.passes;
  capacity : vec_len l.fn.passes ≤ vec_capacity l.slots;
  room : vec_capacity l.passes ≡ vec_capacity l.fn.passes;
}

abbrev pub decreases-passes : goal.decreases-passes
decreases-passes l = vec_len l.passes
