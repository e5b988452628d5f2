use Rattle.ksm_script.proofs.Names.{EndsIdle, get_or, InBoth, IsSomeAnd, Option, PassState, table_of, vec_len, ℕ, ◌<◌, ◌≡◌, ◌≤◌}
use Rattle.ksm_script.proofs.passes.give_back_all.Given as goal

abbrev pub invariant-loop-k : goal.invariant-loop-k
invariant-loop-k l = record {
  len : vec_len l.slots ≡ vec_len l.fn.slots;
  given : (j : ℕ) (d : Option PassState) → j < l.k → InBoth EndsIdle (get_or l.fn.slots.items j d) (get_or l.slots.items j d);
  own : (j : ℕ) (d : Option PassState) → j < l.k → IsSomeAnd (get_or l.slots.items j d) (λ s. table_of s ≡ l.table);
  rest : (j : ℕ) (d : Option PassState) → l.k ≤ j → get_or l.slots.items j d ≡ get_or l.fn.slots.items j d;
}
