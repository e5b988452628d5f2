use Rattle.ksm_script.proofs.Names.{All, AllZip, ap, arith, EndsIdle, length, List, PassState, present, subst, sym, table_of, vec_capacity, vec_len, ◌≡◌, ◌≤◌}
use Rattle.ksm_script.proofs.Slots.{slots_own, present_own, all_there, as_many}
use Rattle.ksm_script.proofs.passes.Passes.give_back.Goals as goal

pub give_back_all-requires : goal.give_back_all-requires
give_back_all-requires c = record {
  own = slots_own (λ (s : PassState). table_of s ≡ c.args.table.now) c.self.inside.slots.items c.self.invariant.0
      (subst (All (λ (s : PassState). table_of s ≡ c.args.table.now)) (sym c.self.view_is) c.requires.own);
}

pub invariant_of-self : goal.invariant_of-self
invariant_of-self c =
    let all = all_there EndsIdle c.self.inside.slots.items c.give_back_all.new.slots.items c.self.invariant.0 c.give_back_all.ensures.given in
    let room : vec_len c.give_back_all.new.slots ≤ vec_capacity c.self.inside.room = omega (arith, c.give_back_all.ensures.len, c.self.invariant.2) in
    (all.0, c.self.invariant.1, room)

pub returns : goal.returns
returns c =
    let all = all_there EndsIdle c.self.inside.slots.items c.give_back_all.new.slots.items c.self.invariant.0 c.give_back_all.ensures.given in
    let now = as_many c.give_back_all.new.slots.items all.0 in
    let then = as_many c.self.inside.slots.items c.self.invariant.0 in
    let view = ap (λ (l : List PassState). length l) c.self.view_is in record {
      given = subst (λ (l : List PassState). AllZip EndsIdle l (present c.give_back_all.new.slots.items)) c.self.view_is all.1;
      own = present_own (λ (s : PassState). table_of s ≡ c.args.table.now) c.give_back_all.new.slots.items c.give_back_all.ensures.own;
      count = omega (arith, now, then, view, c.give_back_all.ensures.len, c.give_back_all.new.slots.ok.0, c.self.inside.slots.ok.0);
    }
