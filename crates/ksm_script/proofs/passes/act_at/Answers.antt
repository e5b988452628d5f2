use Rattle.ksm_script.proofs.Names.{Acts, List, None, Option, PassState, present, slice_get, Some, subst, sym, table_of, ◌≡◌}
use Rattle.ksm_script.proofs.Slots.{acts_none, acts_one, own_at, emptied_at}
use Rattle.ksm_script.proofs.passes.act_at.Goals as goal

pub returns-in_default : goal.returns-in_default
returns-in_default c = record {
  acts = acts_none c.args.table.now (Acts c.args.act) c.args.slots.now.items c.args.number c.requires.there c.requires.own (sym c.in_default.ensures.taken) c.take_at.new.slots.items c.in_default.ensures.none;
  len = c.take_at.ensures.len;
}

pub act-state-requires : goal.act-state-requires
act-state-requires c = record { own = own_at (λ (s : PassState). table_of s ≡ c.args.table.now) (present c.args.slots.now.items) c.args.number c.in-Some.state c.requires.own (sym c.in-Some.ensures.taken) }

pub put_at-requires : goal.put_at-requires
put_at-requires c =
    subst (λ (l : List (Option PassState)). slice_get l c.args.number ≡ Some None) (sym c.in-Some.ensures.slots)
    (emptied_at c.args.slots.now.items c.args.number c.in-Some.state c.requires.there (sym c.in-Some.ensures.taken))

pub returns-clause-acts : goal.returns-clause-acts
returns-clause-acts c =
    acts_one c.args.table.now (Acts c.args.act) c.args.slots.now.items c.args.number c.requires.there c.requires.own c.in-Some.state c.act-state.result.0 c.act-state.result.1 c.take_at.new.slots.items c.put_at.new.slots.items
    (sym c.in-Some.ensures.taken) c.in-Some.ensures.slots c.put_at.ensures.slots c.act-state.ensures.acts c.act-state.ensures.own
