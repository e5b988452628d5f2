use Rattle.ksm_script.proofs.Names.{All, PassState, subst, sym, table_of, ◌≡◌}
use Rattle.ksm_script.proofs.Slots.{slots_own}
use Rattle.ksm_script.proofs.passes.Passes.close.Goals as goal

pub empty_into-requires-clause-own : goal.empty_into-requires-clause-own
empty_into-requires-clause-own c =
    slots_own (λ (s : PassState). table_of s ≡ c.args.table.now) c.self.inside.slots.items c.self.invariant.0
    (subst (All (λ (s : PassState). table_of s ≡ c.args.table.now)) (sym c.self.view_is) c.requires.own)
