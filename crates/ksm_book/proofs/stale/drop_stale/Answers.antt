use Rattle.ksm_book.proofs.Names.{arith, sym, ◌∙◌}
use Rattle.ksm_book.proofs.Sharing.{drop_few, drop_fewer, drop_may, drop_vacant, dropped, drops_more}
use Rattle.ksm_book.proofs.stale.drop_stale.Goals as goal

pub withdraw-requires-clause-may : goal.withdraw-requires-clause-may
withdraw-requires-clause-may c = drop_may c.stale.invariant (sym c.in-Some.is ∙ c.stale_place.ensures)

pub drop_stale-requires : goal.drop_stale-requires
drop_stale-requires c = drop_vacant c.stale.invariant (sym c.in-Some.is ∙ c.stale_place.ensures)

pub stale-preserved : goal.stale-preserved
stale-preserved c =
    drops_more c.stale.invariant (sym c.in-Some.is ∙ c.stale_place.ensures) _ _ c.withdraw.ensures c.drop_stale.ensures

pub overflow_add-count : goal.overflow_add-count
overflow_add-count c =
    omega (arith, drop_few c.stale.invariant (sym c.in-Some.is ∙ c.stale_place.ensures) c.requires.rise c.requires.laid)

pub stale-smaller : goal.stale-smaller
stale-smaller c =
    grind (arith, c.drop_stale.ensures, drop_fewer c.stale.invariant (sym c.in-Some.is ∙ c.stale_place.ensures))

pub returns : goal.returns
returns c = let done = dropped c.stale.invariant (sym c.in_default.is ∙ c.stale_place.ensures) in grind arith
