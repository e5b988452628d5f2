use Rattle.ksm_tree.proofs.Names.{arith, get_or_default, sym, ◌∙◌}
use Rattle.ksm_tree.proofs.NumberBits.{found_behind, within_named}
use Rattle.ksm_tree.proofs.bits.Words.first_behind.Goals as goal

pub returns : goal.returns
returns g c =
    let summed = c.self.invariant.summed (omega arith) in
    let read = get_or_default _ c.in_ok-next.next 0 _ (within_named _ summed c.in_ok-next.ensures)
    ∙ sym c.index.ensures in
    rw (← c.self.view_is) (found_behind _ summed _ c.in_ok-next.ensures (rw read c.lowest.ensures))
