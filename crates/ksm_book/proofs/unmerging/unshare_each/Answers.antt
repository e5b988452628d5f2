use Rattle.ksm_book.proofs.Names.{rules, ◌∙◌}
use Rattle.ksm_book.proofs.Singles.{unsharing_end, unsharing_home, unsharing_next, unsharing_stop}
use Rattle.ksm_book.proofs.Carried.{each_does}
use Rattle.ksm_book.proofs.unmerging.unshare_each.Goals as goal

pub leave-requires-clause-own : goal.leave-requires-clause-own
leave-requires-clause-own c = (each_does _ _ _ c.pages.invariant.each).1.table ∙ c.requires.own

pub leave-requires-clause-home : goal.leave-requires-clause-home
leave-requires-clause-home c =
    unsharing_home c.pages.invariant c.lie_in_order.ensures.rise c.in-Some.ensures.1 c.in-Some.ensures.0 c.requires.homes

pub returns-in-Err : goal.returns-in-Err
returns-in-Err c = unsharing_stop c.pages.invariant c.lie_in_order.ensures.rise c.in-Some.ensures.1 c.in-Err.ensures.turned

pub pages-preserved : goal.pages-preserved
pages-preserved c =
    unsharing_next c.pages.invariant c.lie_in_order.ensures.rise c.in-Some.ensures.1 c.in-Ok.ensures.left (search rules, search rules)

pub returns : goal.returns
returns c = unsharing_end c.pages.invariant c.lie_in_order.ensures.rise c.in_default.ensures
