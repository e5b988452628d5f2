use Rattle.ksm_order.proofs.{arith, list_any_none, none_there, told_there}
use Rattle.ksm_order.proofs.place.stands_at.Goals as goal

pub returns-then-at-items-clause-found : goal.returns-then-at-items-clause-found
returns-then-at-items-clause-found g c = grind (arith, told_there c.requires.place c.requires.order c.index-items-at.result)

pub returns-else-at-items-clause-found : goal.returns-else-at-items-clause-found
returns-else-at-items-clause-found g c = grind (arith, list_any_none, none_there)
