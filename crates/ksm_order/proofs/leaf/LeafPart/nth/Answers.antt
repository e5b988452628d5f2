use Rattle.ksm_order.proofs.{arith, Item, rules, tests}
use Rattle.std.proofs.lemmas.Iterator.{YieldsList-from_slice}
use Rattle.std.proofs.lemmas.Iterator.Consumers.{nth_from_yields_List, YieldsList-from_filter}
use Rattle.ksm_order.proofs.leaf.LeafPart.nth.Goals as goal

pub returns-then-self-items : goal.returns-then-self-items
returns-then-self-items c =
    let walked = nth_from_yields_List _ _ _ c.nth.ensures.ran (YieldsList-from_filter _ (λ (x : Item). x.marked) (YieldsList-from_slice c.as_slice-items.result.now cc) c.filter-marked.ensures.closure (λ x r q k. search (rules, tests))) in
    grind arith
