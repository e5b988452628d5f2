use Rattle.ksm_pages.proofs.Names.{ap, arith, Entry, false, is_in, Keeps, meets, nat_tests, on_ok_weaker, same_Some, sym, tree_by, true, ◌∙◌, ◌≡◌}
use Rattle.ksm_pages.proofs.Leading.{led_entered, led_written}
use Rattle.ksm_pages.proofs.rows.lead_to.Goals as goal
use Rattle.ksm_pages.proofs.rows.lead_to.Goals.{After-lead}

pub returns-then-is_in-clause-leads : goal.returns-then-is_in-clause-leads
returns-then-is_in-clause-leads c d e later stood fills home bytes in_tree =
    let was : is_in d.in_tree ≡ true = grind (arith, stood, c.index-entry.ensures, c.is_in.ensures, c.if-is_in.true) in
    led_written c.requires.led fills stood (λ _. (was, home, bytes))

out : (c : After-lead) → is_in c.index-entry.result.now.in_tree ≡ false
out c = grind (arith, c.is_in.ensures, c.if-is_in.false)

-- the key fits the number that the tree has
number_is : (c : After-lead) → c.unwrap_or-number.result ≡ c.args.key
number_is c = grind (arith, nat_tests, c.try_from.ensures, c.unwrap_or-number.ensures, c.if-number-ge-GONE.false)

kept : (c : After-lead) → Keeps c.args.by_node c.args.entries.now c.args.unstable.now c.lead.new.self
kept c = c.lead.ensures.kept c.args.by_node (λ k. grind (arith, c.tree_by-tree.ensures, c.requires.free _ c.index-entry.ensures (out c) k))

pub returns-clause-leads : goal.returns-clause-leads
returns-clause-leads c =
    on_ok_weaker c.lead.result (λ leads d e later stood fills home bytes in_tree.
    let it = same_Some c.index-entry.result.now d (sym c.index-entry.ensures ∙ stood) in
    led_entered c.requires.led stood fills (c.requires.free d stood (rw (← it) (out c))) home bytes
    (grind (arith, nat_tests, number_is c, c.if-number-ge-GONE.false)) (kept c)
    (sym (λ i. meets c.lead.new.self ((c.tree_by-tree.ensures ∙ ap (λ (x : Entry). tree_by c.args.by_node x.home) it) i) (it i).bytes (number_is c i))
    ∙ leads)) c.lead.ensures.leads
