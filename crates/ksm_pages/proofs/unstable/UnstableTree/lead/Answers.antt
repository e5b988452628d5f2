use Rattle.ksm_pages.proofs.Names.{ap, arith, BTreeMap, Content, false, is_led, KeepsOthers, keys_at, length, list_any, MatchOption, not, number_of, on_ok_weaker, place, rules, slice_get_past}
use Rattle.ksm_pages.proofs.Names.{set-get_or, get_or_from_slice_get, slice_get_read, sym, true≢false, ℕ, ⊤, ◌∙◌, ◌≡◌}
use Rattle.ksm_pages.proofs.Leading.{beside_keeps, beside_meets, IsAs, put_keeps, put_meets}
use Rattle.ksm_pages.proofs.unstable.UnstableTree.lead.Goals as goal
use Rattle.ksm_pages.proofs.unstable.UnstableTree.lead.Goals.{in-Some+in_default-free_in, in_default}

pub returns-in-Some-free_in-clause-leads : goal.returns-in-Some-free_in-clause-leads
returns-in-Some-free_in-clause-leads c =
    put_meets c.args.self.now c.place_of-at.result c.in-Some.keys.now c.in-Some-free_in.free c.args.key
    (search (rules, slice_get_read)) c.args.tree c.args.bytes.now (search rules) (search rules)

pub returns-in-Some-free_in-clause-kept : goal.returns-in-Some-free_in-clause-kept
returns-in-Some-free_in-clause-kept c by_node _ =
    put_keeps c.args.self.now c.place_of-at.result c.in-Some.keys.now c.in-Some-free_in.free c.args.key
    (search (rules, slice_get_read)) c.args.entries.now (grind arith) (search rules) by_node

-- where no key of the place is another, the tree is as it was, and leads to each key there
same : (c : goal.After-lead_beside) → IsAs c.match-get_mut.self c.args.self.now
    × MatchOption (keys_at c.args.self.now c.args.bytes.now) ⊤ (λ keys. list_any (λ k. not (is_led c.args.entries.now k)) keys ≡ false)
same c =
    let at : c.place_of-at.result ≡ place (length c.args.self.now.places.items) c.args.bytes.now = search rules in
    elim c.match-get_mut.branch [
      | in-Some+in_default-free_in w ↦
          let there = slice_get_read _ _ _ _ c.args.self.now.places.ok.0 (search rules) w.in-Some.ensures.value in
          grind (arith, at, there, w.self-is, set-get_or, get_or_from_slice_get, w.free_in.ensures.none w.in_default-free_in.is)
      | in_default w ↦ grind (arith, at, w.self-is, slice_get_past)
    ]

others : (c : goal.After-lead_beside) → KeepsOthers c.args.tree c.args.bytes.now c.args.self.now c.lead_beside.new.self
others c t b apart =
    c.lead_beside.ensures.others t b apart
    ∙ ap (λ (m : BTreeMap Content ℕ). number_of t b m.entries) (same c).0.1

pub returns-clause-leads : goal.returns-clause-leads
returns-clause-leads c =
    on_ok_weaker c.lead_beside.result
    (beside_meets c.args.self.now c.lead_beside.new.self (c.lead_beside.ensures.places ∙ (same c).0.0) c.args.tree c.args.bytes.now
    (others c) c.args.entries.now c.args.key (same c).1) c.lead_beside.ensures.here

pub returns-clause-kept : goal.returns-clause-kept
returns-clause-kept c by_node none =
    beside_keeps c.args.self.now c.lead_beside.new.self (c.lead_beside.ensures.places ∙ (same c).0.0) c.args.tree c.args.bytes.now
    (others c) c.args.entries.now by_node (λ k stands _. absurd (true≢false (sym stands ∙ none k)))
