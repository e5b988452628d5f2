use Rattle.ksm_pages.proofs.Names.{ap, arith, BTreeMap, Content, GONE, List, nat_tests, number_of, refl, rules, slice_get_read, ℕ, ◌∙◌, ◌≡◌, set-get_or, get_or_from_slice_get}
use Rattle.ksm_pages.proofs.Leading.{beside_keeps, IsAs, put_keeps}
use Rattle.ksm_pages.proofs.unstable.UnstableTree.forget.Goals as goal
use Rattle.ksm_pages.proofs.unstable.UnstableTree.forget.Goals.{in-Some+in_default-index_in, in_default}

pub returns-in-Some-index_in : goal.returns-in-Some-index_in
returns-in-Some-index_in c by_node =
    put_keeps c.args.self.now c.place_of-at.result c.in-Some.keys.now c.in-Some-index_in.here GONE
    (search (rules, slice_get_read)) c.args.entries.now refl (grind arith) by_node

-- where the key does not stand in the place, the tree is as it was
same : (c : goal.After-forget_beside) → IsAs c.match-get_mut.self c.args.self.now
same c = elim c.match-get_mut.branch [
  | in-Some+in_default-index_in w ↦ grind (arith, w.self-is, set-get_or, get_or_from_slice_get, slice_get_read)
  | in_default w ↦ grind (arith, w.self-is)
]

pub returns : goal.returns
returns c by_node =
    let before : (t : ℕ) (b : List ℕ) → number_of t b c.match-get_mut.self.others.entries ≡ number_of t b c.args.self.now.others.entries =
    λ t b. ap (λ (m : BTreeMap Content ℕ). number_of t b m.entries) (same c).1 in
    beside_keeps c.args.self.now c.forget_beside.new.self (c.forget_beside.ensures.places ∙ (same c).0) c.args.tree c.args.bytes.now
    (λ t b apart. c.forget_beside.ensures.others t b apart ∙ before t b) c.args.entries.now by_node
    (λ k stands at. grind (arith, nat_tests, c.forget_beside.ensures.here, before c.args.tree c.args.bytes.now, at, c.requires.gone, stands))
