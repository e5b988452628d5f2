use Rattle.ksm_pages.proofs.Names.{arith, changed, held_of, Private, refl, same_page_refl, seen, tree_of, true, Waiting}
use Rattle.ksm_pages.proofs.Visiting.{alone_seen, asked, held_led, IsAsked, known, lone_none, partner_by}
use Rattle.ksm_tree.proofs.Joining.{none_live}
use Rattle.ksm_pages.proofs.Turning.{Comes, own_left, rested}
use Rattle.ksm_pages.proofs.pages.Pages.glance.Goals as goal
use Rattle.ksm_pages.proofs.pages.Pages.glance.Goals.{After-wait}

-- a page that was not unchanged is so, where no dup has an item
saw : (c : goal.After-note_unchanged) → Comes c.self.inside c.note_unchanged.new.self c.self.inside.dups
    (changed c.args.spot.page (λ r. record r { unchanged = true; state = Private }) (seen c.args.self.now))
saw c =
    let it = asked c.self.inside c.self.invariant c.self.view_is c.in-Some.entry.now c.in-Some.ensures (grind arith) in
    rested (own_left c.self.invariant c.self.view_is (alone_seen it)) (alone_seen it) _ c.note_unchanged.ensures
    (λ r. record r { unchanged = true; state = Private }) (λ x. (refl, refl)) (λ r. (refl, refl)) (λ x own. grind (arith, own)) (λ lone. lone)

pub joins_none-requires : goal.joins_none-requires
joins_none-requires c =
    lone_none (asked c.self.inside c.self.invariant c.self.view_is c.in-Some.entry.now c.in-Some.ensures (grind arith)) c.tree_in-tree.ensures

it : (c : After-wait) → IsAsked c.self.inside c.args.self.now c.args.spot.page c.in-Some.entry.now
it c = asked c.self.inside c.self.invariant c.self.view_is c.in-Some.entry.now c.in-Some.ensures (grind arith)

waits : (c : After-wait)
    → Comes c.self.inside c.wait.new.self c.self.inside.dups (changed c.args.spot.page (λ r. record r { state = Waiting }) (seen c.args.self.now))
waits c =
    rested (own_left c.self.invariant c.self.view_is (alone_seen (it c))) (alone_seen (it c)) _ c.wait.ensures (λ r. record r { state = Waiting })
    (λ x. (refl, refl)) (λ r. (refl, refl)) (λ x _. refl) (λ lone. lone)

pub invariant_of-self : goal.invariant_of-self
invariant_of-self c = (saw c).lawful

pub invariant_of-self-2 : goal.invariant_of-self-2
invariant_of-self-2 c = (waits (goal.at.invariant_of-self-2 c).After-wait).lawful

pub returns-then-not-entry-clause-changed : goal.returns-then-not-entry-clause-changed
returns-then-not-entry-clause-changed c _ =
    let s = c.self.inside in
    let it = asked s c.self.invariant c.self.view_is c.in-Some.entry.now c.in-Some.ensures (grind arith) in
    let row = (held_of s.rows.pass c.in-Some.entry.now).row in
    grind (
      arith,
      known it {tree = tree_of s.knobs row} (λ r same. grind (arith, same)),
      (saw c).told_as,
      none_live (tree_of s.knobs row) row.bytes s.knobs.max_page_sharing s.dups.dups,
      c.count_shared.ensures,
    )

pub returns-clause-waits : goal.returns-clause-waits
returns-clause-waits c _ =
    let t = (goal.at.returns-clause-waits c).After-wait in
    let s = t.self.inside in
    let led = held_led s.knobs s.rows t.self.invariant.by_node t.are_lawful.ensures.found t.args.spot.page t.in-Some.ensures (grind arith) in
    let by = partner_by s t.self.invariant t.self.view_is t.args.spot.page t.in-Some.entry.now t.in-Some.ensures
    t.are_lawful.ensures.led t.are_lawful.ensures.found t.tree_in-tree.ensures in
    grind (arith, known (it t) t.tree_in-tree.ensures, (waits t).told_as, by, led, same_page_refl t.args.spot.page, t.if-not-joins_none.ensures)
