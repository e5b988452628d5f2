use Rattle.ksm_tree.proofs.Names.{All, ap, arith, drop_of_length-le, Dup, dup_at, get_or, InPlaceOrder, items_in, length, Option, option_copied, rows_of, ◌<◌, ◌∙◌, ◌≡◌}
use Rattle.ksm_tree.proofs.Joining.{candidate_is, candidates_within, in_room, stepped, walk_best}
use Rattle.ksm_tree.proofs.dups.Dups.best_in.Goals.{else-items-least, then-items-least+in-Some, then-items-least+in_default}
use Rattle.ksm_tree.proofs.dups.Dups.best_in.Goals as goal

pub bounds-counts-place : goal.bounds-counts-place
bounds-counts-place c =
    let below : All (λ r. r.place < c.args.self.now.places) (rows_of c.args.self.now.dups) = rw (← c.self.view_is) c.self.invariant.lawful.places_below in
    grind (arith, c.counts-counts.ensures.places, candidates_within _ _ _ _ _ _ (rw c.requires at c.places_to_join-is_chain.ensures) _ below)

pub loop-place-preserved : goal.loop-place-preserved
loop-place-preserved c =
    let tree = c.args.tree in
    let bytes = c.args.bytes.now in
    let limit = c.args.limit in
    let dups = c.args.self.now.dups in
    let places = c.places_to_join-is_chain.result.0.now in
    let at = c.loop-place.place-index in
    let place = get_or places at 0 in
    let best = option_copied c.loop-place.best in
    let items = get_or c.counts-counts.result.now place 0 in
    let count : items ≡ length (items_in (dup_at place dups)) =
    c.counts-counts.ensures.each place ∙ ap (λ s. length (items_in (dup_at place s.dups))) c.self.view_is in
    let was = c.loop-place.invariant in
    let rise : InPlaceOrder (rows_of dups) = rw (← c.self.view_is) c.self.invariant.lawful.in_place_order in
    let is = λ (rival : Option Dup). candidate_is tree bytes limit dups places _ (rw c.requires at c.places_to_join-is_chain.ensures) rise rival
    at c.loop-place-test.true in
    let tells = in_room items c.loop-place.least limit (omega (arith, c.type_inv.counts place))
    (omega (arith, c.loop-place.auto.least-fits)) (omega (arith, c.ranges.limit.fits)) in
    let next = stepped tree bytes limit dups best places at c.loop-place-test.true count was.1 was.0 in
    elim c.if-items-least.branch [
      | then-items-least+in-Some w ↦
          rw (w.least-is, w.room-is, w.best-is) (grind (arith, w.in-Some.ensures, is))
      | then-items-least+in_default w ↦
          rw (w.least-is, w.room-is, w.best-is) (grind (arith, w.in_default.ensures, is))
      | else-items-least w ↦ rw (w.least-is, w.room-is, w.best-is) (grind (arith, w.if-items-least.false))
    ]

pub returns : goal.returns
returns c =
    let rise : InPlaceOrder (rows_of c.args.self.now.dups) = rw (← c.self.view_is) c.self.invariant.lawful.in_place_order in
    let best = walk_best _ _ _ _ _ _ (rw c.requires at c.places_to_join-is_chain.ensures) rise in
    grind (arith, drop_of_length-le c.places_to_join-is_chain.result.0.now {i = c.loop-place.place-index} (omega arith))
