use Rattle.ksm_pages.proofs.Names.{arith, frame_of, lies_on, map_fixed, refl, seen, Some, subst}
use Rattle.ksm_pages.proofs.Joined.{own_not_merged, seen_own}
use Rattle.ksm_pages.proofs.Leaving.{alone_found}
use Rattle.ksm_pages.proofs.Turning.{Comes, moved, own_left}
use Rattle.ksm_pages.proofs.pages.Pages.lay.Goals as goal

laid : (c : goal.After-lay) → Comes c.self.inside c.lay.new.self c.self.inside.dups (record (seen c.args.self.now) {
  frame = lies_on c.args.spot.page (Some c.args.frame) (frame_of c.args.self.now.lodgings);
})
laid c =
    let left = own_left {s = c.self.inside} c.self.invariant c.self.view_is c.requires in
    let alone = alone_found c.self.inside c.self.view_is _ left.found c.requires in
    subst (λ rows. Comes c.self.inside c.lay.new.self c.self.inside.dups (record (seen c.args.self.now) {
      rows = rows;
      frame = lies_on c.args.spot.page (Some c.args.frame) (frame_of c.args.self.now.lodgings);
    })) (map_fixed _ _ (λ k d lt. grind arith))
    (moved left _ c.lay.ensures (λ x. refl) (λ r. r) (λ r. refl) refl (own_not_merged _ alone) (λ lone. lone) (seen_own _ _ _ alone))

pub invariant_of-self : goal.invariant_of-self
invariant_of-self c = (laid c).lawful

pub returns : goal.returns
returns c = (laid c).told_as
