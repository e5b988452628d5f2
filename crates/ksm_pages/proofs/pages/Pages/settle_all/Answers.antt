use Rattle.ksm_pages.proofs.Names.{map, seen, settled}
use Rattle.ksm_pages.proofs.Turning.{Comes, settle_then}
use Rattle.ksm_pages.proofs.pages.Pages.settle_all.Goals as goal

came : (c : goal.After-make_room) → Comes c.self.inside c.make_room.new.self c.self.inside.dups (record (seen c.args.self.now) {
  rows = map settled c.args.self.now.rows;
})
came c = settle_then c.self.inside c.self.invariant c.self.view_is c.settle_all.ensures c.make_room.ensures

pub invariant_of-self : goal.invariant_of-self
invariant_of-self c = (came c).lawful

pub returns : goal.returns
returns c = (came c).told_as
