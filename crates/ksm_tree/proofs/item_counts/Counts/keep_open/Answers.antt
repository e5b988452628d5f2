use Rattle.ksm_tree.proofs.Names.{arith, is_open}
use Rattle.ksm_tree.proofs.Where.{where_next}
use Rattle.ksm_tree.proofs.item_counts.Counts.keep_open.Goals as goal

pub loop-place-preserved : goal.loop-place-preserved
loop-place-preserved c =
    grind (arith, where_next (is_open c.args.limit) c.index.result.now 0 c.loop-place.place c.loop-place.place c.self.inside.each.items)
