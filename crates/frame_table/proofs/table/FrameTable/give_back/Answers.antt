use Rattle.std.proofs.Common.{rules, arith, sym, ap}
use Rattle.frame_table.proofs.CoreNames.{Leave}
use Rattle.frame_table.proofs.Names.{StepsAt}
use Rattle.frame_table.proofs.Allowed.{turned, MaySubOne}
use Rattle.frame_table.proofs.ReaderCalls.{may_leave}
use Rattle.frame_table.proofs.table.FrameTable.give_back.Goals as goal

pub fetch_sub-requires : goal.fetch_sub-requires
fetch_sub-requires c =
    let at = c.requires.phase in
    (search rules, omega (arith, c.requires.inside, ap (λ n. n.id.words) c.self.view_is), turned (MaySubOne (StepsAt Leave) _ _) _ _ _ _ _ _ (search rules) (sym at.2) at.3 (may_leave _ _ _ _ _ at.0 at.1))
