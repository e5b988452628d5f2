use Rattle.std.proofs.Common.{rules, arith, sym, ap}
use Rattle.frame_table.proofs.CoreNames.{LoadFrame}
use Rattle.frame_table.proofs.Names.{StepsAt}
use Rattle.frame_table.proofs.Allowed.{turned, MayLoad}
use Rattle.frame_table.proofs.ReaderCalls.{may_load_frame}
use Rattle.frame_table.proofs.table.FrameTable.load_frame.Goals as goal

pub load-requires : goal.load-requires
load-requires c =
    let at = c.requires.phase in
    (search rules, omega (arith, c.requires.inside, ap (λ n. n.id.words) c.self.view_is), turned (MayLoad (StepsAt LoadFrame) _ _) _ _ _ _ _ _ (search rules) (sym at.2) at.3 (may_load_frame _ _ _ _ _ at.0 at.1))
