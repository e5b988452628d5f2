use Rattle.std.proofs.Common.{rules, arith, sym, ap}
use Rattle.frame_table.proofs.CoreNames.{Exchange}
use Rattle.frame_table.proofs.Names.{StepsAt}
use Rattle.frame_table.proofs.Allowed.{turned, MayExchange}
use Rattle.frame_table.proofs.ReaderCalls.{may_exchange}
use Rattle.frame_table.proofs.table.FrameTable.exchange.Goals as goal

pub compare_exchange-requires : goal.compare_exchange-requires
compare_exchange-requires c =
    let at = c.requires.phase in
    let may = may_exchange _ _ _ _ _ at.0 at.1 at.2 c.args.loaded at.4 in
    (search rules, omega (arith, c.requires.inside.0, ap (λ n. n.id.words) c.self.view_is), turned (MayExchange (StepsAt Exchange) _ _ c.args.loaded _) _ _ _ _ _ _ (search rules) (sym at.3) at.5 may)
