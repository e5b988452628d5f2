use Rattle.std.proofs.Common.{rules}
use Rattle.frame_table.proofs.KeeperCalls.{may_freeze}
use Rattle.frame_table.proofs.table.FrameTable.freeze_at.Goals as goal

pub compare_exchange-requires : goal.compare_exchange-requires
compare_exchange-requires c =
    let asks = c.requires.asks in
    let may = may_freeze _ _ _ _ _ _ asks.keeper (search rules) c.args.frame c.args.alone c.args.none c.frame_word.ensures.at in
    (search rules, search rules, may asks.may c.requires.alone c.requires.none)
