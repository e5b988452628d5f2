use Rattle.std.proofs.Common.{arith, rules}
use Rattle.frame_table.proofs.KeeperCalls.{may_show}
use Rattle.frame_table.proofs.table.FrameTable.word_at.Goals as goal

pub load-requires : goal.load-requires
load-requires c = (search rules, search rules, may_show _ _ _ _ _ _ c.requires.asks.keeper (search rules) c.args.frame c.args.i (grind (arith, c.requires.page)) c.requires.asks.may)
