use Rattle.std.proofs.Common.{arith, rules}
use Rattle.frame_table.proofs.KeeperCalls.{may_put}
use Rattle.frame_table.proofs.table.FrameTable.put_at.Goals as goal

pub store-requires : goal.store-requires
store-requires c = (search rules, search rules, may_put _ _ _ _ _ _ c.requires.asks.keeper (search rules) c.args.frame c.args.i c.args.content (grind (arith, c.requires.page)) c.requires.asks.may)
