use Rattle.std.proofs.Common.{rules}
use Rattle.frame_table.proofs.KeeperCalls.{may_withdraw}
use Rattle.frame_table.proofs.table.FrameTable.withdraw_at.Goals as goal

pub store-requires : goal.store-requires
store-requires c = (search rules, search rules, may_withdraw _ _ _ _ _ _ c.requires.keeper (search rules) c.requires.may)
