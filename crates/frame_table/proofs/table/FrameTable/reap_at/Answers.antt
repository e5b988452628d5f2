use Rattle.std.proofs.Common.{rules}
use Rattle.frame_table.proofs.KeeperCalls.{may_reap}
use Rattle.frame_table.proofs.table.FrameTable.reap_at.Goals as goal

pub load-requires : goal.load-requires
load-requires c = (search rules, search rules, may_reap _ _ _ _ _ _ c.requires.keeper (search rules) c.args.frame c.frame_word.ensures.at c.requires.may)
