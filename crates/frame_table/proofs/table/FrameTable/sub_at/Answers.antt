use Rattle.std.proofs.Common.{rules}
use Rattle.frame_table.proofs.KeeperCalls.{may_sub}
use Rattle.frame_table.proofs.table.FrameTable.sub_at.Goals as goal

pub fetch_sub-requires : goal.fetch_sub-requires
fetch_sub-requires c = (search rules, search rules, may_sub _ _ _ _ _ _ c.requires.keeper (search rules) c.args.frame c.frame_word.ensures.at c.requires.may)
