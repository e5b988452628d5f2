use Rattle.std.proofs.Common.{rules}
use Rattle.frame_table.proofs.KeeperCalls.{may_open}
use Rattle.frame_table.proofs.table.FrameTable.open_at.Goals as goal

pub fetch_add-requires : goal.fetch_add-requires
fetch_add-requires c = (search rules, search rules, may_open _ _ _ _ _ _ c.requires.keeper (search rules) c.args.frame c.frame_word.ensures.at c.requires.may)
