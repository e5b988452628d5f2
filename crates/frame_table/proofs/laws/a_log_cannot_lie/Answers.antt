use Rattle.frame_table.proofs.TrueEntries.{readers_log_is_true, keepers_log_is_true}
use Rattle.frame_table.proofs.laws.a_log_cannot_lie.Goals as goal

pub returns-clause-readers : goal.returns-clause-readers
returns-clause-readers c = readers_log_is_true

pub returns-clause-keeper : goal.returns-clause-keeper
returns-clause-keeper c = keepers_log_is_true
