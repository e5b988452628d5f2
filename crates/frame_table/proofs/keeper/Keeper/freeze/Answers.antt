use Rattle.std.proofs.Common.{rules}
use Rattle.frame_table.proofs.keeper.Keeper.freeze.Goals as goal

pub returns-then-freeze_at-alone : goal.returns-then-freeze_at-alone
returns-then-freeze_at-alone c = (c.freeze_at.result, search rules, ((λ t. search rules), (λ e. search rules)))
