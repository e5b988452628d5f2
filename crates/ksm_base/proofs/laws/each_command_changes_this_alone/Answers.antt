use Rattle.ksm_base.proofs.laws.each_command_changes_this_alone.Goals as goal
use Rattle.ksm_base.proofs.Changes.{changes_alone}

pub returns : goal.returns
returns c = changes_alone
