use Rattle.std.proofs.Common.{sym}
use Rattle.ksm_base.proofs.SoundItems.{dup_of_item, home_of_item}
use Rattle.ksm_base.proofs.sound.items_agree_with_their_dup.Goals as goal

pub returns-clause-bytes : goal.returns-clause-bytes
returns-clause-bytes c = λ b s k d lt j e lt_e into. sym (dup_of_item b s k d lt j e lt_e into).bytes

pub returns-clause-home : goal.returns-clause-home
returns-clause-home c = home_of_item
