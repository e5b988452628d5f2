use Rattle.ksm_base.specs.State.{opening}
use Rattle.ksm_base.proofs.SoundSteps.{sound_opening, sound_after, sound_replay}
use Rattle.ksm_base.proofs.sound.every_step_keeps_it_sound.Goals as goal

pub returns-clause-opening : goal.returns-clause-opening
returns-clause-opening c = sound_opening

pub returns-clause-step : goal.returns-clause-step
returns-clause-step c = sound_after

pub returns-clause-journal : goal.returns-clause-journal
returns-clause-journal c =
    λ shape journal small answers. sound_replay (opening shape) journal answers (sound_opening shape small)
