use Rattle.std.proofs.Common.{◌<◌, sym, ap, ◌∙◌, subst}
use Rattle.ksm_base.specs.declared.shape.Shape.{Shape}
use Rattle.ksm_base.specs.Values.{frames_of}
use Rattle.ksm_shared.specs.Named.{PartsId}
use Rattle.shared_trials.proofs.books.tried.Goals as goal

pub place-requires : goal.place-requires
place-requires g c = subst (λ (s : Shape). 0 < frames_of s) (ap (λ (p : PartsId). p.frames.shape) c.requires.name ∙ sym c.closed-table.ensures) c.requires.places

pub count-requires : goal.count-requires
count-requires g c = subst (λ (s : Shape). 0 < frames_of s) (ap (λ (p : PartsId). p.frames.shape) c.requires.name ∙ sym c.closed-table.ensures) c.requires.places
