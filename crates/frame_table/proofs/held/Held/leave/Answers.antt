use Rattle.std.proofs.Common.{◌≡◌, ap, ◌∙◌, subst, sym}
use Rattle.frame_table.proofs.CoreNames.{Shape, frames_of, frame_word_at, Held as held, aim_at}
use Rattle.frame_table.specs.Views.{IsIn, shape_in, known_in}
use Rattle.frame_table.proofs.held.Held.leave.Goals as goal

pub give_back-requires-clause-phase : goal.give_back-requires-clause-phase
give_back-requires-clause-phase c =
    let i = c.self.inside in
    let same : shape_in i.seat.me ≡ c.args.table.now.shape = ap (λ h. h.table.shape) c.self.view_is ∙ ap (λ n. n.shape) c.requires.own in (
      aim_at i.place i.frame i.generation,
      known_in i.seat.me,
      sym (subst (λ (s : Shape). i.word ≡ frame_word_at (frames_of s) i.frame) same c.self.invariant.word),
      subst (λ (s : Shape). IsIn s (held (aim_at i.place i.frame i.generation) (known_in i.seat.me)) i.seat.me) same c.self.invariant.seat,
    )
