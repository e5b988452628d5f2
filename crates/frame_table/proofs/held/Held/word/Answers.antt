use Rattle.std.proofs.Common.{◌≡◌, ap, ◌∙◌, subst, sym}
use Rattle.frame_table.proofs.CoreNames.{Shape, frames_of, page_at, Held as held, aim_at}
use Rattle.frame_table.specs.Views.{IsIn, shape_in, known_in}
use Rattle.frame_table.proofs.held.Held.word.Goals as goal

pub load_word-requires-clause-phase : goal.load_word-requires-clause-phase
load_word-requires-clause-phase c =
    let i = c.self.inside in
    let same : shape_in i.seat.me ≡ c.args.table.now.shape = ap (λ h. h.table.shape) c.self.view_is ∙ ap (λ n. n.shape) c.requires.own in
    (aim_at i.place i.frame i.generation, known_in i.seat.me, sym (subst (λ (s : Shape). i.page ≡ page_at (frames_of s) i.frame) same c.self.invariant.page), subst (λ (s : Shape). IsIn s (held (aim_at i.place i.frame i.generation) (known_in i.seat.me)) i.seat.me) same c.self.invariant.seat)
