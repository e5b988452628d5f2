use Rattle.std.proofs.Common.{ap, sym, ◌∙◌}
use Rattle.frame_table.proofs.CoreNames.{frames_of, count_in, frame_word_at}
use Rattle.frame_table.proofs.Looks.{counted}
use Rattle.frame_table.proofs.pass.try_round.Goals as goal

pub exchange-found-requires-clause-phase : goal.exchange-found-requires-clause-phase
exchange-found-requires-clause-phase c =
    let at = c.requires.phase in
    let n = c.load_frame-loaded.result in
    let r = counted c.args.table.now.shape at.0 at.1 n c.args.seat.now.me c.load_frame-loaded.new.seat.me at.3 c.load_frame-loaded.ensures.step.0 (
      (λ e. c.if-said-eq0.false (c.unpack-said.ensures.count ∙ e)),
      sym c.unpack-said.ensures.life
          ∙ (c.if-said-life.false ∙ sym (ap (λ l. l.generation) at.2)),
    ) in
    (at.0, at.1, count_in n, ap (λ l. frame_word_at (frames_of c.args.table.now.shape) l.frame) at.2 ∙ sym c.requires.at, r.0, r.1)
