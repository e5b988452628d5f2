use Rattle.std.proofs.Common.{ap, sym, subst}
use Rattle.frame_table.specs.Terms.{Shape, Idle}
use Rattle.frame_table.specs.Named.{TableName}
use Rattle.frame_table.specs.Rule.{Holds}
use Rattle.frame_table.specs.Views.{IsIn}
use Rattle.crowded_frame.proofs.Telling.{reader_tells}
use Rattle.crowded_frame.proofs.moments.seat_of_a_pass.Goals as goal

pub returns-clause-log : goal.returns-clause-log
returns-clause-log c = λ t seen.
    let safe = c.words_of.ensures.safe t (subst (λ (sh : Shape). Holds sh t) (sym c.words_of.ensures.own.1) seen.0) in
    let is = subst (λ (sh : Shape). IsIn sh Idle c.seat.result.now.me) (ap (λ (n : TableName). n.shape) c.requires.own) c.seat.ensures.view.0 in
    reader_tells _ t _ c.seat.result.now.me Idle _ safe is c.seat.ensures.view.1 seen.1
