use Rattle.std.proofs.Common.{ap, sym, subst}
use Rattle.frame_table.specs.Terms.{Shape}
use Rattle.frame_table.specs.Named.{TableName}
use Rattle.frame_table.specs.Rule.{Holds}
use Rattle.frame_table.specs.Views.{IsKeeper}
use Rattle.crowded_frame.proofs.Telling.{live_now}
use Rattle.crowded_frame.proofs.moments.keeper_of_live_places.Goals as goal

pub returns-clause-live : goal.returns-clause-live
returns-clause-live c = λ t p seen live.
    let safe = c.words_of.ensures.safe t (subst (λ (sh : Shape). Holds sh t) (sym c.words_of.ensures.own.1) seen.0) in
    let is = subst (λ (sh : Shape). IsKeeper sh c.seat.result.now.me) (ap (λ (n : TableName). n.shape) c.requires.own) c.seat.ensures.view.0 in
    (c.a_replaced_place_is_never_empty.ensures.found _ t p seen.0 (live_now _ t _ c.seat.result.now.me _ p safe is c.seat.ensures.view.1 seen.1 live)).0
