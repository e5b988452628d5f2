use Rattle.std.proofs.Common.{ap, subst, sym}
use mathlib.Core.List.{IsPrefix}
use Rattle.ksm_shared.specs.Published.{ShownRow}
use Rattle.ksm_shared.proofs.Showing.{turns}
use Rattle.ksm_shared.proofs.rows.publish.Goals as goal

pub show_as-requires : goal.show_as-requires
show_as-requires g c =
    let row = c.args.next.1 in
    let begins = subst (λ (shown : ShownRow). IsPrefix shown.reached.journal row.reached.journal) (sym (ap (λ part. part.value) c.open-open.ensures.values.0)) c.requires.begins in
    turns _ _ _ _ row begins (λ _. c.requires.row)
