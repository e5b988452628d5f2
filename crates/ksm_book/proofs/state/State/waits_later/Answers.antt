use Rattle.ksm_book.proofs.Names.{arith, false, has_gone_by, MatchOption, not, row_at, sym, waits_later, ◌&&◌, ◌∙◌, ◌≡◌}
use Rattle.ksm_book.proofs.SoFar.{gone_later, tells_later}
use Rattle.ksm_book.proofs.state.State.waits_later.Goals as goal

pub returns-then-not-has_gone_by : goal.returns-then-not-has_gone_by
returns-then-not-has_gone_by c =
    let page = c.args.spot.page in
    let told : MatchOption (row_at page c.args.self.now.state.rows) ((not (has_gone_by c.args.reach page) && c.waits.result) ≡ false)
    (λ r. (not (has_gone_by c.args.reach page) && c.waits.result) ≡ waits_later c.args.reach r) =
    rw (← c.self.view_is) (tells_later c.args.reach page c.self.inside.pages.rows c.waits.result c.waits.ensures) in
    grind (arith, told)

pub returns-else-not-has_gone_by : goal.returns-else-not-has_gone_by
returns-else-not-has_gone_by c = gone_later c.args.reach c.args.spot.page c.args.self.now.state.rows (not c.has_gone_by.result)
    (grind (arith, c.if-not-has_gone_by.false)) (sym c.has_gone_by.ensures ∙ c.if-not-has_gone_by.false)
