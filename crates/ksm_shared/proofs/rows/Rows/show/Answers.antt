use Rattle.std.proofs.Common.{◌≡◌, ◌∙◌, rules, subst, sym}
use mathlib.Core.List.{IsPrefix}
use Rattle.ksm_shared.specs.Published.{IsRowOf, ShownRow, row_at}
use Rattle.ksm_shared.proofs.rows.Rows.show.Goals as goal

pub replace_with-requires : goal.replace_with-requires
replace_with-requires g c =
    let now = c.in-Some.copies.desk.shown.value in
    let shown : now ≡ c.args.self.now = search rules in
    let begins = subst (λ (x : ShownRow). IsPrefix x.reached.journal c.args.reached.journal) (sym shown) c.requires.begins in
    let made = c.new-row.ensures in
    let row : c.new-row.result ≡ row_at c.args.book.now.state c.args.reached = λ i. record { counters = (made.0 ∙ c.counters.ensures) i; reached = made.1 i } in
    subst (λ (x : ShownRow). IsPrefix now.reached.journal x.reached.journal × IsRowOf g.N.Naming.parts x) (sym (c.again.ensures ∙ row)) (begins, c.requires.row)
