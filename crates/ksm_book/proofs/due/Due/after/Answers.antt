use Rattle.ksm_book.proofs.Names.{ap, arith, DueView, FindsFirst, option_map, sym, ◌∙◌, ◌≡◌}
use Rattle.ksm_book.proofs.Dues.{first_found, none_added, pages_in}
use Rattle.ksm_book.proofs.due.Due.after.Goals as goal
use Rattle.ksm_book.proofs.due.Due.after.Goals.{After-after}

-- what the search in the order finds is the first page behind the cursor, since all pages stand in order
first : (c : After-after) → FindsFirst c.args.cursor c.args.self.now.pages (option_map (λ n. n.page) c.after.result)
first c =
    let order = c.self.inside.order in
    let whole : pages_in order ≡ c.args.self.now.pages =
    rw (← c.self.view_is) (sym (none_added _ _ _ (ap (λ (d : DueView). d.ready) c.self.view_is ∙ c.requires))) in
    rw (← whole, c.after.ensures) (first_found _ _ c.self.invariant)

pub returns-in-Some : goal.returns-in-Some
returns-in-Some c = grind (arith, c.in-Some.is, first (goal.at.returns-in-Some c).After-after)

pub returns-in-None : goal.returns-in-None
returns-in-None c = grind (arith, c.in-None.is, first (goal.at.returns-in-None c).After-after)
