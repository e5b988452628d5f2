use Rattle.ksm_book.proofs.Names.{ap, arith, DueView, has_item, Named, not, pages_ordered, same_page, sym, without_rises, ◌&&◌, ◌∙◌}
use Rattle.ksm_book.proofs.Dues.{has_found, has_taken, none_added, pages_in}
use Rattle.ksm_book.proofs.due.Due.remove.Goals as goal

pub remove-requires : goal.remove-requires
remove-requires c =
    record {
      there = grind (arith, has_found c.args.page c.self.inside.order, none_added, c.self.view_is, c.requires.due);
    }

pub invariant_of-self : goal.invariant_of-self
invariant_of-self c = rw c.remove.ensures (without_rises pages_ordered (λ (m : Named). m.page) c.args.page _ c.self.invariant)

pub returns-clause-gone : goal.returns-clause-gone
returns-clause-gone c = λ other.
    let ready = ap (λ (d : DueView). d.ready) c.self.view_is ∙ c.requires.ready in
    ap (has_item other) (none_added _ _ _ ready) ∙ ap (λ order. has_item other (pages_in order)) c.remove.ensures
    ∙ has_taken c.args.page c.self.inside.order other ∙ ap (λ l. has_item other l && not (same_page c.args.page other))
    (rw (← c.self.view_is) (sym (none_added _ _ _ ready)))
