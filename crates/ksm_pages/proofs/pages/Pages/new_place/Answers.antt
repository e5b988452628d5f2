use Rattle.ksm_pages.proofs.Names.{arith, choice_alike, choice_exists, PagesValue, place_count, rows_of, subst, sym, tied_counted, ◌<◌}
use Rattle.ksm_base.specs.Visit.{new_place as place_of_new}
use Rattle.ksm_pages.proofs.pages.Pages.new_place.Goals as goal

pub choose_place-requires : goal.choose_place-requires
choose_place-requires c =
    let rows = rows_of c.self.inside.rows.held in
    let room = subst (λ (v : PagesValue). place_of_new (place_count v.shape) v.rows v.dups < place_count v.shape) (sym c.self.view_is) c.requires.room in
    choice_exists rows c.self.inside.dups (tied_counted rows _ c.self.invariant.tied) (grind arith)

pub returns-in-Stale : goal.returns-in-Stale
returns-in-Stale c =
    let rows = rows_of c.self.inside.rows.held in
    rw (← c.self.view_is, ← c.self.invariant.places)
    (choice_alike rows c.self.inside.dups _ (tied_counted rows _ c.self.invariant.tied) c.in-Stale.ensures)
