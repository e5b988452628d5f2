use Rattle.ksm_pages.proofs.Names.{ap, arith, dup_rows, DupRow, DupsState, elsewhere, filter, frame_of, IsVacant, List, lodging, lodgings_of, PagesValue, rows_of, rows_without, rules, seen, subst}
use Rattle.ksm_pages.proofs.Names.{sym, tied_pruned, ◌∙◌}
use Rattle.ksm_pages.proofs.Dropping.{lodged_dropped, lone_dropped, stale_there}
use Rattle.ksm_pages.proofs.Leaving.{view_of}
use Rattle.ksm_pages.proofs.pages.Pages.drop_stale.Goals as goal

pub drop_stale-requires : goal.drop_stale-requires
drop_stale-requires c =
    search (rules, stale_there (rows_of c.self.inside.rows.held) _ c.self.invariant.tied (subst (λ (v : PagesValue). IsVacant c.args.place v.rows v.dups) (sym c.self.view_is) c.requires))

pub invariant_of-self : goal.invariant_of-self
invariant_of-self c = rw c.drop_stale.ensures (search (rules, tied_pruned, lone_dropped))

pub returns-then-is_some : goal.returns-then-is_some
returns-then-is_some c =
    let s = c.self.inside in
    let place = c.args.place in
    let dropped = (λ i. dup_rows (c.drop_stale.ensures i).dups) ∙ rows_without place _ in
    let lain =
    ap (λ (ds : List DupRow). frame_of (lodgings_of (lodging ds s.frames.items) s.rows.held)) dropped
    ∙ lodged_dropped _ _ _ (grind arith) in
    (λ i. record (seen (view_of s)) { dups = dropped i; frame = lain i; next = ap (λ (d : DupsState). d.next) c.drop_stale.ensures i })
    ∙ ap (λ (v : PagesValue). record (seen v) { dups = filter (elsewhere place) v.dups }) c.self.view_is
