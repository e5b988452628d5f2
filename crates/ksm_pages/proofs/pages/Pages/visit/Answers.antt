use Rattle.ksm_pages.proofs.Names.{ap, arith, changed, held_of, inl, inr, on_err, Private, refl, Row, rows_of, same_page_eq, same_page_refl, seen, Some, sym, true, ◌∙◌, ◌≡◌}
use Rattle.ksm_pages.proofs.Visiting.{alone, alone_seen, asked, entered, entered_lone, free_but, free_by, known, lone_none, MayEnter, partner_by, still_asked, waits_page}
use Rattle.ksm_pages.proofs.Leaving.{tree_is}
use Rattle.ksm_pages.proofs.Turning.{Comes, own_left, rested}
use Rattle.ksm_pages.proofs.pages.Pages.visit.Goals as goal
use Rattle.ksm_pages.proofs.pages.Pages.visit.Goals.{After-enter-arg-1, in-Some-in_tree+else-ne, in-Some-in_tree+then-ne+else-waits, in_default-in_tree}

pub group_with_best-group-requires : goal.group_with_best-group-requires
group_with_best-group-requires c =
    lone_none (asked c.self.inside c.self.invariant c.self.view_is c.in-Some.entry.now c.in-Some.ensures (grind arith)) c.tree_in-tree.ensures

pub returns-in-Some-best-clause-found : goal.returns-in-Some-best-clause-found
returns-in-Some-best-clause-found c =
    let it = asked c.self.inside c.self.invariant c.self.view_is c.in-Some.entry.now c.in-Some.ensures (grind arith) in
    rw c.group_with_best-group.ensures.kept
    (grind (arith, known it c.tree_in-tree.ensures, c.group_with_best-group.ensures.best, c.in-Some-best.is))

abbrev found : Row → Row
found r = record r { unchanged = true; state = Private }

pub note_unchanged-requires : goal.note_unchanged-requires
note_unchanged-requires c =
    rw c.in-Some.ensures (alone (asked c.self.inside c.self.invariant c.self.view_is c.in-Some.entry.now c.in-Some.ensures (grind arith)))

-- the page of a row that was not unchanged rests, and is unchanged
went : (c : goal.After-note_unchanged) → Comes c.self.inside c.note_unchanged.new.self c.self.inside.dups (changed c.args.spot.page found (seen c.args.self.now))
went c =
    let it = asked c.self.inside c.self.invariant c.self.view_is c.in-Some.entry.now c.in-Some.ensures (grind arith) in
    rested (own_left c.self.invariant c.self.view_is (alone_seen it)) (alone_seen it) _ c.note_unchanged.ensures found (λ x. (refl, refl)) (λ r. (refl, refl)) (λ x own. grind (arith, own)) (λ lone. lone)

pub invariant_of-self-then-not-entry : goal.invariant_of-self-then-not-entry
invariant_of-self-then-not-entry c = rw c.group_with_best-group.ensures.kept (went c).lawful

pub returns-then-not-entry-clause-found : goal.returns-then-not-entry-clause-found
returns-then-not-entry-clause-found c =
    let it = asked c.self.inside c.self.invariant c.self.view_is c.in-Some.entry.now c.in-Some.ensures (grind arith) in
    rw c.group_with_best-group.ensures.kept
    (grind (arith, known it c.tree_in-tree.ensures, c.group_with_best-group.ensures.best, c.in_default-best.is, (went c).told_as))

pub returns-then-is_for_zero-clause-found : goal.returns-then-is_for_zero-clause-found
returns-then-is_for_zero-clause-found c =
    let it = asked c.self.inside c.self.invariant c.self.view_is c.in-Some.entry.now c.in-Some.ensures (grind arith) in
    rw c.group_with_best-group.ensures.kept
    (grind (arith, known it c.tree_in-tree.ensures, c.group_with_best-group.ensures.best, c.in_default-best.is, c.is_for_zero.ensures))

pub returns-then-waits-clause-found : goal.returns-then-waits-clause-found
returns-then-waits-clause-found c =
    let s = c.self.inside in
    let it = asked s c.self.invariant c.self.view_is c.in-Some.entry.now c.in-Some.ensures (grind arith) in
    let by = partner_by s c.self.invariant c.self.view_is c.args.spot.page c.in-Some.entry.now c.in-Some.ensures
    c.are_lawful.ensures.led c.are_lawful.ensures.found c.tree_in-tree.ensures in
    rw c.group_with_best-group.ensures.kept
    (grind (
      arith,
      known it c.tree_in-tree.ensures,
      c.group_with_best-group.ensures.best,
      c.in_default-best.is,
      c.is_for_zero.ensures,
      by,
      c.in-Some-in_tree.ensures,
      waits_page (rows_of s.rows.held) c.args.spot.page c.in-Some-in_tree.other.page c.waits.result c.waits.ensures (grind arith),
    ))

way : (c : After-enter-arg-1)
    → MayEnter c.match-in_tree.self-inside c.args.self.now c.args.spot.page c.in-Some.entry.now c.group_with_best-group.result.0
way c =
    let s = c.self.inside in
    let e = c.in-Some.entry.now in
    let it = asked s c.self.invariant c.self.view_is e c.in-Some.ensures (grind arith) in
    let by = partner_by s c.self.invariant c.self.view_is c.args.spot.page e c.in-Some.ensures
    c.are_lawful.ensures.led c.are_lawful.ensures.found c.tree_in-tree.ensures in
    let kept_dups = c.group_with_best-group.ensures.kept in
    let lone = entered_lone it c.tree_in-tree.ensures _ c.group_with_best-group.ensures.none in
    let h = held_of s.rows.pass e in
    let of_home = tree_is s.knobs c.self.invariant.by_node h.row ∙ sym (c.tree_in-tree.ensures h.row refl) in
    elim c.match-in_tree.branch [
      | in-Some-in_tree+then-ne+else-waits w ↦
          rw (w.self-inside-is, kept_dups, w.leave_tree.ensures) (record {
            asked = still_asked it w.in-Some-in_tree.other.page (grind arith) w.if-waits.false w.waits.ensures;
            lone = lone;
            lonely = grind (arith, by, w.in-Some-in_tree.ensures, w.waits.ensures, w.if-waits.false);
            free = free_but s.rows c.are_lawful.ensures.found c.args.spot.page h of_home (sym w.in-Some-in_tree.ensures);
          })
      | in-Some-in_tree+else-ne w ↦
          let own : w.in-Some-in_tree.other.page ≡ c.args.spot.page =
          grind (arith, same_page_eq w.in-Some-in_tree.other.page c.args.spot.page, w.if-ne.ensures) in
          rw (w.self-inside-is, kept_dups) (record {
            asked = it;
            lone = lone;
            lonely = grind (arith, by, w.in-Some-in_tree.ensures, own, same_page_refl c.args.spot.page);
            free = free_by s.rows c.are_lawful.ensures.found c.args.spot.page h of_home (inr (sym w.in-Some-in_tree.ensures ∙ ap Some own));
          })
      | in_default-in_tree w ↦
          rw (w.self-inside-is, kept_dups) (record {
            asked = it;
            lone = lone;
            lonely = grind (arith, by, w.in_default-in_tree.ensures);
            free = free_by s.rows c.are_lawful.ensures.found c.args.spot.page h of_home (inl (grind arith));
          })
    ]

pub enter-requires-clause-own : goal.enter-requires-clause-own
enter-requires-clause-own c = rw (way c).asked.found (alone (way c).asked)

pub enter-requires-clause-free : goal.enter-requires-clause-free
enter-requires-clause-free c = rw (way c).asked.found (way c).free

pub invariant_of-self-in_err-enter : goal.invariant_of-self-in_err-enter
invariant_of-self-in_err-enter c =
    rw c.in_err-enter.ensures.kept (way (goal.at.invariant_of-self-in_err-enter c).After-enter-arg-1).asked.lawful

pub returns-in_err-enter-clause-refused : goal.returns-in_err-enter-clause-refused
returns-in_err-enter-clause-refused c =
    on_err c.from_residual.result
    (rw c.in_err-enter.ensures.kept (way (goal.at.returns-in_err-enter-clause-refused c).After-enter-arg-1).asked.seen_as)

pub returns-in_err-enter-clause-restless : goal.returns-in_err-enter-clause-restless
returns-in_err-enter-clause-restless c =
    let it = asked c.self.inside c.self.invariant c.self.view_is c.in-Some.entry.now c.in-Some.ensures (grind arith) in
    on_err c.from_residual.result (grind (arith, known it c.tree_in-tree.ensures))

pub invariant_of-self-2 : goal.invariant_of-self-2
invariant_of-self-2 c = (entered (way (goal.at.invariant_of-self-2 c).After-enter-arg-1) c.in_ok-enter.ensures.waits).lawful

pub returns-clause-found : goal.returns-clause-found
returns-clause-found c =
    let it = asked c.self.inside c.self.invariant c.self.view_is c.in-Some.entry.now c.in-Some.ensures (grind arith) in
    let entered_so = way (goal.at.returns-clause-found c).After-enter-arg-1 in
    grind (
      arith,
      known it c.tree_in-tree.ensures,
      c.group_with_best-group.ensures.best,
      c.in_default-best.is,
      c.is_for_zero.ensures,
      entered_so.lonely,
      (entered entered_so c.in_ok-enter.ensures.waits).told_as,
    )
