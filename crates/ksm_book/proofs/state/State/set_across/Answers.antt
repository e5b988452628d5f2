use Rattle.ksm_book.proofs.Names.{All, All-map, ap, AreDue, arith, BookState, BookValue, Done, Err, false, inr, IsCarried, IsLaid, IsSound, Knobs, map, ne_eqb, no_dup_lives, none_shared, Ok, PagesView, refl, seen, SetAcross, settled, state_of, subst, sym}
use Rattle.ksm_book.proofs.Names.{view_of, waiting_state, [], ◌≡◌}
use Rattle.ksm_book.specs.contracts.state.State.{the_view}
use Rattle.ksm_book.proofs.Laying.{laid_mapped, retuned}
use Rattle.ksm_book.proofs.Singles.{book, lawful}
use Rattle.ksm_book.proofs.SoFar.{counts_ended, regrouped_due, regrouped_sound, shown_ended}
use Rattle.ksm_book.proofs.state.State.set_across.Goals as goal
use Rattle.ksm_book.proofs.state.State.set_across.Goals.{After-drop_stale, After-set_knobs}

pub returns-in-Some-clause-carried : goal.returns-in-Some-clause-carried
returns-in-Some-clause-carried c =
    subst (λ (w : BookValue). IsCarried (view_of c.args.self.now) (view_of w) (SetAcross c.args.across) (Err c.in-Some.fault))
    (sym (shown_ended c.args.due.now c.args.self.now c.requires.reach.0)) (grind arith)

pub returns-in-Some-clause-later : goal.returns-in-Some-clause-later
returns-in-Some-clause-later c = counts_ended c.args.due.now c.args.self.now.state c.requires.reach

pub returns-then-across-knobs-clause-carried : goal.returns-then-across-knobs-clause-carried
returns-then-across-knobs-clause-carried c =
    subst (λ (w : BookValue). IsCarried (view_of c.args.self.now) (view_of w) (SetAcross c.args.across) (Ok Done))
    (sym (shown_ended c.args.due.now c.args.self.now c.requires.reach.0)) (grind arith)

pub returns-then-across-knobs-clause-later : goal.returns-then-across-knobs-clause-later
returns-then-across-knobs-clause-later c = counts_ended c.args.due.now c.args.self.now.state c.requires.reach

-- no dup had items, so none is left
none_left : (c : After-drop_stale) → c.drop_stale.new.pages.dups ≡ []
none_left c =
    let other = ne_eqb c.args.across c.args.self.now.state.knobs.merge_across_nodes (λ e. c.if-across-knobs.false (grind (arith, e))) in
    let none = no_dup_lives c.args.self.now.state (none_shared c.args.self.now.state _ (grind arith) other) in
    grind (arith, c.drop_stale.ensures.pages, none)

pub keeps_waiting-requires : goal.keeps_waiting-requires
keeps_waiting-requires c = none_left ((goal.at.keeps_waiting-requires c).After-drop_stale)

abbrev was : After-drop_stale → BookState
was c = state_of (seen c.self.inside.pages) c.self.inside.cursor c.self.inside.passes

-- where the rows that wait stay so, the knobs alone change beside the stale dups that went
goes : (c : After-drop_stale) (p : PagesView) (knobs : Knobs) → p ≡ record (seen c.drop_stale.new.pages) { knobs = knobs }
    → state_of p c.self.inside.cursor c.self.inside.passes ≡ record (was c) { dups = []; knobs = knobs }
goes c p knobs set = grind (arith, set, c.drop_stale.ensures.pages, none_left c)

pub invariant_of-self : goal.invariant_of-self
invariant_of-self c =
    let s = c.self.inside in
    let at = (goal.at.invariant_of-self c).After-drop_stale in
    let set = c.keeps_waiting.ensures.set c.if-keeps_waiting.true in
    let goes = goes at (seen c.keeps_waiting.new.pages) c.with-knobs.result set in
    let did : IsCarried (view_of c.args.self.now) (book (record (seen c.keeps_waiting.new.pages) { rows = map settled c.keeps_waiting.new.pages.rows })
    c.drop_stale.new.keeper s.cursor s.passes) (SetAcross c.args.across) (Ok Done) = grind (arith, set) in
    let calm = (lawful {v = view_of c.args.self.now} (rw (← c.self.view_is) c.self.invariant.0) (did, tt {0})).0 in
    let alone = rw (ap (λ (b : BookState). b.rows) goes) at c.keeps_waiting.ensures.alone c.if-keeps_waiting.true in (
      subst IsSound (sym goes) (regrouped_sound (was at) c.with-knobs.result c.self.invariant.0
          (subst IsSound (λ i. record (goes i) { rows = map settled (goes i).rows }) calm) alone),
      rw set (retuned (inr (none_left at)) c.drop_stale.ensures.laid),
    )

pub returns-then-keeps_waiting-clause-due : goal.returns-then-keeps_waiting-clause-due
returns-then-keeps_waiting-clause-due c = λ known.
    let at = (goal.at.returns-then-keeps_waiting-clause-due c).After-drop_stale in
    let goes = goes at (seen c.keeps_waiting.new.pages) c.with-knobs.result (c.keeps_waiting.ensures.set c.if-keeps_waiting.true) in
    let due : AreDue (was at) c.args.due.now.pages = rw (← c.self.view_is) at c.requires.due (c.keeps_waiting.ensures.start c.if-keeps_waiting.true).0 in
    rw c.go_to.ensures (subst (λ (b : BookState). AreDue b c.args.due.now.pages) (sym goes) (regrouped_due (was at) c.with-knobs.result _ (grind arith) due))

-- else no row waits any more
pub set_knobs-requires : goal.set_knobs-requires
set_knobs-requires c = inr (subst (λ (p : PagesView). All (λ r. waiting_state r.state ≡ false) p.rows) (sym c.settle_all.ensures)
    (All-map (λ r. waiting_state r.state ≡ false) _ _ (grind arith)))

carried : (c : After-set_knobs) → IsCarried (view_of c.args.self.now) (book (seen c.set_knobs.new.self) c.drop_stale.new.keeper c.self.inside.cursor c.self.inside.passes)
    (SetAcross c.args.across) (Ok Done)
carried c = grind (arith, c.keeps_waiting.ensures.kept c.if-keeps_waiting.false)

pub invariant_of-self-2 : goal.invariant_of-self-2
invariant_of-self-2 c =
    let at = (goal.at.invariant_of-self-2 c).After-set_knobs in
    let there = subst (λ (p : PagesView). IsLaid p c.drop_stale.new.keeper) (sym c.settle_all.ensures)
    (laid_mapped (rw (c.keeps_waiting.ensures.kept c.if-keeps_waiting.false) c.drop_stale.ensures.laid) _ (λ r. refl) (grind arith)) in
    let none : c.settle_all.new.self.dups ≡ [] = grind (arith, c.settle_all.ensures, c.keeps_waiting.ensures.kept c.if-keeps_waiting.false, none_left ((goal.at.invariant_of-self-2 c).After-drop_stale)) in
    lawful {v = view_of c.args.self.now} (rw (← c.self.view_is) c.self.invariant.0)
    (carried at, rw c.set_knobs.ensures (retuned (inr none) there))

pub returns-clause-carried : goal.returns-clause-carried
returns-clause-carried c =
    let w = the_view (record c.self.inside { pages = c.set_knobs.new.self; keeper = c.drop_stale.new.keeper }) in
    subst (λ (v : BookValue). IsCarried (view_of c.args.self.now) (view_of v) (SetAcross c.args.across) (Ok Done))
    (sym (shown_ended c.forget.new.self w (grind (arith, c.forget.ensures, c.requires.reach)))) (carried ((goal.at.returns-clause-carried c).After-set_knobs))

pub returns-clause-later : goal.returns-clause-later
returns-clause-later c =
    counts_ended c.forget.new.self (state_of (seen c.set_knobs.new.self) c.self.inside.cursor c.self.inside.passes) (grind (arith, c.forget.ensures, c.requires.reach))
