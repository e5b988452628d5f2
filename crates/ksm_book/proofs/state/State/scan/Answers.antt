use Rattle.ksm_book.proofs.Names.{any_found, ap, arith, BookState, BookValue, Comes, CountsLater, false, Fault, filter, is_some, IsCarried, IsScanned, length, length-filter, length-map, List, list_any, list_any_none, Memory}
use Rattle.ksm_book.proofs.Names.{mergeable_count, mergeable_pages, None, none_counted, Ok, Option, refl, Row, Scan, scan_stopped, Scanned, shown_so_far, Some, subst, sym, TellsDue, true, view_of, visits_beside, ℕ}
use Rattle.ksm_book.proofs.Names.{◌+◌, ◌∙◌, ◌≡◌, ◌≤◌}
use Rattle.ksm_book.specs.contracts.state.State.{the_view}
use Rattle.ksm_book.proofs.SoFar.{any_mergeable, mergeable_so_far}
use Rattle.ksm_book.proofs.Folded.{begins, beside_on, beside_state, comes_to, first, visits_mergeable}
use Rattle.ksm_book.proofs.Sharing.{first_found}
use Rattle.ksm_book.proofs.state.State.scan.Goals as goal
use Rattle.ksm_book.proofs.state.State.scan.Goals.{After-list_restless, After-mergeable}

-- scans visit as many pages as there are mergeable rows
some_pages : (rows : List Row) → length (mergeable_pages rows) ≡ mergeable_count rows
some_pages rows = length-map (filter (λ (r : Row). r.mergeable) rows) (λ (r : Row). r.page) ∙ length-filter (λ (r : Row). r.mergeable) rows

-- `Scan` is carried out where visits were made and then the scan stopped, or did not, as it answers
scanned : (v w : BookValue) (count made : ℕ) (stop : Option Fault) → v.state.knobs.run ≡ 1
    → IsScanned v.state count (Ok (Scanned made stop))
    → Comes v w (λ s. (scan_stopped stop (visits_beside made s).0, (visits_beside made s).1))
    → IsCarried (view_of v) (view_of w) (Scan count) (Ok (Scanned made stop))
scanned v w count made stop running is comes = grind (arith, beside_state, comes v (first v) (begins v))

running : (c : After-mergeable) → c.args.self.now.state.knobs.run ≡ 1
running c = rw (← c.self.view_is, ← c.knobs.ensures) c.if-knobs-ne1.false

pub returns-then-mergeable-eq0-clause-carried : goal.returns-then-mergeable-eq0-clause-carried
returns-then-mergeable-eq0-clause-carried c =
    let v = shown_so_far c.args.due.now c.args.self.now in
    let none : list_any (λ r. r.mergeable) v.state.rows ≡ false =
    any_mergeable c.args.due.now.reach c.args.self.now.state ∙ (grind (arith, c.self.view_is, list_any_none, none_counted)) in
    scanned v v _ 0 None (running ((goal.at.returns-then-mergeable-eq0-clause-carried c).After-mergeable))
    (grind arith) (λ from s before. before)

some : (c : After-list_restless) → list_any (λ r. r.mergeable) (shown_so_far c.args.due.now c.args.self.now).state.rows ≡ true
some c =
    let rows = c.args.self.now.state.rows in
    let found = first_found (λ (r : Row). r.mergeable) rows (grind (arith, c.self.view_is)) in
    any_mergeable c.args.due.now.reach c.args.self.now.state ∙ any_found (λ (r : Row). r.mergeable) rows ∙ ap is_some found.1

pub loop-done-init : goal.loop-done-init
loop-done-init c =
    let same : the_view (record c.self.inside { pages = c.list_restless.new.self }) ≡ c.args.self.now = rw c.list_restless.ensures c.self.view_is in
    subst (λ (v : BookValue). (0 ≤ c.args.count) × Comes (shown_so_far c.args.due.now c.args.self.now) (shown_so_far c.args.due.now v) (λ s. s)
    × TellsDue c.args.due.now v.state × CountsLater c.args.due.now v.state) (sym same)
    (omega arith, λ from s before. before, c.requires.due, c.requires.later)

pub go_on-requires-clause-some : goal.go_on-requires-clause-some
go_on-requires-clause-some c =
    let came = comes_to (shown_so_far c.args.due.now c.args.self.now) (shown_so_far c.loop-done.due c.loop-done.self) _ c.loop-done.invariant.1 in
    let same = ap (λ (b : BookState). mergeable_pages b.rows) came in
    grind (arith, same, mergeable_so_far, visits_mergeable, c.self.view_is, some_pages)

pub loop-done-preserved : goal.loop-done-preserved
loop-done-preserved c = (
  omega (arith, c.in-Ok.ensures.made.fit, c.loop-done.invariant.0),
  λ from s before. rw (beside_on c.loop-done.done c.in-Ok.visits (c.loop-done.done + c.in-Ok.visits) s refl)
      (c.in-Ok.ensures.made.comes from _ (c.loop-done.invariant.1 from s before)),
  c.go_on.ensures.due,
  c.go_on.ensures.later,
)

pub returns-in-Err-clause-carried : goal.returns-in-Err-clause-carried
returns-in-Err-clause-carried c =
    let n = c.loop-done.done in
    let k = c.in-Err.made in
    scanned (shown_so_far c.args.due.now c.args.self.now) (shown_so_far c.go_on.new.due c.go_on.new.self) _ (n + k) (Some Memory)
    (running ((goal.at.returns-in-Err-clause-carried c).After-mergeable))
    (some ((goal.at.returns-in-Err-clause-carried c).After-list_restless), omega (arith, c.in-Err.ensures.stopped.fewer))
    (λ from s before. rw (beside_on n k (n + k) s refl) (c.in-Err.ensures.stopped.comes from _ (c.loop-done.invariant.1 from s before)))

pub returns-clause-carried : goal.returns-clause-carried
returns-clause-carried c =
    let all : c.loop-done.done ≡ c.args.count = omega (arith, c.loop-done.invariant.0) in
    scanned (shown_so_far c.args.due.now c.args.self.now) (shown_so_far c.loop-done.due c.loop-done.self) _ _ None (running ((goal.at.returns-clause-carried c).After-mergeable))
    (rw (some ((goal.at.returns-clause-carried c).After-list_restless)) refl) (rw (← all) c.loop-done.invariant.1)
