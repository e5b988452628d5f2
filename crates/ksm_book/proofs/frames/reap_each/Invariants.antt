use Rattle.ksm_book.proofs.Names.{dying_from, frame_at, KeeperView, MakesSteps, map, Reap, ℕ, ◌-◌, ◌≡◌, ◌≤◌}
use Rattle.ksm_book.proofs.frames.reap_each.Given as goal

abbrev pub invariant-dying : goal.invariant-dying
invariant-dying l =
    let reaps = λ (from : ℕ). map Reap (dying_from l.fn.keeper.ledger from (l.end - from)) in
    record {
      own : l.keeper.table ≡ l.fn.keeper.table;
      high : l.from ≤ l.end;
      made : (w : KeeperView) → MakesSteps l.keeper w (reaps l.from) → MakesSteps l.fn.keeper w (reaps l.first);
      later : (f : ℕ) → l.from ≤ f → frame_at l.keeper.ledger f ≡ frame_at l.fn.keeper.ledger f;
    }

abbrev pub decreases-dying : goal.decreases-dying
decreases-dying l = l.end - l.from
