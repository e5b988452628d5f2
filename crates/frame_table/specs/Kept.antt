-- What a call of the keeper does to its view.
use Rattle.std.specs.Prelude.{◌≡◌, ℕ, [], ◌∷◌, ◌++◌}
use Rattle.frame_core.specs.declared.event.KeeperStep.{KeeperStep}
use Rattle.frame_core.specs.Ledger.{MayStep, ledger_after}
use Rattle.frame_table.specs.Named.{KeeperView}

-- the keeper may make the step
abbrev pub May : KeeperView → KeeperStep → Type 0
May v e = MayStep v.table.shape v.ledger e

-- the view after the step, which found this word
abbrev pub did : KeeperView → KeeperStep → ℕ → KeeperView
did v e found = record { table = v.table; ledger = ledger_after v.table.shape v.ledger e found; log = v.log ++ (e, found) ∷ [] }

-- the step was made, and found some word
abbrev pub Did : KeeperView → KeeperStep → KeeperView → Type 0
Did v e w = (found : ℕ) × (w ≡ did v e found)
