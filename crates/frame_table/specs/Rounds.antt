-- One round of a lookup (own).
use Rattle.std.specs.Prelude.{◌≡◌, ◌+◌, nat_le, cond, [], ◌∷◌, ◌++◌}
use Rattle.frame_table.specs.Terms.{Idle, Placed, Held, LoadFrame, Exchange}
use Rattle.frame_core.specs.State.{count_in, life_in}
use Rattle.frame_table.specs.declared.view.View.{View}
use Rattle.frame_table.specs.declared.view.View.TheVariants.{Reader}
use Rattle.frame_table.specs.declared.pass.Round.{Round}
use Rattle.frame_table.specs.declared.pass.Round.TheVariants.{Zero, Old, Lost, Won}
use Rattle.frame_table.specs.Lookup.{IsAlive}
use Rattle.frame_core.specs.Seat.{nothing_known}
use Rattle.frame_table.specs.Views.{Sat, sits, order_in}

-- the seat after one load of the frame word, and an exchange where that was of the life named and had a reference
abbrev pub GoesRound : View → Round → Sat → Type 0
GoesRound (Reader sh (Placed aim t) log order) (Zero w) m = (count_in w ≡ 0) × (m ≡ sits sh Idle (log ++ (LoadFrame, w) ∷ []) (order_in m))
GoesRound (Reader sh (Placed aim t) log order) (Old w) m = ¬ (count_in w ≡ 0) × ¬ (life_in w ≡ aim.life.generation) × (m ≡ sits sh Idle (log ++ (LoadFrame, w) ∷ []) (order_in m))
GoesRound (Reader sh (Placed aim t) log order) (Lost w d) m =
    IsAlive aim.life.generation w × ¬ (d ≡ w)
    × (m ≡ sits sh (cond (nat_le sh.tries (t + 1)) Idle (Placed aim (t + 1))) (log ++ (LoadFrame, w) ∷ (Exchange, d) ∷ []) (order_in m))
GoesRound (Reader sh (Placed aim t) log order) (Won w) m =
    IsAlive aim.life.generation w × (m ≡ sits sh (Held aim nothing_known) (log ++ (LoadFrame, w) ∷ (Exchange, w) ∷ []) (order_in m))
GoesRound _ _ m = ⊥
