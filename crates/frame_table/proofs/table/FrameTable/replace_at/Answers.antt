use Rattle.std.proofs.Common.{rules, ◌≡◌, ◌<◌, ◌%◌, ℕ, ap, subst, refl, arith}
use Rattle.frame_table.proofs.CoreNames.{IsShape, PLACE_SPAN, Replace}
use Rattle.frame_table.specs.Keeping.{Keeps}
use Rattle.frame_core.proofs.Above.{frames_at_most}
use Rattle.frame_table.proofs.KeeperCalls.{may_replace}
use Rattle.frame_table.proofs.table.FrameTable.replace_at.Goals as goal

-- the number of a frame has room in the word of a place
low : (c : goal.After-store) → c.args.frame < PLACE_SPAN
low c = let few = frames_at_most c.args.self.now.shape (subst IsShape (ap (λ n. n.shape) c.self.view_is) c.self.invariant.shape) in omega (arith, few, c.requires.asks.may.1)

pub store-requires : goal.store-requires
store-requires c =
    let few = frames_at_most c.args.self.now.shape (subst IsShape (ap (λ n. n.shape) c.self.view_is) c.self.invariant.shape) in (
      search rules,
      search rules,
      may_replace _ _ _ _ _ _ c.requires.asks.keeper (search rules) c.args.frame c.args.name (omega (arith, few, c.requires.asks.may.1))
          c.requires.name c.requires.asks.may,
    )

-- the name tells the frame in its lowest bits
pub returns-clause-step : goal.returns-clause-step
returns-clause-step c =
    let low : c.args.frame < PLACE_SPAN = low c in
    let same : c.args.name % PLACE_SPAN ≡ c.args.frame = omega (arith, low, c.requires.name) in
    subst (λ (f : ℕ). Keeps (Replace c.args.place f) c.args.seat.now.me 0 c.store.new.seat.me) same (c.store.ensures.2 c.args.place refl)
