use Rattle.ksm_pages.proofs.Names.{arith, get, held_under, length-map, rows_of}
use Rattle.ksm_pages.proofs.Filing.{all_held}
use Rattle.ksm_pages.proofs.Writing.{all_shared}
use Rattle.ksm_pages.proofs.rows.Rows.count_alone.Goals as goal

pub returns : goal.returns
returns c = rw (← c.self.view_is) (λ none.
    let s = c.self.inside in
    let counted = c.self.invariant.0.counted in
    all_shared (rows_of (all_held s)) (omega (
      arith,
      none,
      counted.merged,
      counted.zero,
      c.len.ensures,
      c.saturating_sub.ensures,
      c.saturating_sub-2.ensures,
      length-map (all_held s) (λ h. h.row),
      length-map s.order (λ n. held_under s.pass (get s.entries n.key)),
    )))
