use Rattle.ksm_pages.proofs.Names.{ap, arith, is_some, sym}
use Rattle.ksm_pages.proofs.Spots.{all_passed, fewer_behind, next_stands, one_added, one_passed}
use Rattle.ksm_pages.proofs.rows.gather.Goals as goal
use Rattle.ksm_pages.proofs.rows.gather.Goals.{else-is_restless, then-is_restless}

pub index-requires : goal.index-requires
index-requires c = ap is_some (next_stands c.args.entries.now _ c.requires.ascending c.requires.filed _ (sym c.in-Some.ensures)).stands

pub loop-named-smaller : goal.loop-named-smaller
loop-named-smaller c = fewer_behind c.args.entries.now _ c.requires.ascending c.requires.filed _ (sym c.in-Some.ensures)

pub loop-named-preserved : goal.loop-named-preserved
loop-named-preserved c =
    let slab = c.args.entries.now in
    elim c.if-is_restless.branch [
      | then-is_restless w ↦
          one_added slab _ c.requires.ascending c.requires.filed _ (sym c.in-Some.ensures) c.loop-named.restless c.if-is_restless.restless
          c.loop-named.invariant
          (rw w.restless-is w.add.ensures)
      | else-is_restless w ↦
          one_passed slab _ c.requires.ascending c.requires.filed _ (sym c.in-Some.ensures) c.loop-named.restless c.if-is_restless.restless
          c.loop-named.invariant
          c.index.ensures (grind arith) w.restless-is
    ]

pub returns : goal.returns
returns c known =
    all_passed c.args.entries.now _ c.requires.ascending c.requires.filed _ (sym c.in_default.ensures) c.loop-named.restless c.loop-named.invariant known
