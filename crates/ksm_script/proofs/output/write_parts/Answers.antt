use Rattle.ksm_script.proofs.Names.{Appends, arith, refl, rules, subst, take_all}
use Rattle.ksm_script.proofs.Parts.{one_more, part_kept, part_of, text_broken}
use Rattle.ksm_script.proofs.output.write_parts.Goals as goal

pub returns-in_err-count : goal.returns-in_err-count
returns-in_err-count g c =
    let told = c.in_err-count.ensures in
    text_broken g.W.Write.contents g.S.Sends.fails c.from_residual.result _ _ _ c.args.text.now c.from_residual.ensures.1 (told.0, told.1, part_kept _ _ _ c.args.text.now c.parts.at c.parts.invariant.1 told.2)

pub returns-then-count-eq0 : goal.returns-then-count-eq0
returns-then-count-eq0 g c =
    (tt, (refl, c.in_ok-count.ensures.1 (search rules) (search rules), part_of _ _ c.args.text.now _ (one_more _ _ _ _ _ _ c.parts.invariant.1 c.in_ok-count.ensures.2)))

pub parts-preserved : goal.parts-preserved
parts-preserved g c = (search rules, one_more _ _ _ _ _ _ c.parts.invariant.1 c.in_ok-count.ensures.2)

pub parts-smaller : goal.parts-smaller
parts-smaller g c = search rules

pub returns : goal.returns
returns g c = (subst (Appends _ _) (take_all c.parts.at c.args.text.now (omega (arith, c.parts.invariant.0))) c.parts.invariant.1, tt)
