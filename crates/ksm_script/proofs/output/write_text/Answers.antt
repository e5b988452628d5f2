use Rattle.ksm_script.proofs.Names.{Appends, Appends-nil, arith, refl, rules, subst, take_all}
use Rattle.ksm_script.proofs.Parts.{part_kept, part_of, text_behind, text_broken}
use Rattle.ksm_script.proofs.output.write_text.Goals as goal

pub returns-in_err-count : goal.returns-in_err-count
returns-in_err-count g c =
    let told = c.in_err-count.ensures in
    text_broken g.W.Write.contents g.S.Sends.fails c.from_residual.result _ _ _ c.args.text.now c.from_residual.ensures.1 (told.0, told.1, part_kept _ _ _ c.args.text.now 0 (Appends-nil _) told.2)

pub returns-then-count-text : goal.returns-then-count-text
returns-then-count-text g c = (subst (Appends _ _) (take_all c.in_ok-count.count c.args.text.now (omega (arith, c.if-count-text.true))) c.in_ok-count.ensures.2, tt)

pub returns-then-count-eq0 : goal.returns-then-count-eq0
returns-then-count-eq0 g c = (tt, (refl, c.in_ok-count.ensures.1 (search rules) (search rules), part_of _ _ c.args.text.now c.in_ok-count.count c.in_ok-count.ensures.2))

pub returns : goal.returns
returns g c = text_behind g.W.Write.contents g.S.Sends.fails c.write_parts.result _ _ _ c.args.text.now c.in_ok-count.count c.in_ok-count.ensures.2 c.write_parts.ensures
