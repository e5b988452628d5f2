use Rattle.ksm_lines.proofs.Names.{codes, refl}
use Rattle.ksm_lines.proofs.Names.parts
use Rattle.ksm_lines.specs.declared.line.Line.TheVariants.{Rare}
use Rattle.ksm_lines.specs.declared.line.RareLine.TheVariants.{Audit, Prune, ScanPages}
use Rattle.ksm_lines.proofs.Parted.{bare, knob_more, line, number_last}
use Rattle.ksm_lines.proofs.leading.leading_rare_line.Goals as goal

pub returns-then-front-first_four : goal.returns-then-front-first_four
returns-then-front-first_four c =
    let value = c.in_ok-value in
    line (codes "set") refl refl c.in_ok-behind_name.ensures
    (knob_more c.in_ok-knob.ensures.some c.in_ok-behind.ensures.some (number_last parts.Value value.value value.ensures.text value.ensures.fits (value.ensures.fits, refl)))

pub returns-then-front-first_four-2 : goal.returns-then-front-first_four-2
returns-then-front-first_four-2 c = bare (codes "prune") (Rare Prune) refl refl c.in_ok-left.ensures

pub returns-then-front-first_four-3 : goal.returns-then-front-first_four-3
returns-then-front-first_four-3 c = bare (codes "scan") (Rare ScanPages) refl refl c.in_ok-left-2.ensures

pub returns-then-front-first_four-4 : goal.returns-then-front-first_four-4
returns-then-front-first_four-4 c = bare (codes "audit") (Rare Audit) refl refl c.in_ok-left-3.ensures
