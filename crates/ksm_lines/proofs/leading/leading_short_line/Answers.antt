use Rattle.ksm_lines.proofs.Names.{codes, refl, Some}
use Rattle.ksm_lines.proofs.Names.parts
use Rattle.ksm_lines.specs.declared.line.Line.TheVariants.{Short}
use Rattle.ksm_lines.specs.declared.line.ShortLine.TheVariants.{Stat}
use Rattle.ksm_lines.proofs.Parted.{bare, line, number_last, number_more, page_last, shown_last}
use Rattle.ksm_lines.proofs.leading.leading_short_line.Goals as goal

pub returns-then-front-first_four : goal.returns-then-front-first_four
returns-then-front-first_four c = line (codes "get") refl refl c.in_ok-behind_name.ensures (page_last c.in_ok-page.page c.in_ok-page.ensures.text c.in_ok-page.ensures.fits)

pub returns-then-front-first_four-2 : goal.returns-then-front-first_four-2
returns-then-front-first_four-2 c = line (codes "ticket") refl refl c.in_ok-behind_name-2.ensures (page_last c.in_ok-page-2.page c.in_ok-page-2.ensures.text c.in_ok-page-2.ensures.fits)

pub returns-then-front-first_four-3 : goal.returns-then-front-first_four-3
returns-then-front-first_four-3 c =
    let pass = c.in_ok-pass in
    let place = c.in_ok-place in
    line (codes "find") refl refl c.in_ok-behind_name-3.ensures
    (number_more parts.Pass pass.pass pass.ensures.text pass.ensures.fits (pass.ensures.fits, refl)
    (number_last parts.Place place.place place.ensures.text place.ensures.fits (place.ensures.fits, refl)))

pub returns-then-front-first_four-4 : goal.returns-then-front-first_four-4
returns-then-front-first_four-4 c =
    let pass = c.in_ok-pass-2 in
    line (codes "look") refl refl c.in_ok-behind_name-4.ensures (number_last parts.Pass pass.pass pass.ensures.text pass.ensures.fits (pass.ensures.fits, refl))

pub returns-then-front-first_four-5 : goal.returns-then-front-first_four-5
returns-then-front-first_four-5 c =
    let pass = c.in_ok-pass-3 in
    line (codes "leave") refl refl c.in_ok-behind_name-5.ensures (number_last parts.Pass pass.pass pass.ensures.text pass.ensures.fits (pass.ensures.fits, refl))

pub returns-then-front-first_four-6 : goal.returns-then-front-first_four-6
returns-then-front-first_four-6 c =
    let n = c.in_ok-visits in
    line (codes "scan") refl refl c.in_ok-behind_name-6.ensures (number_last parts.Visits (Some n.visits) n.ensures.text n.ensures.fits (n.visits, refl, n.ensures.fits, refl))

pub returns-then-front-first_four-7 : goal.returns-then-front-first_four-7
returns-then-front-first_four-7 c = bare (codes "stat") (Short Stat) refl refl c.in_ok-left.ensures

pub returns-then-front-first_four-8 : goal.returns-then-front-first_four-8
returns-then-front-first_four-8 c = line (codes "show") refl refl c.in_ok-behind_name-7.ensures (shown_last c.in_ok-shown.ensures.some c.in_ok-left-2.ensures.some)
