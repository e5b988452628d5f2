use Rattle.ksm_lines.proofs.Names.{codes, refl}
use Rattle.ksm_lines.proofs.Names.parts
use Rattle.ksm_lines.proofs.Parted.{guest_last, guest_more, line, number_last, number_more, page_last}
use Rattle.ksm_lines.proofs.leading.line_of_place.Goals as goal

pub returns-then-front-first_four : goal.returns-then-front-first_four
returns-then-front-first_four c = line (codes "mergeable") refl refl c.in_ok-behind_name.ensures (guest_last c.in_ok-guest.guest c.in_ok-guest.ensures.text c.in_ok-guest.ensures.fits)

pub returns-then-front-first_four-2 : goal.returns-then-front-first_four-2
returns-then-front-first_four-2 c = line (codes "unmerge") refl refl c.in_ok-behind_name-2.ensures (guest_last c.in_ok-guest-2.guest c.in_ok-guest-2.ensures.text c.in_ok-guest-2.ensures.fits)

pub returns-then-front-first_four-3 : goal.returns-then-front-first_four-3
returns-then-front-first_four-3 c = line (codes "drop") refl refl c.in_ok-behind_name-3.ensures (page_last c.in_ok-page.page c.in_ok-page.ensures.text c.in_ok-page.ensures.fits)

pub returns-then-front-first_four-4 : goal.returns-then-front-first_four-4
returns-then-front-first_four-4 c =
    let place = c.in_ok-place in
    line (codes "rmap") refl refl c.in_ok-behind_name-4.ensures (number_last parts.Place place.place place.ensures.text place.ensures.fits (place.ensures.fits, refl))

pub returns-in-Some : goal.returns-in-Some
returns-in-Some c =
    let place = c.in_ok-place-2 in
    let node = c.in_ok-node in
    line (codes "movedup") refl refl c.in-Some.ensures
    (number_more parts.Place place.place place.ensures.text place.ensures.fits (place.ensures.fits, refl)
    (number_last parts.Node node.node node.ensures.text node.ensures.fits (node.ensures.fits, refl)))

pub returns : goal.returns
returns c =
    let page = c.in_ok-page-2 in
    let node = c.in_ok-node-2 in
    line (codes "move") refl refl c.in_ok-behind_name-5.ensures
    (guest_more page.page.guest page.ensures.text page.ensures.fits.0
    (number_more parts.Page page.page.page refl page.ensures.fits.1 (page.ensures.fits.1, refl)
    (number_last parts.Node node.node node.ensures.text node.ensures.fits (node.ensures.fits, refl))))
