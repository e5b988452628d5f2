use Rattle.ksm_lines.proofs.Names.{codes, refl}
use Rattle.ksm_lines.proofs.Names.parts
use Rattle.ksm_lines.proofs.Parted.{content_last, line, number_more}
use Rattle.ksm_lines.proofs.leading.equal.Goals as goal

pub returns : goal.returns
returns c =
    let pass = c.in_ok-pass in
    let place = c.in_ok-place in
    line (codes "equal") refl refl c.in_ok-left.ensures
    (number_more parts.Pass pass.pass pass.ensures.text pass.ensures.fits (pass.ensures.fits, refl)
    (number_more parts.Place place.place place.ensures.text place.ensures.fits (place.ensures.fits, refl) (content_last c.in_ok-bytes.ensures)))
