use Rattle.ksm_lines.proofs.Names.{codes, refl}
use Rattle.ksm_lines.proofs.Names.parts
use Rattle.ksm_lines.proofs.Parted.{content_last, guest_more, line, number_more}
use Rattle.ksm_lines.proofs.leading.store.Goals as goal

pub returns : goal.returns
returns c =
    let page = c.in_ok-page in
    line (codes "put") refl refl c.in_ok-left.ensures
    (guest_more page.page.guest page.ensures.text page.ensures.fits.0
    (number_more parts.Page page.page.page refl page.ensures.fits.1 (page.ensures.fits.1, refl) (content_last c.in_ok-bytes.ensures)))
