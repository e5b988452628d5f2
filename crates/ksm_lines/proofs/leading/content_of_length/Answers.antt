use Rattle.std.proofs.Common.{arith, take}
use Rattle.ksm_lines.proofs.Front.{parted_at}
use Rattle.ksm_lines.proofs.leading.content_of_length.Goals as goal

pub returns-in-Ok : goal.returns-in-Ok
returns-in-Ok c =
    let text = c.args.text.now in
    let digits = c.args.digits in
    (take digits text, c.in-Ok.ensures, parted_at text digits 10 (omega (arith, c.if-digits-text.false)) c.if-text-digits-ne10.false)
