use Rattle.ksm_script.proofs.Names.{ap, arith, decimal, drop, length, length-append, length-decimal-le, length-drop, ℕ, ◌<◌, ◌^◌, ◌≤◌}
use Rattle.ksm_script.proofs.line_text.LineText.put_number.Goals as goal

-- no number of 64 bits has more than twenty digits
short : (n : ℕ) → n < 2 ^ 64 → length (decimal n) ≤ 20
short n small = length-decimal-le 20 n (omega arith) (omega arith) small

pub write_digits-self-inside-requires : goal.write_digits-self-inside-requires
write_digits-self-inside-requires g c =
    let inside = c.self.invariant in
    let room = length-drop c.self.inside.start c.self.inside.bytes in (
      omega (arith, short c.args.number c.ranges.number.fits, ap length c.self.view_is, room, inside, c.self.told, c.requires),
      omega (arith, inside, c.self.told),
    )

pub returns-clause-room : goal.returns-clause-room
returns-clause-room g c =
    let text = drop c.self.inside.start c.self.inside.bytes in
    omega (
      arith,
      short c.args.number c.ranges.number.fits,
      ap length c.self.view_is,
      ap length c.write_digits-self-inside.ensures.written,
      length-append (decimal c.args.number) text,
    )
