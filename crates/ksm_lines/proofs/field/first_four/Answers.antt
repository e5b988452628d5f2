use Rattle.ksm_lines.proofs.Names.{arith, cases_lt, from_le_bytes, get_or, get_or-take, get_or_past, inl, inr, le_bytes_4, length-take-le, rules, subst, sym, take, w32, ℕ, ◌<◌, ◌≡◌}
use Rattle.ksm_lines.proofs.field.first_four.Goals as goal

pub returns : goal.returns
returns c =
    let text = c.args.text.now in
    let read : c.from_le_bytes.result ≡ from_le_bytes w32 (take 4 text) = search rules in
    le_bytes_4 (take 4 text) c.from_le_bytes.result (length-take-le 4 text c.requires) byte read
  where
    byte : (i : ℕ) → get_or (take 4 c.args.text.now) i 0 < 256
    byte i =
        elim (cases_lt i 4) [
          | inl lt ↦ subst (λ b. b < 256) (sym (get_or-take 4 c.args.text.now i 0 lt)) (c.type_inv.text i).fits
          | inr le ↦ subst (λ b. b < 256) (sym (get_or_past (take 4 c.args.text.now) i 0 (omega (arith, length-take-le 4 c.args.text.now c.requires)))) (omega arith)
        ]
