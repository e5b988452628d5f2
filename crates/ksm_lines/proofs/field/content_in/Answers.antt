-- By its tests alone: a search would compute the page's words.
use Rattle.ksm_lines.proofs.Names.{arith, Bool, cond, false, length, ne_eqb, None, Option, PAGE_WORDS, refl, true, ◌*◌, ◌≡◌}
use Rattle.ksm_lines.proofs.field.content_in.Goals as goal

none_of_three : {A : Type 0} (a b c : Bool) (x y : Option A) → b ≡ false → c ≡ false → cond a None (cond b x (cond c y None)) ≡ None
none_of_three true b c x y p q = refl
none_of_three false b c x y p q = rw (p, q) refl

pub returns-then-word-ne2 : goal.returns-then-word-ne2
returns-then-word-ne2 c =
    let digits = length c.args.word.now in
    none_of_three _ _ _ _ _ (ne_eqb digits 2 (λ e. omega arith)) (ne_eqb digits (16 * PAGE_WORDS) (λ e. omega arith))
