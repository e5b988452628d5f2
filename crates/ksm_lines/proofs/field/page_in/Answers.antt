use Rattle.ksm_lines.proofs.Names.{and_parts, ap, ap₂, arith, byte_at, fill_by_all, fill_by_more, from_le_bytes, get_or, is_ascii_hexdigit, is_small, length-set, List, list_all, map, page_of}
use Rattle.ksm_lines.proofs.Names.{PAGE_WORDS, pair_in, range_with_len, refl, set, Some, subst, sym, take_all, true, w64, word_at, ℕ, ◌&&◌, ◌*◌, ◌+◌, ◌<◌, ◌∙◌, ◌≡◌}
use Rattle.ksm_lines.proofs.Lanes.{one_more, other_way, word_is}
use Rattle.ksm_lines.proofs.field.page_in.Goals as goal

pub loop-i-preserved : goal.loop-i-preserved
loop-i-preserved c =
    let digits = c.args.digits.now in
    let i = c.loop-i.i in
    let page = c.loop-i.page in
    let before = c.loop-i.invariant in
    let values = c.digit_values-values.ensures in
    let parted = one_more digits i in (
      length-set page i c.word_of.result ∙ before.0,
      c.larger-most.ensures ∙ ap₂ (λ a b. a && b) before.1 values.0 ∙ sym parted,
      λ all.
          let both = and_parts _ _ (sym parted ∙ all) in
          let is = c.word_of.ensures (values.0 ∙ both.1) ∙ ap (λ (v : List ℕ). from_le_bytes w64 (map (pair_in v) (range_with_len 0 8))) (values.1 both.1)
          ∙ ap (from_le_bytes w64) (word_is digits i (omega (arith, c.requires, c.loop-i-test.true))) in
          let more = fill_by_more (word_at (byte_at digits)) page i 0 (omega (arith, c.loop-i-test.true, before.0)) (before.2 both.0) in
          subst (λ (w : ℕ). (k : ℕ) → k < i + 1 → get_or (set page i w) k 0 ≡ word_at (byte_at digits) k) (sym is) more,
    )

pub returns-then-has_other : goal.returns-then-has_other
returns-then-has_other c =
    let digits = c.args.digits.now in
    let whole = take_all (16 * c.loop-i.i) digits (omega (arith, c.requires, c.loop-i-test.false)) in
    let other = ap (list_all is_ascii_hexdigit) (sym whole) ∙ sym c.loop-i.invariant.1 ∙ other_way _ (list_all is_small c.loop-i.most) c.if-has_other.ensures in
    rw other refl

pub returns : goal.returns
returns c =
    let digits = c.args.digits.now in
    let whole = take_all (16 * c.loop-i.i) digits (omega (arith, c.requires, c.loop-i-test.false)) in
    let read = sym c.loop-i.invariant.1 ∙ other_way _ (list_all is_small c.loop-i.most) c.if-has_other.ensures in
    let all : list_all is_ascii_hexdigit digits ≡ true = ap (list_all is_ascii_hexdigit) (sym whole) ∙ read in
    let page : page_of (byte_at digits) ≡ c.loop-i.page =
    sym (fill_by_all (word_at (byte_at digits)) c.loop-i.page PAGE_WORDS 0 c.loop-i.invariant.0 (λ k lt. c.loop-i.invariant.2 read k (omega (arith, lt, c.loop-i-test.false)))) in
    rw all (ap (λ (p : List ℕ). Some p) page)
