use Rattle.ksm_lines.proofs.Names.{byte_at, get_or, is_ascii_hexdigit, is_small, length, list_all, PAGE_WORDS, take, true, word_at, ℕ, ◌*◌, ◌<◌, ◌≡◌}
use Rattle.ksm_lines.proofs.field.page_in.Given as goal

-- the first words are there, where their bytes are digits; and that they are is told by the largest values
abbrev pub invariant-loop-i : goal.invariant-loop-i
invariant-loop-i l =
    (length l.page ≡ PAGE_WORDS) × (list_all is_small l.most ≡ list_all is_ascii_hexdigit (take (16 * l.i) l.digits))
    × (list_all is_ascii_hexdigit (take (16 * l.i) l.digits) ≡ true → (k : ℕ) → k < l.i → get_or l.page k 0 ≡ word_at (byte_at l.digits) k)
