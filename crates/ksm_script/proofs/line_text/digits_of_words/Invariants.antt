use Rattle.ksm_script.proofs.Names.{length, map, PAGE_WORDS, take, word_digits, ◌≡◌}
use Rattle.ksm_script.proofs.line_text.digits_of_words.Given as goal

-- the first words have their digits
abbrev pub invariant-loop-i : goal.invariant-loop-i
invariant-loop-i l = (length l.digits ≡ PAGE_WORDS) × (take l.i l.digits ≡ map word_digits (take l.i l.content))
