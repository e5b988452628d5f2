-- The worked lines hold.
use Rattle.ksm_lines.proofs.Names.{[], BadLines, codes, IsNoLine, Line, line_at, List, None, Option, refl, sym, words_of, ℕ, ◌∙◌, ◌≡◌}
use Rattle.ksm_lines.specs.declared.line.Line.TheVariants as lines
use Rattle.ksm_lines.specs.declared.line.RareLine.TheVariants as rares
use Rattle.ksm_lines.specs.declared.line.ShortLine.TheVariants as shorts
use Rattle.ksm_lines.proofs.Lines.{line_again, line_takes}

-- what is not read as a line is written by none
none_writes : (bytes : List ℕ) → (let none : Option Line = None in line_at (words_of bytes) ≡ none) → IsNoLine bytes
none_writes bytes e form written = cc (sym e ∙ line_again form (words_of bytes) written)

-- the bad lines of the worked list are no lines, and the good ones are
pub bad_lines : BadLines
bad_lines = record {
  capitals = none_writes (codes "STAT") refl;
  no_word = none_writes (codes " ") refl;
  leading_zero = none_writes (codes "get 00 0") refl;
  large_guest = none_writes (codes "get 65536 0") refl;
  odd_digits = none_writes (codes "put 0 0 b") refl;
  no_place = none_writes (codes "find 0") refl;
  one_more = none_writes (codes "audit 0") refl;
  empty = λ no_line. no_line lines.Empty (line_takes lines.Empty (words_of []) refl);
  stat = λ no_line. no_line (lines.Short shorts.Stat) (line_takes (lines.Short shorts.Stat) (words_of (codes "stat")) refl);
  find = λ no_line. no_line (lines.Short (shorts.Find 0 0)) (line_takes (lines.Short (shorts.Find 0 0)) (words_of (codes "find 0 0")) refl);
  audit = λ no_line. no_line (lines.Rare rares.Audit) (line_takes (lines.Rare rares.Audit) (words_of (codes "audit")) refl);
}
