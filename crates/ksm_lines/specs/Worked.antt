-- Worked lines, by which the grammar is tried (own).
use Rattle.std.specs.Prelude.{[], codes}
use Rattle.ksm_lines.specs.Grammar.{IsNoLine}

-- Bytes that are no line, and bytes that are one
pub record BadLines : Type 0 where
  pub capitals : IsNoLine (codes "STAT")
  pub no_word : IsNoLine (codes " ")
  pub leading_zero : IsNoLine (codes "get 00 0")
  pub large_guest : IsNoLine (codes "get 65536 0")
  pub odd_digits : IsNoLine (codes "put 0 0 b")
  pub no_place : IsNoLine (codes "find 0")
  pub one_more : IsNoLine (codes "audit 0")
  pub empty : ¬ (IsNoLine [])
  pub stat : ¬ (IsNoLine (codes "stat"))
  pub find : ¬ (IsNoLine (codes "find 0 0"))
  pub audit : ¬ (IsNoLine (codes "audit"))
