-- The pages merged into a dup are told one after another.
use Rattle.std.proofs.Common.{◌≡◌, ℕ, ◌+◌, ◌<◌, List, [], ◌∷◌, ◌++◌, length, get_or, set, take, drop, map, sym, ap, arith, drop-set-lt, ◌∙◌}
use Rattle.std.proofs.lemmas.List.{take_more_set, map_more}
use Rattle.std.proofs.lemmas.Grind.{drop_more_same}
use Rattle.ksm_base.specs.declared.page.GuestPage.{GuestPage}
use Rattle.ksm_ffi.specs.Books.{packed}

-- where numbers tell the first i pages, the next page's number at i makes them tell the first i + 1 pages
pub one_more_told : (ns : List ℕ) (ps : List GuestPage) (i x : ℕ) (p : GuestPage) → i < length ns → i < length ps → x ≡ packed p → p ≡ get_or ps i p → take i ns ≡ map packed (take i ps) → take (i + 1) (set ns i x) ≡ map packed (take (i + 1) ps)
one_more_told ns ps i x p a b is at told = take_more_set ns i x a ∙ (ap (λ (l : List ℕ). l ++ x ∷ []) told ∙ (ap (λ (y : ℕ). map packed (take i ps) ++ y ∷ []) (is ∙ ap packed at) ∙ sym (map_more packed ps i p b)))

-- lists that are equal from i on are equal from i + 1 on once one of them is written at i
pub stay_behind : (ns ms : List ℕ) (i x : ℕ) → drop i ns ≡ drop i ms → drop (i + 1) (set ns i x) ≡ drop (i + 1) ms
stay_behind ns ms i x same = drop-set-lt (i + 1) ns i x (omega arith) ∙ drop_more_same ns ms i same
