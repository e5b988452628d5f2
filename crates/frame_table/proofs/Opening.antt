-- The words and the views of a table that was just opened.
use Rattle.std.proofs.Common.{◌≡◌, ℕ, zero, suc, ◌+◌, ◌*◌, List, [], ◌∷◌, ◌++◌, map, replicate, None, sym, refl, ap, ◌∙◌, subst, arith}
use Rattle.std.proofs.lemmas.List.{replicate-append-replicate}
use Rattle.std.proofs.Math.Nat.{suc-mul}
use Rattle.std.specs.List.{flat_map}
use mathlib.Core.Option.{some, some-injective, some-ne-none}
use lib.ListN.{get_elem?}
use Rattle.atomic_table.specs.Table as table
use Rattle.frame_table.proofs.CoreNames.{PAGE_WORDS, LINE_WORDS, Shape, IsShape, frames_of, Phase, Idle, Spent as spent_phase, blank, place_word, first_state, frame_words, words_of, words_for}
use Rattle.frame_table.proofs.CoreNames.{line_of, page_of, first_history}
use Rattle.frame_table.proofs.Names.{View, Reader, phase_of, tally_of, Holds, Tied, IsInOrder, all_views, first_view}

-- so many blocks of zeros are zeros
flat_zeros : {A : Type 0} (g : A → List ℕ) (w n : ℕ) (a : A) → g a ≡ replicate w 0 → flat_map g (replicate n a) ≡ replicate (n * w) 0
flat_zeros g w zero a zeros = let e : 0 ≡ zero * w = omega arith in ap (λ (k : ℕ). replicate k 0) e
flat_zeros g w (suc n) a zeros =
    let e : w + n * w ≡ suc n * w = omega (arith, suc-mul n w) in
    (λ i. zeros i ++ flat_zeros g w n a zeros i) ∙ (replicate-append-replicate w (n * w) 0 ∙ ap (λ (k : ℕ). replicate k 0) e)

-- a map of n copies is n copies of what the map makes of one
pub map_replicate : {A B : Type 0} (f : A → B) (n : ℕ) (a : A) → map f (replicate n a) ≡ replicate n (f a)
map_replicate f zero a = refl
map_replicate f (suc n) a = ap (λ (xs : List _). f a ∷ xs) (map_replicate f n a)

new_words : (n : ℕ) → frame_words (replicate n blank) (replicate n 0) ≡ replicate n 0
new_words zero = refl
new_words (suc n) = ap (λ (ws : List ℕ). 0 ∷ ws) (new_words n)

-- all words of the first state are 0
opening_words : (sh : Shape) → words_of (first_state sh) ≡ replicate (words_for (frames_of sh)) 0
opening_words sh =
    let n : ℕ = frames_of sh in
    let pages : ℕ = n * PAGE_WORDS in
    let lines : ℕ = n * LINE_WORDS in
    (λ i. map_replicate place_word n None i ++ ((ap (flat_map line_of) (new_words n) ∙ flat_zeros line_of LINE_WORDS n 0 refl) i ++ (replicate LINE_WORDS 0 ++ flat_zeros page_of PAGE_WORDS n blank refl i)))
    ∙ (ap (λ (ws : List ℕ). replicate n 0 ++ (replicate lines 0 ++ ws)) (replicate-append-replicate LINE_WORDS pages 0)
    ∙ (ap (λ (ws : List ℕ). replicate n 0 ++ ws) (replicate-append-replicate lines (LINE_WORDS + pages) 0)
    ∙ replicate-append-replicate n (lines + (LINE_WORDS + pages)) 0))

-- a copy is what was copied
pub copied : (n i : ℕ) (a v : View) → get_elem? (replicate n a) i ≡ some v → a ≡ v
copied zero i a v at = absurd (some-ne-none v (sym at))
copied (suc n) zero a v at = some-injective a v at
copied (suc n) (suc i) a v at = copied n i a v at

first_tied : (sh : Shape) (j : ℕ) (v : View) → get_elem? (all_views sh (tally_of sh.passes 0) (first_view sh ∷ [])) j ≡ some v
    → Tied sh (first_history sh) (tally_of sh.passes 0) j v
first_tied sh zero v at = subst (Tied sh (first_history sh) (tally_of sh.passes 0) 0) (some-injective (first_view sh) v at) (refl, refl, refl, refl)
first_tied sh (suc j) v at = subst (Tied sh (first_history sh) (tally_of sh.passes 0) (suc j))
    (copied sh.passes j (Reader sh Idle [] []) v at) (refl, refl)

first_order : (sh : Shape) (j : ℕ) (v : View) → get_elem? (first_view sh ∷ []) j ≡ some v → IsInOrder sh [] j v
first_order sh zero v at = subst (IsInOrder sh [] 0) (some-injective (first_view sh) v at) (([], refl), refl)
first_order sh (suc j) v at = absurd (some-ne-none v (sym at))

-- a table whose words are all 0, with the keeper alone, is in the opening state of the core
pub may_begin : (sh : Shape) → IsShape sh → Holds sh (table.opening (replicate (words_for (frames_of sh)) 0) [] (first_view sh))
may_begin sh fits = record {
  shape = fits;
  events = [];
  tally = tally_of sh.passes 0;
  after = record {
    words_are = sym (opening_words sh);
    phases_are =
        ap (λ (l : List Phase). spent_phase ∷ l) (map_replicate phase_of sh.passes (Reader sh Idle [] []));
    tied = first_tied sh;
  };
  out = refl;
  orders = first_order sh;
  longest = (0, first_view sh, refl, refl);
}
