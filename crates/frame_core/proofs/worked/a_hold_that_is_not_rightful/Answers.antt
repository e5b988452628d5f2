use Rattle.std.proofs.Common.{◌≡◌, ℕ, Bool, true, false, [], Option, Some, refl, ap, arith}
use Rattle.std.proofs.lemmas.Option.{same_Some}
use Rattle.std.proofs.lemmas.List.Elements.{All-cons, All-nil, All-head}
use Rattle.frame_core.proofs.Names.{PLACE_SPAN, Reader, LoadWord, named_word, and_then}
use Rattle.frame_core.proofs.worked.a_hold_that_is_not_rightful.Goals as goal

abbrev Named : ℕ → ℕ × ℕ → Type 0
Named word r = named_word 0 1 r.0 (and_then (Reader 0 (LoadWord 1)) word) ≡ Some r.1

pub returns-clause-rightful : goal.returns-clause-rightful
returns-clause-rightful c = record { named = refl; frame = omega arith; same_life = refl; not_given = refl; words = All-cons (Named 8) (1, 8) [] refl (All-nil (Named 8)) }

pub returns-clause-another_place : goal.returns-clause-another_place
returns-clause-another_place c = λ h. let place : ◌≡◌ {A = Option (ℕ × ℕ)} (Some (0, PLACE_SPAN)) (Some (1, PLACE_SPAN)) = h.named in
    let number : ◌≡◌ {A = ℕ} 0 1 = ap (λ (x : ℕ × ℕ). x.0) (same_Some (0, PLACE_SPAN) (1, PLACE_SPAN) place) in omega (arith, number)

pub returns-clause-frame_of_no_word : goal.returns-clause-frame_of_no_word
returns-clause-frame_of_no_word c = λ h. omega (arith, h.frame)

pub returns-clause-another_life : goal.returns-clause-another_life
returns-clause-another_life c = λ h. let life : ◌≡◌ {A = ℕ} 1 2 = h.same_life in omega (arith, life)

pub returns-clause-given_since : goal.returns-clause-given_since
returns-clause-given_since c = λ h. let given : ◌≡◌ {A = Bool} true false = h.not_given in cc (given)

pub returns-clause-another_word : goal.returns-clause-another_word
returns-clause-another_word c = λ h. let word : ◌≡◌ {A = Option ℕ} (Some 8) (Some 9) = All-head (Named 9) (1, 9) [] h.words in cc (word)
