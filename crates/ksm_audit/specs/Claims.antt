-- Places that workers claim, each once: what the claim word and the views of its seats have in common, and what a claim
-- tells (own).
use Rattle.std.specs.Prelude.{◌≡◌, ◌==◌, ℕ, ◌+◌, ◌-◌, ◌^◌, ◌<◌, ◌≤◌, max, if◌then◌else◌, List, [], ◌∷◌, ◌++◌, length, slice_index, ltb}
use mathlib.Core.Option.{some}
use lib.ListN.{get_elem?}
use Rattle.atomic_table.specs.Table.{State, Me, Step}
use Rattle.ksm_audit.specs.declared.claims.Deal.{Deal}
use Rattle.ksm_audit.specs.declared.claims.Hand.{Hand}

-- the sum over all seats
abbrev pub total : (Hand → ℕ) → List Hand → ℕ
total f [] = 0
total f (v ∷ vs) = f v + total f vs

-- how often x stands in a list
abbrev pub times : ℕ → List ℕ → ℕ
times x [] = 0
times x (y ∷ ys) = (if y == x then 1 else 0) + times x ys

-- 1 below n, else 0
abbrev pub once_below : ℕ → ℕ → ℕ
once_below x n = if ltb x n then 1 else 0

-- 1 from n on, else 0
abbrev pub once_from : ℕ → ℕ → ℕ
once_from x n = if ltb x n then 0 else 1

abbrev pub hand : Deal → ℕ → ℕ → ℕ → List ℕ → Hand
hand deal parts past next drawn = record { deal = deal; parts = parts; past = past; next = next; drawn = drawn }

-- the seat of the audit itself before any worker has one
abbrev pub first_hand : Deal → Hand
first_hand deal = hand deal (deal.workers + 1) 0 0 []

-- a worker's seat that has drawn nothing
abbrev pub worker_hand : Deal → Hand
worker_hand deal = hand deal 1 0 0 []

abbrev pub one_less : Hand → Hand
one_less v = hand v.deal (v.parts - 1) v.past v.next v.drawn

-- what two seats know together
abbrev pub both : Hand → Hand → Hand
both v w = hand v.deal (v.parts + w.parts) (v.past + w.past) (max v.next w.next) (v.drawn ++ w.drawn)

abbrev pub spent_hand : Hand
spent_hand = hand (record { places = 0; workers = 0 }) 0 0 0 []

-- what a seat knows once it has drawn one number more
abbrev pub drew : Hand → ℕ → Hand
drew v found = hand v.deal v.parts (v.past + once_from found v.deal.places) (found + 1) (v.drawn ++ found ∷ [])

-- A seat has drawn nothing from the word on, and of the numbers that are no places at most one for each of its parts
pub record Fits (deal : Deal) (word : ℕ) (v : Hand) : Type 0 where
  pub below : v.next ≤ word
  pub few : v.past ≤ v.parts
  pub empty : v.parts ≡ 0 → v.drawn ≡ []
  pub same : 0 < v.parts → v.deal ≡ deal

-- What was drawn are the numbers below the word, each once. The word does not wrap: it is past the places by as many as
-- were drawn in vain
pub record IsDealt (deal : Deal) (words : List ℕ) (views : List Hand) : Type 0 where
  pub size : length words ≡ 1
  pub small : deal.places + (deal.workers + 1) < 2 ^ 64
  pub parts : total (λ v. v.parts) views ≡ deal.workers + 1
  pub past : slice_index words 0 ≤ deal.places + total (λ v. v.past) views
  pub each : (x : ℕ) → total (λ v. times x v.drawn) views ≡ once_below x (slice_index words 0)
  pub fits : (seat : ℕ) (v : Hand) → get_elem? views seat ≡ some v → Fits deal (slice_index words 0) v

abbrev pub Dealt : {S : Type 0} → Deal → State S Hand → Type 0
Dealt deal s = IsDealt deal s.words s.views

-- The number found was drawn, and is not below any that this seat drew before. With every part of the right, what was
-- drawn before are all numbers below the one found, each once
abbrev pub Draws : {S : Type 0} → Step S → Me S Hand → ℕ → Me S Hand → Type 0
Draws s m found w =
    (w ≡ (drew m.0 found, m.1))
    × (m.0.next ≤ found)
    × (m.0.parts ≡ m.0.deal.workers + 1 → (x : ℕ) → times x m.0.drawn ≡ once_below x found)

-- what the first seat keeps once so many workers have theirs
abbrev pub remaining : Deal → ℕ → Hand × List (ℕ × Unit {0})
remaining deal workers = (hand deal (deal.workers + 1 - workers) 0 0 [], [])
