-- The test of where a step of the keeper is allowed is met exactly where the ledger allows it.
use Rattle.std.proofs.Common.{◌≡◌, ℕ, ◌-◌, ◌<◌, ◌≤◌, ◌==◌, ◌&&◌, not, ltb, leb, Bool, true, false, Option, Some, None, ap, refl}
use Rattle.std.proofs.lemmas.Bool.{and_parts, and_from, lt-ltb, ltb-true, le-leb, leb-true, eqb-true, eq-eqb}
use Rattle.frame_core.proofs.Names.{MOST_REFERENCES, PAGE_WORDS, Shape, frames_of, KeeperStep, Reap, Put, Raise, Open, Add, Sub, Publish, Replace, Withdraw, Freeze, Word, Kind, Free, Filling, Private}
use Rattle.frame_core.proofs.Names.{Stable, Dying, Retired, Ledger, Life, is_kind, is_writable, is_readable, is_live, may_step, frame_at, named_at, IsWritable, IsReadable, IsLive, IsLoose, MayStep}

-- a test is met exactly where a statement is true
abbrev pub Tests : Bool → Type 0 → Type 0
Tests b P = (b ≡ true → P) × (P → b ≡ true)

both : (a b : Bool) (P Q : Type 0) → Tests a P → Tests b Q → Tests (a && b) (P × Q)
both a b P Q t u = ((λ e. let p = and_parts a b e in (t.0 p.0, u.0 p.1)), (λ h. and_from a b (t.1 h.0) (u.1 h.1)))

three : (a b c : Bool) (P Q R : Type 0) → Tests a P → Tests b Q → Tests c R → Tests (a && (b && c)) (P × Q × R)
three a b c P Q R t u v = let r = both b c Q R u v in (
  (λ e. let p = and_parts a (b && c) e in let q = r.0 p.1 in (t.0 p.0, q.0, q.1)),
  (λ h. and_from a (b && c) (t.1 h.0) (r.1 (h.1, h.2))),
)

four : (a b c d : Bool) (P Q R S : Type 0) → Tests a P → Tests b Q → Tests c R → Tests d S → Tests (a && (b && (c && d))) (P × Q × R × S)
four a b c d P Q R S t u v w = let r = three b c d Q R S u v w in (
  (λ e. let p = and_parts a (b && (c && d)) e in let q = r.0 p.1 in (t.0 p.0, q.0, q.1, q.2)),
  (λ h. and_from a (b && (c && d)) (t.1 h.0) (r.1 (h.1, h.2, h.3))),
)

below : (i n : ℕ) → Tests (ltb i n) (i < n)
below i n = (ltb-true i n, lt-ltb i n)

at_most : (i n : ℕ) → Tests (leb i n) (i ≤ n)
at_most i n = (leb-true i n, le-leb i n)

-- the kind is this one
kind : (k j : Kind) → Tests (is_kind k j) (j ≡ k)
kind Free Free = ((λ e. refl), (λ e. refl))
kind Filling Filling = ((λ e. refl), (λ e. refl))
kind Private Private = ((λ e. refl), (λ e. refl))
kind Stable Stable = ((λ e. refl), (λ e. refl))
kind Dying Dying = ((λ e. refl), (λ e. refl))
kind Retired Retired = ((λ e. refl), (λ e. refl))
kind k j = ((λ e. absurd (cc (e))), (λ e. ap (is_kind k) e))

writable : (k : Kind) → Tests (is_writable k) (IsWritable k)
writable Filling = ((λ e. tt), (λ h. refl))
writable Private = ((λ e. tt), (λ h. refl))
writable _ = ((λ e. absurd (cc (e))), (λ h. absurd h))

readable : (k : Kind) → Tests (is_readable k) (IsReadable k)
readable Private = ((λ e. tt), (λ h. refl))
readable Stable = ((λ e. tt), (λ h. refl))
readable Dying = ((λ e. tt), (λ h. refl))
readable _ = ((λ e. absurd (cc (e))), (λ h. absurd h))

negated : (b : Bool) (P : Type 0) → Tests b P → Tests (not b) (¬ P)
negated true P t = ((λ e. absurd (cc (e))), (λ h. absurd (h (t.0 refl))))
negated false P t = ((λ e h. let is = t.1 h in cc (is)), (λ h. refl))

live : (k : Ledger) (place : Option Life) → Tests (is_live k place) (IsLive k place)
live k None = ((λ e. absurd (cc (e))), (λ h. absurd h))
live k (Some life) =
    let note = frame_at k life.frame in
    both (is_kind Stable note.kind) (note.generation == life.generation) _ _ (kind Stable note.kind)
    (eqb-true note.generation life.generation, eq-eqb note.generation life.generation)

loose : (k : Ledger) (place : Option Life) → Tests (not (is_live k place)) (IsLoose k place)
loose k None = ((λ e. tt), (λ h. refl))
loose k (Some life) =
    let t = negated (is_live k (Some life)) _ (live k (Some life)) in
    ((λ e is at. t.0 e (at, is)), (λ h. t.1 (λ x. h x.1 x.0)))

module _ (sh : Shape) (k : Ledger) where
  abbrev here : ℕ → Type 0
  here f = f < frames_of sh

  frame : (f : ℕ) → Tests (ltb f (frames_of sh)) (here f)
  frame f = below f (frames_of sh)

  -- the test of where a step of the keeper is allowed is met exactly where the ledger allows it
  pub decides : (e : KeeperStep) → Tests (may_step sh k e) (MayStep sh k e)
  decides (Reap f) = both _ _ (here f) _ (frame f) (kind Dying (frame_at k f).kind)
  decides (Put f i w) = three _ _ _ (here f) (i < PAGE_WORDS) _ (frame f) (below i PAGE_WORDS) (writable (frame_at k f).kind)
  decides (Raise f) = both _ _ (here f) _ (frame f) (kind Free (frame_at k f).kind)
  decides (Open f) = both _ _ (here f) _ (frame f) (kind Filling (frame_at k f).kind)
  decides (Add f) = let base = (frame_at k f).base in three _ _ _ (here f) (1 ≤ base) (base ≤ MOST_REFERENCES - 1) (frame f) (at_most 1 base) (at_most base (MOST_REFERENCES - 1))
  decides (Sub f) = let base = (frame_at k f).base in both _ _ (here f) (1 ≤ base) (frame f) (at_most 1 base)
  decides (Publish p f) = four _ _ _ _ (here p) (here f) _ _ (frame p) (frame f) (kind Private (frame_at k f).kind) (loose k (named_at k p))
  decides (Replace p f) = four _ _ _ _ (here p) (here f) _ _ (frame p) (frame f) (kind Private (frame_at k f).kind) (live k (named_at k p))
  decides (Withdraw p) = both _ _ (here p) _ (frame p) (loose k (named_at k p))
  decides (Freeze f) = both _ _ (here f) _ (frame f) (kind Stable (frame_at k f).kind)
  decides (Word f i) = three _ _ _ (here f) (i < PAGE_WORDS) _ (frame f) (below i PAGE_WORDS) (readable (frame_at k f).kind)
