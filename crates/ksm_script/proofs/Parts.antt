-- A text that is written in parts.
use Rattle.ksm_script.proofs.Names.{[], ap, append-nil, append_assoc, Appends, Appends-kept, Appends-trans, AppendsBroken, AppendsPart, BreaksText, drop, Err, flat_map, flat_map-append, get_or}
use Rattle.ksm_script.proofs.Names.{IsErrAnd, Keeps, length, List, Ok, Option, Result, RunFault, subst, sym, take, take-add, take-append-drop, take_more, take_rest, WritesText, ℕ, ◌++◌, ◌+◌, ◌-◌, ◌<◌}
use Rattle.ksm_script.proofs.Names.{◌∙◌, ◌∷◌, ◌≡◌}

-- what appended one part of a text, and then the next, appended both
pub one_more : (a b c : Option (List ℕ)) (text : List ℕ) (n m : ℕ)
    → Appends a b (take n text) → Appends b c (take m (take (length text - n) (drop n text))) → Appends a c (take (n + m) text)
one_more a b c text n m p q =
    let rest = subst (λ (t : List ℕ). Appends b c (take m t)) (take_rest text n) q in
    subst (Appends a c) (sym (take-add n m text)) (Appends-trans a b c _ _ p rest)

-- what appended the first n bytes of a text appended a part of it
pub part_of : (a b : Option (List ℕ)) (text : List ℕ) (n : ℕ) → Appends a b (take n text) → AppendsPart a b text
part_of a b text n p = (take n text, drop n text, take-append-drop n text, p)

-- what keeps what was appended has appended a part still
pub part_kept : (a b c : Option (List ℕ)) (text : List ℕ) (n : ℕ)
    → Appends a b (take n text) → Keeps b c → AppendsPart a c text
part_kept a b c text n p q = part_of a c text n (Appends-kept a b c _ p q)

-- a text after another one
pub part_after : (a b c : Option (List ℕ)) (text next : List ℕ)
    → Appends a b text → AppendsPart b c next → AppendsPart a c (text ++ next)
part_after a b c text next p q =
    (text ++ q.0, q.1, append_assoc text q.0 q.1 ∙ ap (λ (t : List ℕ). text ++ t) q.2, Appends-trans a b c _ _ p q.3)

-- a text behind which another one is broken off
pub broken_after : (a b c : Option (List ℕ)) (text next : List ℕ) → Appends a b text → AppendsPart b c next → AppendsBroken a c text next
broken_after a b c text next p q = (q.0, q.1, q.2, Appends-trans a b c _ _ p q.3)

-- what is a beginning of a text is one of a longer text
pub part_longer : (a b : Option (List ℕ)) (text next : List ℕ) → AppendsPart a b text → AppendsPart a b (text ++ next)
part_longer a b text next q = (q.0, q.1 ++ next, sym (append_assoc q.0 q.1 next) ∙ ap (λ (t : List ℕ). t ++ next) q.2, q.3)

-- the texts of a list up to one of its elements, and with it
pub pieces_more : {X : Type 0} (f : X → List ℕ) (xs : List X) (i : ℕ) (d : X) → i < length xs
    → flat_map f (take (i + 1) xs) ≡ flat_map f (take i xs) ++ f (get_or xs i d)
pieces_more f xs i d lt =
    ap (flat_map f) (take_more xs i d lt) ∙ flat_map-append f (take i xs) (get_or xs i d ∷ [])
    ∙ ap (λ (t : List ℕ). flat_map f (take i xs) ++ t) (append-nil (f (get_or xs i d)))

-- the texts up to one of the elements, and a part of its own
pub pieces_part : {X : Type 0} (f : X → List ℕ) (xs : List X) (i : ℕ) (d : X) (text : List ℕ) (a b c : Option (List ℕ)) → i < length xs → text ≡ f (get_or xs i d)
    → Appends a b (flat_map f (take i xs)) → AppendsPart b c text → AppendsPart a c (flat_map f xs)
pieces_part f xs i d text a b c lt is p q =
    let one = part_after a b c _ (f (get_or xs i d)) p (subst (AppendsPart b c) is q) in
    let front : AppendsPart a c (flat_map f (take (i + 1) xs)) = subst (AppendsPart a c) (sym (pieces_more f xs i d lt)) one in
    subst (AppendsPart a c) (sym (flat_map-append f (take (i + 1) xs) (drop (i + 1) xs)) ∙ ap (flat_map f) (take-append-drop (i + 1) xs))
    (part_longer a c _ (flat_map f (drop (i + 1) xs)) front)

module _ {W : Type 0} (contents : W → Option (List ℕ)) (fails : W → Type 0) where
  -- the exit of a `?` behind which a text was broken off
  pub text_broken : (r : Result (Unit {0}) RunFault) (e : RunFault) (a b : W) (text : List ℕ) → IsErrAnd r (λ f. f ≡ e) → BreaksText contents fails a b text e → WritesText contents fails a b text r
  text_broken (Ok x) e a b text is p = absurd is
  text_broken (Err f) e a b text is p = (tt, (is ∙ p.0, p.1, p.2))

  -- the same of a text between two others
  pub text_within : (r : Result (Unit {0}) RunFault) (e : RunFault) (a b c : W) (before text rest : List ℕ) → IsErrAnd r (λ f. f ≡ e) → Appends (contents a) (contents b) before
      → BreaksText contents fails b c text e → WritesText contents fails a c (before ++ (text ++ rest)) r
  text_within r e a b c before text rest is p q =
      text_broken r e a c (before ++ (text ++ rest)) is (q.0, q.1, part_after _ _ _ before (text ++ rest) p (part_longer _ _ text rest q.2))

  -- a text was written before, and then another one
  pub text_after : (r : Result (Unit {0}) RunFault) (a b c : W) (text next : List ℕ) → Appends (contents a) (contents b) text → WritesText contents fails b c next r → WritesText contents fails a c (text ++ next) r
  text_after (Ok x) a b c text next p h = (Appends-trans _ _ _ text next p h.0, tt)
  text_after (Err e) a b c text next p h = (tt, (h.1.0, h.1.1, part_after _ _ _ text next p h.1.2))

  -- the text that was written is the wanted one
  pub text_is : (r : Result (Unit {0}) RunFault) (a b : W) (text wanted : List ℕ) → text ≡ wanted → WritesText contents fails a b text r → WritesText contents fails a b wanted r
  text_is r a b text wanted e = subst (λ t. WritesText contents fails a b t r) e

  -- the beginning of a text was written, and then what is behind it
  pub text_behind : (r : Result (Unit {0}) RunFault) (a b c : W) (text : List ℕ) (n : ℕ) → Appends (contents a) (contents b) (take n text)
      → WritesText contents fails b c (take (length text - n) (drop n text)) r → WritesText contents fails a c text r
  text_behind r a b c text n p q =
      text_is r a c _ text (ap (λ (t : List ℕ). take n text ++ t) (take_rest text n) ∙ take-append-drop n text) (text_after r a b c (take n text) _ p q)
