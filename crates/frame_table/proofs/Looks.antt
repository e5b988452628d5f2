-- The steps of a lookup, put together.
use Rattle.std.proofs.Common.{◌≡◌, ℕ, ◌+◌, ◌<◌, ◌≤◌, eqb, nat_le, Bool, true, false, cond, Some, None, List, [], ◌∷◌, ◌++◌, length, sym, refl, ap, ◌∙◌, subst, arith, ne_eqb, eq-eqb, append_assoc}
use Rattle.std.proofs.Common.{length-append}
use Rattle.std.proofs.lemmas.Bool.{lt-leb, eqb-false}
use Rattle.std.proofs.lemmas.Option.{same_Some}
use Rattle.frame_table.proofs.CoreNames.{Shape, Life, Aim, Phase, Idle, Placed, Counted, LoadPlace, LoadFrame, Exchange, life_at, frame_word, count_in, life_in, aim_of, is_referenced}
use Rattle.frame_table.proofs.Names.{Round, Lost, Reader, GoesRound, rounds, IsAlive, AllLost, GoesOn, lookup_so_far, TableName, ReaderLog, Sat, sits, log_in, order_in, shape_in, IsIn, reader_after}
use Rattle.frame_table.proofs.Names.{Steps}
use Rattle.atomic_table.specs.Seated.{TableId}

-- from the value of a seat, what `IsIn` says
pub is_in : (sh : Shape) (phase : Phase) (log : ReaderLog) (m : Sat) → m ≡ sits sh phase log (order_in m) → IsIn sh phase m
is_in sh phase log m e = e ∙ ap (λ (l : ReaderLog). sits sh phase l (order_in m)) (sym (ap log_in e))

-- the seat stands after i rounds that were lost
abbrev pub Tries : Shape → ReaderLog → ℕ → ℕ → ℕ → Sat → Type 0
Tries sh log p w i m = (xs : List (ℕ × ℕ)) × AllLost (life_at w).generation xs × (length xs ≡ i)
    × (m ≡ sits sh (cond (nat_le sh.tries i) Idle (Placed (aim_of p w) i)) (log ++ lookup_so_far p w xs) (order_in m))

module _ (sh : Shape) (p w : ℕ) where
  abbrev at : ℕ → Phase
  at i = Placed (aim_of p w) i

  -- after the load of a place that names something no try is made yet
  pub begins : (me m : Sat) → IsIn sh Idle me → Steps (LoadPlace p) me w m → ¬ (w ≡ 0) → 1 ≤ sh.tries → Tries sh (log_in me) p w 0 m
  begins me m is s some_word some_try =
      let log : ReaderLog = log_in me ++ (LoadPlace p, w) ∷ [] in
      let e : m ≡ sits sh (cond (eqb w 0) Idle (at 0)) log (order_in m) = s ∙ ap (λ (x : Sat). (reader_after (LoadPlace p) x.0 w (order_in m), x.1)) is in (
        [],
        tt,
        refl,
        e ∙ (ap (λ (b : Bool). sits sh (cond b Idle (at 0)) log (order_in m)) (ne_eqb w 0 some_word) ∙ ap (λ (b : Bool). sits sh (cond b Idle (at 0)) log (order_in m)) (sym (lt-leb sh.tries 0 (omega arith)))),
      )

  module _ (log : ReaderLog) (i : ℕ) (m : Sat) (t : Tries sh log p w i m) where
    abbrev so_far : ReaderLog
    so_far = log ++ lookup_so_far p w t.0

    here : i < sh.tries → m ≡ sits sh (at i) so_far (order_in m)
    here more = t.3 ∙ ap (λ (b : Bool). sits sh (cond b Idle (at i)) so_far (order_in m)) (lt-leb sh.tries i more)

    -- after fewer rounds than tries the seat is after what the place named
    pub stands : i < sh.tries → IsIn sh (at i) m
    stands more = is_in sh (at i) so_far m (here more)

    -- a round that the seat makes goes on from its log so far
    pub last_round : (r : Round) (m' : Sat) → i < sh.tries → GoesRound m.0 r m' → GoesRound (Reader sh (at i) so_far (order_in m)) r m'
    last_round r m' more goes = subst (λ (x : Sat). GoesRound x.0 r m') (here more) goes

    lost_more : (g : ℕ) (xs : List (ℕ × ℕ)) (c d : ℕ) → AllLost g xs → IsAlive g c → ¬ (d ≡ c) → AllLost g (xs ++ (c, d) ∷ [])
    lost_more g [] c d a x y = (x, y, tt)
    lost_more g (z ∷ zs) c d a x y = (a.0, a.1, lost_more g zs c d a.2 x y)

    rounds_more : (xs : List (ℕ × ℕ)) (c d : ℕ) → rounds (xs ++ (c, d) ∷ []) ≡ rounds xs ++ (LoadFrame, c) ∷ (Exchange, d) ∷ []
    rounds_more [] c d = refl
    rounds_more (z ∷ zs) c d = ap (λ (l : ReaderLog). (LoadFrame, z.0) ∷ (Exchange, z.1) ∷ l) (rounds_more zs c d)

    -- after a round that was lost one try more is made
    pub goes_on : (m' : Sat) (c d : ℕ) → i < sh.tries → GoesRound m.0 (Lost c d) m' → Tries sh log p w (i + 1) m'
    goes_on m' c d more goes =
        let g = last_round (Lost c d) m' more goes in
        let n = t.2 in
        let xs : List (ℕ × ℕ) = t.0 ++ (c, d) ∷ [] in
        let phase : Phase = cond (nat_le sh.tries (i + 1)) Idle (at (i + 1)) in
        let same : so_far ++ (LoadFrame, c) ∷ (Exchange, d) ∷ [] ≡ log ++ lookup_so_far p w xs = append_assoc log (lookup_so_far p w t.0) _
        ∙ ap (λ (l : ReaderLog). log ++ (LoadPlace p, w) ∷ l) (sym (rounds_more t.0 c d)) in
        (xs, lost_more (life_at w).generation t.0 c d t.1 g.0 g.1, omega (arith, length-append t.0 ((c, d) ∷ [])), g.2 ∙ ap (λ (l : ReaderLog). sits sh phase l (order_in m')) same)

-- a seat that loaded a frame word of the life named, with a reference, is Counted
pub counted : (sh : Shape) (aim : Aim) (failures n : ℕ) (me m : Sat) → IsIn sh (Placed aim failures) me → Steps LoadFrame me n m
    → IsAlive aim.life.generation n → (n ≡ frame_word aim.life.generation (count_in n)) × IsIn sh (Counted aim failures (count_in n)) m
counted sh aim failures n me m is s alive =
    let log : ReaderLog = log_in me ++ (LoadFrame, n) ∷ [] in
    let test : is_referenced aim.life.generation n ≡ true = rw (ne_eqb (count_in n) 0 alive.0, eq-eqb (life_in n) aim.life.generation alive.1) refl in
    let e : m ≡ sits sh (cond (is_referenced aim.life.generation n) (Counted aim failures (count_in n)) Idle) log (order_in m) = s
    ∙ ap (λ (x : Sat). (reader_after LoadFrame x.0 n (order_in m), x.1)) is in (
      omega (arith, alive.1),
      is_in sh (Counted aim failures (count_in n)) log m
          (e ∙ ap (λ (b : Bool). sits sh (cond b (Counted aim failures (count_in n)) Idle) log (order_in m)) test),
    )

-- the word of a place that names a life is not 0, and tells that life
pub word_names : (w : ℕ) (life : Life) (b : Bool) → eqb w 0 ≡ b → cond b None (Some (life_at w)) ≡ Some life → ¬ (w ≡ 0) × (life_at w ≡ life)
word_names w life true is e = absurd (cc (e))
word_names w life false is e = (eqb-false w 0 is, same_Some (life_at w) life e)

-- a lookup that ended with some last steps leaves its pass at the table, with those steps at the log's end
pub ended : (mine now : TableName) (id : TableId) (m : Sat) (phase : Phase) (log : ReaderLog) (p w : ℕ) (xs : List (ℕ × ℕ)) (last : ReaderLog)
    → id ≡ now.id → mine ≡ now → m ≡ sits now.shape phase ((log ++ lookup_so_far p w xs) ++ last) (order_in m)
    → (◌≡◌ {A = TableName} record { id = id; shape = shape_in m } mine) × (log_in m ≡ log ++ (lookup_so_far p w xs ++ last))
ended mine now id m phase log p w xs last ids own is =
    ((λ i. record { id = ids i; shape = shape_in (is i) }) ∙ sym own, ap log_in is ∙ append_assoc log (lookup_so_far p w xs) last)

-- a lookup goes on in the round i where i is below `tries` and each round before was lost
pub tried_so_far : (mine now : TableName) (i w : ℕ) (life : Life) (xs : List (ℕ × ℕ)) → cond (eqb w 0) None (Some (life_at w)) ≡ Some life → i < now.shape.tries
    → AllLost (life_at w).generation xs → length xs ≡ i → mine ≡ now → GoesOn mine.shape w xs
tried_so_far mine now i w life xs names more lost long own =
    ((word_names w life (eqb w 0) refl names).0, lost, omega (arith, more, long, ap (λ (t : TableName). t.shape.tries) own))
