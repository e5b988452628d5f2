-- What a live place shows to lookups, from the core's law and the table's rule.
use Rattle.std.proofs.Common.{◌≡◌, ◌≢◌, ℕ, suc, ◌<◌, ◌==◌, not, if◌then◌else◌, Bool, true, false, List, [], ◌∷◌, ◌++◌, fold, get_or, Option, Some, None, refl, ap, sym, subst, ◌∙◌, ⊎_elim, arith}
use Rattle.std.proofs.Common.{eq-eqb, ne_eqb}
use Rattle.std.specs.Prelude.{All}
use Rattle.std.proofs.lemmas.Bool.{eqb-true, eqb-false, and_parts, not-true}
use Rattle.std.proofs.lemmas.List.Sums.{fold-append}
use Rattle.std.proofs.lemmas.Option.{slice_get_within}
use Rattle.frame_core.specs.Ledger.{IsLive}
use Rattle.frame_core.specs.Live.{LiveAt, Looked, looked_after, looked, found_gone, is_gone}
use Rattle.frame_core.specs.Rule.{IsNamed}
use Rattle.frame_core.proofs.Above.{life_of_word, place_get, word_get, run_live}
use Rattle.frame_table.proofs.CoreNames.{Shape, frames_of, ReaderStep, LoadPlace, LoadFrame, Ledger, Life, Phase, Placed, Rule, SeatRule, State, place_word, life_at, count_in, life_in, named_at}
use Rattle.frame_table.proofs.CoreNames.{frame_word_of, frame_word_at, is_referenced, phase_at, run_of, log_of}
use Rattle.frame_table.proofs.Names.{Moment, Holds, IsTrueEntry, ReaderLog, IsAlive, AllLost, IsOld, IsZero, lookup_so_far, rounds}
use Rattle.frame_table.proofs.Looked.{there}
use Rattle.frame_table.proofs.Making.{kept, seen, phase_is}
use Rattle.frame_table.proofs.TrueEntries.{readers_log_is_true}
use Rattle.frame_table.specs.Live.{IsLiveNow, HasCome, IsFoundAt, LivePlacesAreFound, WentOn, LoadsFindLives, GoneIsOvertaken, AnswersAreNoted}

-- ---------------------------------------------------------------- a moment

-- a frame word of the life, with a reference
alive : (generation n : ℕ) → is_referenced generation n ≡ true → IsAlive generation n
alive generation n is =
    let both = and_parts (not (count_in n == 0)) (life_in n == generation) is in
    (eqb-false (count_in n) 0 (not-true (count_in n == 0) both.0), eqb-true (life_in n) generation both.1)

module _ (sh : Shape) (t : Moment) (h : Holds sh t) where
  abbrev s : State
  s = (run_of sh h.events).state

  rule : Rule sh s
  rule = kept sh t h

  -- the life that a live place names in the core, and in the words
  abbrev Names : ℕ → Type 0
  Names p = (life : Life) × (named_at s.ledger p ≡ Some life) × IsLive s.ledger (Some life) × (get_or t.words p 0 ≡ place_word (Some life))

  live_names : (p : ℕ) → IsLiveNow sh t p → Names p
  live_names p now = of (named_at s.ledger p) refl (subst (λ (k : Ledger). LiveAt k p) (seen sh t h 0 _ now.4).1 now.5) where
    of : (o : Option Life) → named_at s.ledger p ≡ o → IsLive s.ledger o → Names p
    of None at live = absurd live
    of (Some life) at live =
        let below : p < frames_of sh = omega (arith, slice_get_within s.ledger.places p (Some life) (there s.ledger.places p life at), rule.place_count) in
        (life, at, live, ap (λ (l : List ℕ). get_or l p 0) h.after.words_are ∙ (place_get sh s rule p below ∙ ap place_word at))

  -- a life that may be named is told by its word
  told : (life : Life) → IsNamed sh s.ledger life → life_at (place_word (Some life)) ≡ life
  told life named = (life_of_word sh s rule life named).1

  found_at : (p : ℕ) → IsLiveNow sh t p → IsFoundAt sh t.words p
  found_at p now =
      let n = live_names p now in
      let life : Life = n.0 in
      let named = rule.places p life n.1 in
      let found = run_live sh h.shape h.events p life n.1 n.2 in
      let is : life ≡ life_at (get_or t.words p 0) = sym (ap life_at n.3 ∙ told life named) in
      let word : frame_word_of s life.frame ≡ get_or t.words (frame_word_at (frames_of sh) life.frame) 0 =
      sym (ap (λ (l : List ℕ). get_or l (frame_word_at (frames_of sh) life.frame) 0) h.after.words_are ∙ word_get sh s rule life.frame named.inside) in
      let here = subst (IsAlive life.generation) word (alive life.generation (frame_word_of s life.frame) found.referenced) in
      record {
        named = λ e. found.named (sym n.3 ∙ e);
        inside = subst (λ (l : Life). l.frame < frames_of sh) is named.inside;
        alive = subst (λ (l : Life). IsAlive l.generation (get_or t.words (frame_word_at (frames_of sh) l.frame) 0)) is here;
      }

  not_gone : (p : ℕ) → IsLiveNow sh t p → (q : ℕ) (phase : Phase) (log : ReaderLog) → HasCome sh t q phase log → All (λ w. w ≢ get_or t.words p 0) (found_gone log)
  not_gone p now q phase log come =
      let n = live_names p now in
      let told : log ≡ log_of q (run_of sh h.events).trace = (seen sh t h (suc q) _ come.1).1 in
      subst (λ (x : ReaderLog × ℕ). All (λ w. w ≢ x.1) (found_gone x.0)) (λ i. (sym told i, sym n.3 i)) ((run_live sh h.shape h.events p n.0 n.1 n.2).not_gone q)

-- at each moment a live place is found, in a life that no lookup has found gone
pub live_places_are_found : LivePlacesAreFound
live_places_are_found sh t p h now = (found_at sh t h p now, not_gone sh t h p now)

-- ---------------------------------------------------------------- an entry

went_truly : (sh : Shape) (t t' : Moment) (q : ℕ) (phase : Phase) (log : ReaderLog) (e : ReaderStep) (found : ℕ) → (w : WentOn sh t t' q phase log e found)
    → IsTrueEntry sh t t' phase w.phase' e found
went_truly sh t t' q phase log e found w = readers_log_is_true sh t t' q phase w.phase' log w.there.0 w.order' e found w.before w.after w.whole w.there.1 w.went

-- a load of a live place finds it named, in a life that was not found gone
pub loads_find_lives : LoadsFindLives
loads_find_lives sh t t' q phase log p found w now =
    let is : found ≡ get_or t.words p 0 = (went_truly sh t t' q phase log (LoadPlace p) found w).found_is in
    let here = live_places_are_found sh t p w.before now in (
      (λ none. here.0.named (sym is ∙ none)),
      subst (λ (n : ℕ). All (λ v. v ≢ n) (found_gone log)) (sym is) (here.1 q phase log w.there),
    )

-- who finds a life gone that a live place named was overtaken
pub gone_is_overtaken : GoneIsOvertaken
gone_is_overtaken sh t t' q aim failures log found w gone now same =
    let h = w.before in
    let phase : Phase = Placed aim failures in
    let is = (went_truly sh t t' q phase log LoadFrame found w).found_is in
    let at : phase_at (s sh t h) q ≡ phase = phase_is sh t h q _ w.there.1 in
    let named = (subst (SeatRule sh (s sh t h).ledger) at ((rule sh t h).seats q)).0 in
    let life : life_at (get_or t.words aim.place 0) ≡ aim.life = ap life_at same ∙ told sh t h aim.life named in
    gone (subst (IsAlive aim.life.generation) (sym is)
    (subst (λ (l : Life). IsAlive l.generation (get_or t.words (frame_word_at (frames_of sh) l.frame) 0)) life (found_at sh t h aim.place now).alive))

-- ---------------------------------------------------------------- an answer

abbrev tells : Looked → ReaderStep × ℕ → Looked
tells l x = looked_after l x.0 x.1

-- rounds that were lost tell of no life gone
rounds_tell : (word : ℕ) (gone : List ℕ) (xs : List (ℕ × ℕ)) (rest : ReaderLog) → AllLost (life_at word).generation xs
    → fold tells record { named = word; gone = gone } (rounds xs ++ rest) ≡ fold tells record { named = word; gone = gone } rest
rounds_tell word gone [] rest lost = refl
rounds_tell word gone (x ∷ xs) rest lost =
    let l : Looked = record { named = word; gone = gone } in
    let one : is_gone word x.0 ≡ false = rw (ne_eqb (count_in x.0) 0 lost.0.0, eq-eqb (life_in x.0) (life_at word).generation lost.0.1) refl in
    ap (λ (b : Bool). fold tells (if b then record { named = word; gone = word ∷ gone } else l) (rounds xs ++ rest)) one ∙ rounds_tell word gone xs rest lost.2

noted : (sh : Shape) (place : ℕ) (before log : ReaderLog) (word : ℕ) (xs : List (ℕ × ℕ)) (last : ℕ) → AllLost (life_at word).generation xs → is_gone word last ≡ true
    → log ≡ lookup_so_far place word xs ++ (LoadFrame, last) ∷ []
    → (word : ℕ) × (rest : ReaderLog) × (log ≡ (LoadPlace place, word) ∷ rest) × (found_gone (before ++ log) ≡ word ∷ found_gone before)
noted sh place before log word xs last lost gone is =
    let rest : ReaderLog = rounds xs ++ (LoadFrame, last) ∷ [] in
    let l : Looked = looked before in
    let once : Looked = record { named = word; gone = l.gone } in
    let more : Looked = record { named = word; gone = word ∷ l.gone } in (
      word,
      rest,
      is,
      ap (λ (x : Looked). x.gone) (fold-append tells record { named = 0; gone = [] } before log ∙ (ap (fold tells l) is
          ∙ (rounds_tell word l.gone xs ((LoadFrame, last) ∷ []) lost ∙ ap (λ (b : Bool). if b then more else once) gone))),
    )

-- who answers that there is no reference, or another life, has noted the life
pub answers_are_noted : AnswersAreNoted
answers_are_noted sh place before log answer = ⊎_elim
    (λ (z : IsZero sh place log). noted sh place before log z.0 z.1 z.2 z.3.1 (rw (eq-eqb (count_in z.2) 0 z.4) refl) z.5)
    (λ (o : IsOld sh place log). noted sh place before log o.0 o.1 o.2 o.3.1
    (rw (ne_eqb (count_in o.2) 0 o.4, ne_eqb (life_in o.2) (life_at o.0).generation o.5) refl) o.6)
    answer
