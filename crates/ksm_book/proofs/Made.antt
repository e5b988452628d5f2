-- Steps of the keeper that were made, one after the other; what they make of a placement, of the lives spent and of the sets of
-- free and dying frames; and frames that are found, filled and mounted.
use Rattle.ksm_book.proofs.Names.{Add, added, All, Allocates, along, ap, append-nil, append_assoc, AreSets, arith, blank, Bool, cases_eq, cases_lt, cond, count_in, did, drop, DupRow, Dying}
use Rattle.ksm_book.proofs.Names.{dying_from, dying_kind, dying_on, false, Filling, filter_passes, Finds, FindsNone, frame_at, Frames, frames_of, Free, free_kind, get_or, get_or-set_other, get_or-set_same}
use Rattle.ksm_book.proofs.Names.{get_or_past, given_by, Gives, HasNewFrame, holding, IsLawful, IsSetOf, KeeperStep, KeeperView, Keeps, Kind, Ledger, ledger_after, length, length-set, length-take-le}
use Rattle.ksm_book.proofs.Names.{List, loads, Log, MakesSteps, map, map-append, Marks, mounting, needed_after, None, NoneOf, Note, Open, opened, Option, PAGE_WORDS, Placed, puts, Raise, raised, Reap}
use Rattle.ksm_book.proofs.Names.{reaped, refl, replayed, replicate, Row, set, set-get_or, set-set, set_past, Shape, Some, spent, spent_on, stepped, steps_of, suc, sum_by-set, take, take_more, true}
use Rattle.ksm_book.proofs.Names.{with_frame, with_more, zero, [], ℕ, ◌*◌, ◌++◌, ◌+◌, ◌-◌, ◌<◌, ◌∙◌, ◌∷◌, ◌≡◌, ◌≢◌, ◌≤◌}
use Rattle.ksm_book.proofs.Moves.{noted}

-- a log is replayed part by part
pub replayed_append : (sh : Shape) (k : Ledger) (xs ys : Log) → replayed sh k (xs ++ ys) ≡ replayed sh (replayed sh k xs) ys
replayed_append sh k [] ys = refl
replayed_append sh k (x ∷ xs) ys = replayed_append sh (ledger_after sh k x.0 x.1) xs ys

-- two parts, one after the other, are made as one
pub stepped_then : (v : KeeperView) (xs ys : Log) → stepped (stepped v xs) ys ≡ stepped v (xs ++ ys)
stepped_then v xs ys = grind (arith, replayed_append, append_assoc)

gives_append : (sh : Shape) (k : Ledger) (ms ns : List ℕ) (xs ys : Log) → Gives sh k ms xs → Gives sh (replayed sh k xs) ns ys → Gives sh k (ms ++ ns) (xs ++ ys)
gives_append sh k ms ns [] ys h h' = rw h h'
gives_append sh k ms ns (x ∷ xs) ys h h' =
    grind (arith, gives_append sh (ledger_after sh k x.0 x.1) (needed_after ms (given_by x.0)) ns xs ys)

-- two parts, one after the other, gave the frames of both
pub chained : {u v w : KeeperView} {ms ns : List ℕ} {xs ys : Log} → Allocates u v ms xs → Allocates v w ns ys → Allocates u w (ms ++ ns) (xs ++ ys)
chained {u} {ms = ms} {ns} {xs} {ys} a b = grind (arith, append_assoc, replayed_append, gives_append)

along_push : (step : ℕ → ℕ → KeeperStep × ℕ) (j w : ℕ) (ws : List ℕ) → along step j (ws ++ w ∷ []) ≡ along step j ws ++ step (j + length ws) w ∷ []
along_push step j w [] = grind arith
along_push step j w (x ∷ xs) = grind (arith, along_push step (j + 1) w xs)

-- a step was made for each of the first words, and now for one more
pub along_one : (step : ℕ → ℕ → KeeperStep × ℕ) (v w w' : KeeperView) (i : ℕ) (ws : List ℕ) → i < length ws → w ≡ stepped v (along step 0 (take i ws))
    → w' ≡ stepped w (step i (get_or ws i 0) ∷ []) → w' ≡ stepped v (along step 0 (take (i + 1) ws))
along_one step v w w' i ws lt so_far is =
    let place : 0 + length (take i ws) ≡ i = omega (arith, length-take-le i ws (omega arith)) in
    let made = stepped_then v (along step 0 (take i ws)) (step i (get_or ws i 0) ∷ []) in
    grind (arith, take_more ws i 0 lt, made, along_push step 0 (get_or ws i 0) (take i ws))

-- one word more of a list is written over another
pub word_written : (ws cs : List ℕ) (i : ℕ) → length cs ≡ length ws → i < length ws → set (take i ws ++ drop i cs) i (get_or ws i 0) ≡ take (i + 1) ws ++ drop (i + 1) cs
word_written (w ∷ ws) (c ∷ cs) zero same lt = refl
word_written (w ∷ ws) (c ∷ cs) (suc i) same lt = grind (arith, word_written ws cs i)
word_written ws cs i same lt = absurd (grind arith)

-- where the keeper stays as it is, no step was made
pub made_none : {v w : KeeperView} → w ≡ v → MakesSteps v w []
made_none {v} e = grind (arith, append-nil)

-- a keeper that went on by one step has made that step and no other
pub made_one : (v w : KeeperView) (e : KeeperStep) (found : ℕ) → w ≡ did v e found → MakesSteps v w (e ∷ [])
made_one v w e found is = grind arith

-- a keeper that went on by a part of the log has made the steps of that part
pub made_part : (v w : KeeperView) (part : Log) → w ≡ stepped v part → MakesSteps v w (steps_of part)
made_part v w part is = grind arith

-- two pieces of work, one after the other, have made the steps of both
pub made_then : {u v w : KeeperView} {xs ys : List KeeperStep} → MakesSteps u v xs → MakesSteps v w ys → MakesSteps u w (xs ++ ys)
made_then {u} a b = grind (arith, stepped_then, map-append)

-- where no step was made, nothing changed
pub none_made : {v w : KeeperView} → MakesSteps v w [] → w ≡ v
none_made {v} {w} m = by _ m.after m.are
  where
    by : (part : Log) → w ≡ stepped v part → steps_of part ≡ [] → w ≡ v
    by [] after are = grind (arith, after, append-nil v.log)
    by (e ∷ es) after are = absurd (grind arith)

-- a keeper that made some steps made the first of them and then the others
pub first_made : {v w : KeeperView} {e : KeeperStep} {es : List KeeperStep} → MakesSteps v w (e ∷ es) → (found : ℕ) × MakesSteps (did v e found) w es
first_made {v} {w} {e} {es} m = by _ m.after m.are
  where
    by : (part : Log) → w ≡ stepped v part → steps_of part ≡ e ∷ es → (found : ℕ) × MakesSteps (did v e found) w es
    by [] after are = absurd (grind arith)
    by (s ∷ part) after are =
        (s.1, record { part = part; after = grind (arith, stepped_then v (s ∷ []) part); are = grind arith })

-- a keeper that made one step went on by that step, with some word that it found
pub step_made : {v w : KeeperView} {e : KeeperStep} → MakesSteps v w (e ∷ []) → (found : ℕ) × (w ≡ did v e found)
step_made m = let first = first_made m in (first.0, none_made first.1)

-- the lives spent, where one frame's note is another, differ by those of this frame
pub spent_set : (k : Ledger) (g : ℕ) (fr : Note) → g < length k.frames → spent (with_frame k g fr) + spent_on (frame_at k g) ≡ spent k + spent_on fr
spent_set k g fr lt = sum_by-set _ _ g fr _ lt

-- where a frame has spent no fewer lives, neither has the table
pub spent_kept : (k : Ledger) (g : ℕ) (fr : Note) → spent_on (frame_at k g) ≤ spent_on fr → spent k ≤ spent (with_frame k g fr)
spent_kept k g fr le = grind (arith, cases_lt, spent_set, set_past)

-- a frame with a reference is one that the keeper knows
pub held_within : (k : Ledger) (f : ℕ) → 1 ≤ (frame_at k f).base → f < length k.frames
held_within k f some = grind (arith, get_or_past)

-- a frame in hand is one of the table, and has a reference
pub held_inside : {sh : Shape} {across : ℕ} {k : Ledger} {rows : List Row} {frame : Frames} {dups : List DupRow} {g : ℕ}
    → Placed sh across k rows frame dups (Some g) → (g < frames_of sh) × (1 ≤ (frame_at k g).base)
held_inside {k = k} {g = g} p = grind (arith, held_within k g, p.bases g)

-- a frame that the keeper knows, on which nothing is
abbrev IsLeft : Ledger → ℕ → Type 0
IsLeft k f = (f < length k.frames) × ((frame_at k f).base ≡ 0)

-- what holds of each of two notes holds where one is put among others
pub set_holds : (P : Note → Type 0) (xs : List Note) (i h : ℕ) (y : Note) → P y → P (get_or xs h blank) → P (get_or (set xs i y) h blank)
set_holds P xs i h y new old = grind (arith, get_or-set_same, get_or-set_other, set_past, cases_lt, cases_eq)

module _ (v : KeeperView) (g found : ℕ) where
  abbrev new : Note
  new = reaped v.table.shape.last_generation (frame_at v.ledger g)

  still_left : (h : ℕ) → IsLeft v.ledger h → IsLeft (did v (Reap g) found).ledger h
  still_left h left = grind (arith, length-set, set_holds (λ x. x.base ≡ 0) v.ledger.frames g h new refl left.1)

  reap_placed : {hand : Option ℕ} → IsLeft v.ledger g → Keeps v (did v (Reap g) found) hand hand
  reap_placed {hand} left across rows frame dups p =
      let reaps = noted p g (rw (← p.frames_long) left.0) new hand (grind arith) (λ f ne. refl) in
      grind arith

-- frames on which nothing is were reaped: rows and dups lie lawfully
reaps_placed : {hand : Option ℕ} (fs : List ℕ) (v w : KeeperView) → MakesSteps v w (map Reap fs)
    → All (IsLeft v.ledger) fs → Keeps v w hand hand
reaps_placed [] v w m left across rows frame dups p = rw (none_made m) p
reaps_placed (f ∷ fs) v w m left across rows frame dups p =
    let first = first_made m in
    reaps_placed fs (did v (Reap f) first.0) w first.1
    (λ i d lt. still_left v f first.0 _ (left (suc i) d (omega arith)))
    across rows frame dups (reap_placed v f first.0 (left 0 f (omega arith)) across rows frame dups p)

-- reaping spends no fewer lives
pub reaps_spend : (fs : List ℕ) (v w : KeeperView) → MakesSteps v w (map Reap fs) → spent v.ledger ≤ spent w.ledger
reaps_spend [] v w m = grind (arith, m, none_made m)
reaps_spend (f ∷ fs) v w m =
    let first = first_made m in
    grind (arith, spent_kept, reaps_spend fs (did v (Reap f) first.0) w first.1)

-- the dying frames of a node were reaped: rows and dups lie lawfully
pub searched_placed : {v w : KeeperView} (node : ℕ) → MakesSteps v w (map Reap (dying_on v.table.shape v.ledger node))
    → {hand : Option ℕ} → Keeps v w hand hand
searched_placed {v} {w} node m across rows frame dups p =
    reaps_placed _ v w m (λ i d lt. grind (arith, filter_passes, get_or_past, p.kinds)) across rows frame dups p

module _ (k : Ledger) (g : ℕ) (lt : g < length k.frames) where
  -- the frame has the note that it got
  pub at_again : (a : Note) → frame_at (with_frame k g a) g ≡ a
  at_again a = grind (arith, get_or-set_same)

  -- a change of the frame's note that follows another is one change by both
  pub follow : {l m : Ledger} (a : Note) (F : Note → Note) → m ≡ with_frame l g (F (frame_at l g)) → l ≡ with_frame k g a → m ≡ with_frame k g (F a)
  follow a F is was = grind (arith, at_again, set-set)

module _ {v w : KeeperView} {shape : Shape} {node g : ℕ} (same : shape ≡ v.table.shape) (less : node < shape.nodes) (l : IsLawful v None)
    (finds : Finds v w node g) where
  -- rows and dups lie lawfully once the frame is found
  pub found_placed : Placed v.table.shape l.0 w.ledger l.1 l.2 l.3 None
  found_placed = searched_placed _ finds.reaped l.0 l.1 l.2 l.3 l.4

  -- the frame found is one of the table
  pub found_inside : g < frames_of v.table.shape
  found_inside = grind (arith, same)

  -- the frame found is one that the keeper knows
  pub found_within : g < length w.ledger.frames
  found_within = grind (arith, found_placed, found_inside)

  -- once the frame found is raised it is ready to be filled
  pub raised_ready : {r : KeeperView} (n : ℕ) → r ≡ did w (Raise g) n
      → (g < frames_of v.table.shape) × (g < length r.ledger.frames) × (frame_at r.ledger g ≡ raised (frame_at w.ledger g))
      × (length (frame_at r.ledger g).content ≡ PAGE_WORDS)
  raised_ready n is = grind (arith, length-set, at_again, found_placed, found_inside)

  -- a frame that was found and filled is in hand with its bytes
  pub took : {u : KeeperView} {bytes : List ℕ} → length bytes ≡ PAGE_WORDS → u.ledger ≡ with_frame w.ledger g (opened (holding (raised (frame_at w.ledger g)) bytes))
      → HasNewFrame v u node bytes g
  took {u} {bytes} long is =
      let own : Note = opened (holding (raised (frame_at w.ledger g)) bytes) in
      let free : (frame_at w.ledger g).kind ≡ Free = grind (arith, finds.lowest.there) in
      let now = ap (λ z. frame_at z g) is ∙ at_again w.ledger g found_within own in
      let more = spent_kept w.ledger g own (grind arith) in
      let before = reaps_spend _ _ _ finds.reaped in
      let keeps : Keeps v u None (Some g) = λ across rows frame dups p.
      let q = searched_placed _ finds.reaped _ _ _ _ p in
      rw is (noted q g found_inside own _ (grind arith) (grind arith)) in
      grind (arith, found_inside)

-- n references that came to a frame change its note alone
pub adds_ledger : (n : ℕ) {v w : KeeperView} (f : ℕ) → f < length v.ledger.frames → MakesSteps v w (replicate n (Add f))
    → w.ledger ≡ with_frame v.ledger f (with_more (frame_at v.ledger f) n)
adds_ledger zero {v} f lt m = grind (arith, none_made m, set-get_or v.ledger.frames f blank)
adds_ledger (suc n) {v} f lt m =
    let first = first_made m in
    let note = frame_at v.ledger f in
    follow v.ledger f lt (added note) (λ x. with_more x n) (adds_ledger n f (grind (arith, length-set)) first.1) refl
    ∙ ap (λ b. with_frame v.ledger f (record note { base = b })) (omega arith)

-- the words of a dying frame stay where a free one is raised
pub words_kept : (v w : KeeperView) (f g found : ℕ) → (frame_at v.ledger g).kind ≡ Free → (frame_at v.ledger f).kind ≡ Dying → w ≡ did v (Raise g) found
    → (frame_at w.ledger f).content ≡ (frame_at v.ledger f).content
words_kept v w f g found free dying is = grind (arith, get_or-set_other)

-- a frame is raised, words of another are loaded and stored there, it is opened, and references come
pub mounts : (v a b c d e : KeeperView) (f g count found opened' : ℕ) (bytes : List ℕ) → a ≡ did v (Raise g) found → b ≡ stepped a (loads f 0 bytes)
    → c ≡ stepped b (puts g 0 bytes) → d ≡ did c (Open g) opened' → MakesSteps d e (replicate (count - 1) (Add g)) → MakesSteps v e (mounting f g count bytes)
mounts v a b c d e f g count found opened' bytes raises loads' stores opens adds =
    made_then (made_one v a _ _ raises)
    (made_then (made_part a b _ loads') (made_then (made_part b c _ stores) (made_then (made_one c d _ _ opens) adds)))

-- where none of the first n frames is dying, the dying ones are those of the others
passed : (k : Ledger) (low n total more : ℕ) → total ≡ n + more → NoneOf dying_kind k low (low + n) → dying_from k low total ≡ dying_from k (low + n) more
passed k low zero total more sum none = grind arith
passed k low (suc n) zero more sum none = absurd (omega arith)
passed k low (suc n) (suc total) more sum none =
    grind (arith, none low, passed k (low + 1) n total more (omega arith) (λ f ge lt. none f (omega arith) (omega arith)))

-- where no frame of a range is dying, there are no dying ones
pub none_dies : (k : Ledger) (from end : ℕ) → from ≤ end → NoneOf dying_kind k from end → dying_from k from (end - from) ≡ []
none_dies k from end le none = passed k from (end - from) (end - from) 0 (omega arith) (λ f ge lt. none f ge (omega arith))

-- the first dying frame of a range comes first among the dying ones
pub next_dies : (k : Ledger) (from to end : ℕ) → from ≤ to → to < end → NoneOf dying_kind k from to → dying_kind (frame_at k to).kind ≡ true
    → dying_from k from (end - from) ≡ to ∷ dying_from k (to + 1) (end - (to + 1))
next_dies k from to end le lt none there =
    let past = passed k from (to - from) (end - from) (suc (end - (to + 1))) (omega arith) (λ f ge lt. none f ge (omega arith)) in
    let at : from + (to - from) ≡ to = omega arith in
    grind arith

-- a node without a free or dying frame is searched by no step, and in vain
pub in_vain : (v : KeeperView) (node : ℕ) → let size = v.table.shape.frames_per_node in NoneOf free_kind v.ledger (node * size) (node * size + size)
    → NoneOf dying_kind v.ledger (node * size) (node * size + size) → FindsNone v v node
in_vain v node free dying =
    let size = v.table.shape.frames_per_node in
    grind (arith, made_none, passed v.ledger (node * size) size size 0 (omega arith) dying)

-- a step on one frame leaves the note of another, also where the step found that it could not be made
pub other_if : (made : Bool) (k : Ledger) (f g : ℕ) (note : Note) → g ≢ f → frame_at (cond made (with_frame k f note) k) g ≡ frame_at k g
other_if made k f g note differs = grind (arith, get_or-set_other)

-- a note that was put at a frame is there, if there is such a frame, and the others are as they were
pub ruleset put_there = (cases_lt, get_or-set_same, get_or-set_other, get_or_past, length-set)

-- where no other frame changed, a set that was marked at a frame by its kind is right again
set_marked : (asked : Kind → Bool) {v w : KeeperView} (frame : ℕ) {words words' : List ℕ} → w.table ≡ v.table
    → ((f : ℕ) → f ≢ frame → frame_at w.ledger f ≡ frame_at v.ledger f) → IsSetOf asked v words
    → Marks words words' frame (asked (frame_at w.ledger frame).kind) → IsSetOf asked w words'
set_marked asked frame table others is marks = grind arith

-- a frame that was reaped, with no reference left, and went from the dying ones: the sets of free and dying frames are right
pub sets_reaped : {v w : KeeperView} (found frame : ℕ) {free dying : List ℕ} → AreSets v free dying → w ≡ did v (Reap frame) found
    → count_in found ≡ 0 → {free' dying' : List ℕ} → Marks dying dying' frame false → Marks free free' frame (free_kind (frame_at w.ledger frame).kind) → AreSets w free' dying'
sets_reaped {w = w} found frame are is none d f =
    let over : dying_kind (frame_at w.ledger frame).kind ≡ false = grind (arith, put_there) in
    record {
      free = set_marked free_kind frame (rw is) (λ g ne. grind (arith, other_if)) are.free f;
      dying = set_marked dying_kind frame (rw is) (λ g ne. grind (arith, other_if)) are.dying (rw over d);
    }

-- a frame that was raised, and went from the free ones: the sets of free and dying frames are right
pub sets_raised : {v w : KeeperView} (found frame : ℕ) {free dying : List ℕ} → AreSets v free dying → free_kind (frame_at v.ledger frame).kind ≡ true
    → w ≡ did v (Raise frame) found → (frame_at w.ledger frame).kind ≡ Filling → {free' : List ℕ} → Marks free free' frame false → AreSets w free' dying
sets_raised {v} {w} found frame are free is filling f =
    let full : free_kind (frame_at w.ledger frame).kind ≡ false = rw filling refl in
    let as_was : (g : ℕ) → dying_kind (frame_at w.ledger g).kind ≡ dying_kind (frame_at v.ledger g).kind = λ g. grind (arith, put_there) in
    record {
      free = set_marked free_kind frame (rw is) (λ g ne. grind (arith, get_or-set_other)) are.free (rw full f);
      dying = record { room = rw is are.dying.room; marked = λ g lt. grind (arith, are.dying.marked g, as_was g) };
    }
