-- A lawful placement says the sentences that are promised, and so a new dup finds a place.
use Rattle.ksm_book.proofs.Names.{All, All-append, All-filter, All-map, AllPairs, AllPairs-cons, AllPairs-filter, ap, arith, BookState, Bool, cases_Bool, Contains, Contains-append_left}
use Rattle.ksm_book.proofs.Names.{Contains-append_right, Contains-from_any, Contains-get_or, contains_filter, count_by, count_more, counts_one, dup_frames, DupRow, eq-eqb, eqb, eqb-true, false}
use Rattle.ksm_book.proofs.Names.{filter, filter_passes, find, find_all, find_passes, FindsPlace, frame_at, frame_number, Frames, frames_of, get_or, get_or-map, GuestPage, has_items, home_of_item}
use Rattle.ksm_book.proofs.Names.{inl, inr, is_frame, is_in_use, is_stale, IsDistinct-from_apart, IsOutlived, IsSound, item_count, Ledger, length-append, length-le_from_distinct_below, length-map}
use Rattle.ksm_book.proofs.Names.{LieOn, List, lt-ltb, map, Merged, merged_into, None, none_counted, not, own_frames, pairs_append, pairs_mapped, place_frame, Placed, Private, Row, row_at}
use Rattle.ksm_book.proofs.Names.{shared_state, Some, Stable, StandsOn, subst, suc, true, uses, ℕ, [], ◌++◌, ◌<◌, ◌==◌, ◌∙◌, ◌∷◌, ◌≡◌, ◌≢◌, ◌≤◌}
use Rattle.ksm_book.proofs.Moves.{base_is_items, found_in, stale_is_loose}
use Rattle.ksm_book.proofs.Sharing.{empty_from_most, Lives, lives, first_found, none_stale}

-- what passes a test is among those that pass, and so is what is made of it
passing : {X : Type 0} (f : X → ℕ) (test : X → Bool) (xs : List X) {x : X} → Contains xs x → test x ≡ true
    → Contains (map f (filter test xs)) (f x)
passing f test xs at passes =
    let kept = contains_filter _ xs _ at passes in
    (kept.0, omega (arith, length-map (filter test xs) f), get_or-map f _ _ _ _ kept.1 ∙ ap f kept.2)

-- numbers that are each counted once differ
once_each : (xs : List ℕ) → All (λ f. count_by (λ g. g == f) xs ≤ 1) xs → AllPairs (λ f g. f ≢ g) xs
once_each [] once = grind arith
once_each (x ∷ xs) once =
    let none : count_by (λ g. g == x) xs ≡ 0 = grind (arith, once 0 x, count_more (λ g. g == x) x xs) in
    AllPairs-cons (λ f g. f ≢ g) x xs (grind (arith, none_counted))
    (once_each xs (λ k d lt. grind (arith, once (suc k) d, count_more (λ g. g == get_or xs k d) x xs)))

-- a frame is a row's own at most as often as rows lie on it
own_count : (f : ℕ) (frame : Frames) (rows : List Row) → All (λ r. shared_state r.state ≡ false → (g : ℕ) × (frame r.page ≡ Some g)) rows → count_by (λ g. g == f) (own_frames rows frame) ≤ uses f frame rows
own_count f frame [] all = omega arith
own_count f frame (r ∷ rows) all =
    let lies = count_more (λ (x : Row). is_frame f (frame x.page)) r rows in
    let own = count_more (λ g. g == f) (frame_number (frame r.page)) (own_frames rows frame) in
    grind (arith, all 0 r, own_count f frame rows (λ i d lt. all (suc i) d (omega arith)))

-- what holds of each element that passes a test holds of all that are left by it
passing_all : {X : Type 0} (test : X → Bool) (P : X → Type 0) (xs : List X) → All (λ x. test x ≡ true → P x) xs → All P (filter test xs)
passing_all test P xs all i d lt = All-filter test (λ x. test x ≡ true → P x) xs all i d lt (filter_passes test xs i d lt)

all_own : (P : ℕ → Type 0) (rows : List Row) (frame : Frames) → All (λ r. shared_state r.state ≡ false → P (frame_number (frame r.page))) rows → All P (own_frames rows frame)
all_own P rows frame all =
    All-map P _ _ (passing_all (λ r. not (shared_state r.state)) (λ r. P (frame_number (frame r.page))) rows (grind arith))

module _ (b : BookState) (k : Ledger) (s : IsSound b) (frame : Frames) (p : Placed b.shape b.knobs.merge_across_nodes k b.rows frame b.dups None) where
  abbrev own : List ℕ
  own = own_frames b.rows frame

  abbrev shown : List ℕ
  shown = dup_frames b k

  dup_lives : All (λ d. has_items b.rows d ≡ true → Lives k b.dups b.shape b.rows frame d) b.dups
  dup_lives n d lt some = lives p n d lt (λ none. absurd (grind arith))

  stands : All (λ d. has_items b.rows d ≡ true → StandsOn b k d (place_frame k d.place)) b.dups
  stands n d lt some =
      let a = dup_lives n d lt some in
      grind (arith, base_is_items p _ (Contains-get_or b.dups n d lt) a.life, home_of_item b s, s.limit n d lt, p.each_dup n d lt)

  own_kinds : All (λ f. (frame_at k f).kind ≡ Private) own
  own_kinds = all_own (λ f. (frame_at k f).kind ≡ Private) b.rows frame (grind arith)

  -- a frame with one reference is listed once
  own_distinct : AllPairs (λ f g. f ≢ g) own
  own_distinct =
      once_each own (λ i d lt. let f = get_or own i d in grind (arith, own_kinds i d lt, p.kinds f, p.bases f, own_count f frame b.rows))

  abbrev Live : DupRow → Type 0
  Live d = Lives k b.dups b.shape b.rows frame d

  live_kept : All Live (filter (has_items b.rows) b.dups)
  live_kept = passing_all (has_items b.rows) Live b.dups dup_lives

  shown_distinct : AllPairs (λ f g. f ≢ g) shown
  shown_distinct =
      let Apart : DupRow → DupRow → Type 0 = λ d e. Live d → Live e → place_frame k d.place ≢ place_frame k e.place in
      pairs_mapped Apart (λ f g. f ≢ g) Live (λ d. place_frame k d.place) (λ d e live other apart. apart live other) (filter (has_items b.rows) b.dups)
      live_kept (AllPairs-filter Apart _ _ (λ i j d before lt live other same. grind (arith, s.dups_rise i j d before lt)))

  all_distinct : AllPairs (λ f g. f ≢ g) (own ++ shown)
  all_distinct = pairs_append (λ f g. f ≢ g) own shown own_distinct shown_distinct (λ i f lt j g l same.
      let private' = own_kinds i f lt in
      let stable = All-map (λ f. (frame_at k f).kind ≡ Stable) _ _ (λ i d lt. (live_kept i d lt).kind) j g l in
      cc)

  -- the frame of a row is listed
  listed : (f : ℕ) (r : Row) → Contains b.rows r → frame r.page ≡ Some f → Contains (own ++ shown) f
  listed f r has on = elim (cases_Bool (shared_state r.state)) [
    | inl is ↦
        let number : (n : ℕ) × (r.state ≡ Merged n) = grind arith in
        let its = s.items has.0 r has.1 _ (rw has.2 number.1) in
        let at = found_in (λ d. d.number == number.0) b.dups its.1.stands in
        let into : merged_into its.0.number r.state ≡ true = grind (arith, find_passes, eq-eqb) in
        let there =
        passing (λ d. place_frame k d.place) _ _ at
        (lt-ltb 0 (item_count b.rows its.0) (counts_one _ _ has.0 r has.1 (rw has.2 into))) in
        Contains-append_right own _ f (subst (Contains shown) (grind arith) there)
    | inr alone ↦ Contains-append_left own _ f
        (subst (Contains own) (ap frame_number on) (passing (λ z. frame_number (frame z.page)) _ _ has (ap not alone)))
  ]

  in_use_listed : (f : ℕ) → is_in_use (frame_at k f).kind ≡ true → Contains (own ++ shown) f
  in_use_listed f used =
      let first = first_found (λ r. is_frame f (frame r.page)) b.rows (grind (arith, p.kinds f, p.bases f)) in
      let has = found_in (λ r. is_frame f (frame r.page)) b.rows first.1 in
      grind (arith, listed, find_passes)

  outlived : All (λ d. has_items b.rows d ≡ false → IsOutlived k d.place) b.dups
  outlived n d lt none = grind (arith, stale_is_loose p _ (Contains-get_or b.dups n d lt), p.each_dup n d lt)

  -- a sound book lies on its frames as promised, where it is placed lawfully and pages without a row lie on none
  pub lie_on : ((page : GuestPage) → row_at page b.rows ≡ None → frame page ≡ None) → LieOn b frame k
  lie_on absent = grind (arith, stands, all_distinct, in_use_listed, outlived)

  inside : All (λ f. f < frames_of b.shape) (own ++ shown)
  inside =
      All-append (λ f. f < frames_of b.shape) own _ (all_own (λ f. f < frames_of b.shape) b.rows frame (grind arith)) (All-map (λ f. f < frames_of b.shape) _ _ (grind arith))

  -- beside a page with a frame of its own a new dup finds a place: where no dup is stale, each has a frame, and the page's is one more
  pub finds_place : FindsPlace b
  finds_place row has alone =
      let mine = passing (λ r. frame_number (frame r.page)) (λ r. not (shared_state r.state)) b.rows has
      (ap not alone) in
      let most = length-le_from_distinct_below (own ++ shown) (frames_of b.shape)
      (grind (arith, IsDistinct-from_apart, all_distinct))
      (λ q in_it. grind (arith, Contains-from_any {eq = eqb} (λ x y e. eqb-true x y e) q (own ++ shown) in_it, inside)) in
      let stale = λ (d : DupRow) (is : find (is_stale b.rows) b.dups ≡ Some d).
      find_all _ (λ e. e.place < frames_of b.shape) b.dups d is (grind arith) in
      grind (arith, stale, length-append, length-map, none_stale, empty_from_most)
