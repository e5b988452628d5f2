-- What becomes of the layout where a page joins a dup, a dup is made or moves to another frame, or stale dups go, one by one.
use Rattle.ksm_book.proofs.Names.{Add, added, Agrees, All, All-contains, All-filter, ap, arith, blank, Bool, cases_Bool, cases_eq, change_row, cond, Contains, Contains-get_or, count_alike, count_by}
use Rattle.ksm_book.proofs.Names.{count_by-le-length, count_in, count_none, did, Done, DupFits, DupRow, each_has_number, elsewhere, empty_from, eq-eqb, eqb-true, Err, false, filter, filter_all}
use Rattle.ksm_book.proofs.Names.{filter_none, filter_passes, find, find_all, find_none, find_passes, Finds, frame_at, Frames, frames_at_most, frames_of, Free, Freeze, frozen, get_or}
use Rattle.ksm_book.proofs.Names.{get_or-set_other, get_or-set_same, get_or_default, GuestPage, has_items, HasRemounted, IfSome, inl, InPageOrder, InPlaceOrder, inr, instead, InUse, is_frame}
use Rattle.ksm_book.proofs.Names.{is_stale, IsInLife, IsLaid, IsLoose, IsLowestFree, IsServed, IsVacant, item_count, items_on, ItemsLieOn, KeeperView, leaving, Ledger, length, length-filter}
use Rattle.ksm_book.proofs.Names.{length-set, LiesWith, List, list_any, Lower, lying, MakesSteps, May, MayLeave, MayMount, MayMove, Merged, merged_into, merged_state, MOST_FRAMES, MOST_LIVES}
use Rattle.ksm_book.proofs.Names.{MOST_REFERENCES, mounting, named_anew, named_at, ne_eqb, node_of, None, none_counted, none_found, Note, Ok, once_mounted, one_of_each_place, Option, option_map}
use Rattle.ksm_book.proofs.Names.{ordered_filter, PagesView, pairs_tail, Performs, place_frame, Placed, Private, pruning, Publish, refl, relaid, Row, row_at, RowFits, same_Some, set, set-get_or}
use Rattle.ksm_book.proofs.Names.{Shape, shared_state, Some, spent, spent_on, Stable, suc, sum_by-le, sym, true, uses, with_dup, with_frame, Withdraw, withdrawing, [], ℕ, ◌*◌, ◌+◌, ◌-◌, ◌<◌, ◌==◌}
use Rattle.ksm_book.proofs.Names.{◌^◌, ◌∙◌, ◌∷◌, ◌≡◌, ◌≢◌, ◌≤◌}
use Rattle.ksm_book.proofs.Moves.{base_is_items, emptied, found_in, lies_as_item, noted, published, Serves, stale_is_loose, withdrawn}
use Rattle.ksm_book.proofs.Laying.{kept, laid_left, lies_changed, may_leave, serves_at}
use Rattle.ksm_book.proofs.Made.{at_again, first_made, made_none, made_one, made_then, none_made, reaps_spend, searched_placed, spent_kept, spent_set, step_made}
use Rattle.ksm_book.proofs.ByPage.{found_page, same_frames}

-- where a test counts one element at least, a search for it finds one
pub first_found : {X : Type 0} (t : X → Bool) (xs : List X) → 1 ≤ count_by t xs → (x : X) × (find t xs ≡ Some x)
first_found t xs some = by _ refl
  where
    by : (o : Option _) → find t xs ≡ o → (x : _) × (find t xs ≡ Some x)
    by (Some x) found = (x, found)
    by None none = grind (arith, count_none, find_none)

-- a page joins the dup of an item
module _ {p : PagesView} {k : KeeperView} (h : IsLaid p k) (rise : InPageOrder p.rows) (page : GuestPage) (row item : Row)
    (found : row_at page p.rows ≡ Some row) (found_item : row_at item.page p.rows ≡ Some item)
    (g : ℕ) (there : p.frame item.page ≡ Some g) (merged : merged_state item.state ≡ true) where
  item_fits : Serves p.shape k.ledger p.dups item g
  item_fits = serves_at h.placed found_item there

  -- one reference more may come to an item's frame, where its dup has room for one item more
  pub may_join : (d : DupRow) → Contains p.dups d → merged_into d.number item.state ≡ true → item_count p.rows d ≤ MOST_REFERENCES - 1 → May k (Add g)
  may_join d stands into few = grind (arith, item_fits, base_is_items h.placed d stands)

  module _ (c : Row → Row) (keeps : (r : Row) → (c r).page ≡ r.page) (state : (c row).state ≡ item.state)
      (bytes : (c row).bytes ≡ item.bytes) where
    -- once the reference has come, the page lies there, and its own frame is in the hand
    joined_hand : (w : KeeperView) (n : ℕ) → w ≡ did k (Add g) n → LiesWith (p.frame page) (relaid page c (Some g) p) w
    joined_hand w n is =
        let more = spent_kept k.ledger g (added (frame_at k.ledger g)) (omega arith) in
        let q : Placed p.shape p.knobs.merge_across_nodes w.ledger p.rows p.frame p.dups (Some g) = rw is
        (noted h.placed g item_fits.0.frame _ (Some g) (grind (arith, item_fits)) (grind arith)) in
        let held : LiesWith (Some g) p w = grind (arith, more) in
        lies_changed held c rise found keeps (grind (arith, serves_at q found_item there))

    -- once a reference came to the item's frame, the frame of the page that joins, if it has one, may be left
    pub may_part : (w : KeeperView) → MakesSteps k w (Add g ∷ []) → IfSome (p.frame page) (MayLeave w)
    may_part w comes = may_leave (joined_hand w _ (step_made comes).1)

    -- rows and dups lie lawfully once a page is an item, lies on the item's frame and has left its own
    pub laid_joined : (u : KeeperView) → MakesSteps k u (Add g ∷ leaving (p.frame page)) → IsLaid (relaid page c (Some g) p) u
    laid_joined u m = let first = first_made m in laid_left (joined_hand _ first.0 refl) u first.1

-- a place where no dup with items stands names no frame that is Stable in the life named
pub vacant_loose : {sh : Shape} {across : ℕ} {k : Ledger} {rows : List Row} {frame : Frames} {dups : List DupRow} (place : ℕ)
    → Placed sh across k rows frame dups None → IsVacant place rows dups → IsLoose k (named_at k place)
vacant_loose {k = k} {dups = dups} place p vacant = by _ refl
  where
    by : (o : Option DupRow) → find (λ d. d.place == place) dups ≡ o → IsLoose k (named_at k place)
    by None none = grind (arith, find_none)
    by (Some d) found =
        let stale = find_all (λ e. e.place == place)
        (λ e. e.place ≡ place → IsInLife k e.place → ¬ ((frame_at k (place_frame k e.place)).kind ≡ Stable))
        dups d found (λ n x lt same life. stale_is_loose p _ (Contains-get_or dups n x lt) life (vacant n x lt same)) in
        grind (arith, stale, find_passes (λ e. e.place == place) dups d found)

module _ {p : PagesView} {k : KeeperView} (w : KeeperView) (h : IsLaid p k) (place : ℕ) (inside : place < frames_of p.shape)
    (vacant : IsVacant place p.rows p.dups) where
  -- once what a vacant place names is withdrawn, the place names nothing, and the keeper knows the rest as it was
  pub cleared_ledger : MakesSteps k w (withdrawing p.dups place) → w.ledger ≡ emptied k.ledger place
  cleared_ledger m = elim (cases_Bool (list_any (λ d. d.place == place) p.dups)) [
    | inl is ↦ rw (step_made (rw is at m)).1
    | inr is ↦
        let none = find_none (λ (d : DupRow). d.place == place) p.dups (none_found _ p.dups is) in
        rw (none_made (rw is at m))
        (grind (arith, h.placed.empty place (grind (arith, none)), set-get_or k.ledger.places place None))
  ]

-- where each element that passes a test passes another too, that other takes out none of them
pub inside_of : {X : Type 0} (p q : X → Bool) (xs : List X) → All (λ x. p x ≡ true → q x ≡ true) xs → filter p (filter q xs) ≡ filter p xs
inside_of p q [] passes = refl
inside_of p q (x ∷ xs) passes = grind (arith, passes 0 x, inside_of p q xs (λ i d lt. passes (suc i) d (omega arith)))

-- a dup that takes a place takes it of any that stood there
with_elsewhere : (d : DupRow) (ds : List DupRow) → with_dup d (filter (elsewhere d.place) ds) ≡ with_dup d ds
with_elsewhere d ds = grind (arith, inside_of)

-- no more dups were ever made than there are lives of all frames, since each spent one
pub spent_most : {v : PagesView} {k : KeeperView} → IsLaid v k → v.next ≤ MOST_FRAMES * MOST_LIVES
spent_most {v} {k} h =
    let last : ℕ = v.shape.last_generation in
    let most : spent k.ledger ≤ length k.ledger.frames * last = sum_by-le spent_on last k.ledger.frames (λ i d lt.
    let note = frame_at k.ledger i in
    grind (arith, get_or_default k.ledger.frames i d blank lt)) in
    grind (arith, h.spent)

-- a new dup stands on the frame of a row, which is its first item
module _ {p : PagesView} {k : KeeperView} (h : IsLaid p k) (rise : InPageOrder p.rows) (page : GuestPage) (row : Row) (f : ℕ)
    (found : row_at page p.rows ≡ Some row) (lies : p.frame page ≡ Some f) (alone : shared_state row.state ≡ false)
    (d : DupRow) (number : d.number ≡ p.next) (inside : d.place < frames_of p.shape) (vacant : IsVacant d.place p.rows p.dups) where
  fits : RowFits p.shape k.ledger row f
  fits = (serves_at h.placed found lies).0

  own : (frame_at k.ledger f).kind ≡ Private
  own = grind (arith, fits)

  -- once its place is cleared, a new dup may be published there on the frame of a row that is not shared
  pub may_found : (w : KeeperView) → MakesSteps k w (withdrawing p.dups d.place) → May w (Publish d.place f)
  may_found w m = grind (arith, cleared_ledger w h d.place inside vacant m, m.after, own, fits, get_or-set_same)

  -- rows and dups lie lawfully once the row's frame is published at the place of the new dup
  pub laid_found : (c : Row → Row) (w1 w : KeeperView) → ((r : Row) → (c r).page ≡ r.page)
      → (c row).state ≡ Merged p.next → (c row).bytes ≡ row.bytes → MakesSteps k w1 (withdrawing p.dups d.place)
      → w ≡ did w1 (Publish d.place f) 0
      → d.bytes ≡ row.bytes → (p.knobs.merge_across_nodes ≡ 0 → row.home ≡ d.tree) → All (λ e. e.number < p.next) p.dups
      → All (λ r. merged_into p.next r.state ≡ false) p.rows
      → IsLaid (record p { rows = change_row page c p.rows; dups = with_dup d p.dups; next = p.next + 1 }) w
  laid_found c w1 w keeps state same clears is bytes tree numbers fresh =
      let empty = cleared_ledger w1 h d.place inside vacant clears in
      let stands = published (withdrawn d.place inside h.placed) page row rise found f lies own d inside c keeps
      (state ∙ ap Merged (sym number)) same bytes tree alone (λ i r lt. rw number (fresh i r lt))
      (All-filter (elsewhere d.place) (λ e. ¬ (e.number ≡ d.number)) p.dups (grind arith))
      (grind (arith, filter_passes, eq-eqb)) in
      let ledger : w.ledger ≡ named_anew (emptied k.ledger d.place) d.place f = grind arith in
      grind (arith, with_elsewhere, own, fits, spent_set)

-- a dup with items: the first item lies on the frame that its place names, which is stable in the life named
pub record Lives (k : Ledger) (dups : List DupRow) (sh : Shape) (rows : List Row) (frame : Frames) (d : DupRow) : Type 0 where
  pub item : Row
  pub first : find (λ r. merged_into d.number r.state) rows ≡ Some item
  pub served : IsServed sh k dups item (frame item.page)
  pub merged : merged_into d.number item.state ≡ true
  pub lies : frame item.page ≡ Some (place_frame k d.place)
  pub life : IsInLife k d.place
  pub kind : (frame_at k (place_frame k d.place)).kind ≡ Stable

module _ {sh : Shape} {across : ℕ} {k : Ledger} {rows : List Row} {frame : Frames} {dups : List DupRow} (p : Placed sh across k rows frame dups None) where
  -- a dup with items has one on the frame that its place names, in the life that it names
  pub lives : (n : ℕ) (d : DupRow) → n < length dups → (item_count rows (get_or dups n d) ≡ 0 → ⊥) → Lives k dups sh rows frame (get_or dups n d)
  lives n d lt some =
      let e = get_or dups n d in
      let first = first_found (λ r. merged_into e.number r.state) rows (omega arith) in
      let row = first.0 in
      let into = find_passes (λ r. merged_into e.number r.state) rows row first.1 in
      let served = find_all _ (λ r. IsServed sh k dups r (frame r.page)) _ row first.1 p.each_row in
      grind arith

-- from p on there are at most as many places taken as dups
pub empty_from_most : (p : ℕ) (dups : List DupRow) → empty_from p dups ≤ p + length dups
empty_from_most p [] = omega arith
empty_from_most p (d ∷ ds) = grind (arith, empty_from_most (p + 1) ds)

-- where no stale dup is found, all dups have items
pub none_stale : (rows : List Row) (dups : List DupRow) → find (is_stale rows) dups ≡ None → filter (has_items rows) dups ≡ dups
none_stale rows dups none = filter_all _ _ (λ k x lt. grind (arith, find_none _ _ none k x lt))

-- the first stale dup is the first to go
pub first_stale : (rows : List Row) (dups : List DupRow) (d : DupRow) → InPlaceOrder dups → find (is_stale rows) dups ≡ Some d
    → filter (is_stale rows) dups ≡ d ∷ filter (is_stale rows) (filter (elsewhere d.place) dups)
first_stale rows [] d rise found = grind arith
first_stale rows (x ∷ xs) d rise found =
    let off : All (λ e. elsewhere x.place e ≡ true) xs = λ i e lt. grind (arith, rise 0 (suc i) e) in
    grind (arith, filter_all (elsewhere x.place) xs off, eq-eqb, first_stale rows xs d (pairs_tail Lower x xs rise))

-- dups in the order of their places, each place below a bound, are no more than the bound
few_from : (m n : ℕ) (dups : List DupRow) → m ≤ n → InPlaceOrder dups → All (λ d. (m ≤ d.place) × (d.place < n)) dups → m + length dups ≤ n
few_from m n [] le rise all = omega arith
few_from m n (d ∷ ds) le rise all =
    let tail = few_from (d.place + 1) n ds (omega (arith, all 0 d (omega arith))) (pairs_tail Lower d ds rise)
    (λ i e lt. grind (arith, rise 0 (suc i) e, all (suc i) e)) in
    grind (arith, all 0 d, tail)

-- so far so many stale dups went, nothing else changed, and rows and dups lie lawfully
pub record Drops (p q : PagesView) (k l : KeeperView) (count : ℕ) : Type 0 where
  pub pages : q ≡ record p { dups = q.dups }
  -- the dups with items are those that there were
  pub live : filter (has_items p.rows) q.dups ≡ filter (has_items p.rows) p.dups
  -- the stale dups are those that went and those still stale
  pub counted : count + count_by (is_stale p.rows) q.dups ≡ count_by (is_stale p.rows) p.dups
  pub own : l.table ≡ k.table
  -- once the places of those still stale are withdrawn, those of all are, in their order
  pub made : (w : KeeperView) → MakesSteps l w (pruning p.rows q.dups p.frame).steps
      → MakesSteps k w (pruning p.rows p.dups p.frame).steps
  pub rise : InPlaceOrder q.dups
  pub laid : IsLaid q l

-- the first stale dup goes next
module _ {p q : PagesView} {k l : KeeperView} {count : ℕ} (h : Drops p q k l count) {place : ℕ}
    (told : Some place ≡ option_map (λ d. d.place) (find (is_stale q.rows) q.dups)) where
  stale : (d : DupRow) × (find (is_stale q.rows) q.dups ≡ Some d) × (d.place ≡ place)
  stale = grind arith

  found : find (is_stale p.rows) q.dups ≡ Some stale.0
  found = grind arith

  -- no dup with items stands at the place of the first stale dup
  pub drop_vacant : IsVacant place q.rows q.dups
  drop_vacant =
      let once = find_all (is_stale q.rows) (λ e. All (λ y. (y.place == e.place) ≡ true → y ≡ e) q.dups) q.dups
      stale.0 stale.1 (one_of_each_place q.dups h.rise) in
      grind (arith, eqb-true, eq-eqb, find_passes (is_stale q.rows) q.dups stale.0 stale.1, stale)

  inside : place < frames_of q.shape
  inside = rw (← stale.2) (find_all _ (λ d. d.place < frames_of q.shape) _ _ stale.1 (λ n d lt. (h.laid.placed.each_dup n d lt).place))

  -- what the place of the first stale dup names may be withdrawn
  pub drop_may : May l (Withdraw place)
  drop_may = (rw h.laid.same inside, vacant_loose _ h.laid.placed drop_vacant)

  -- of those with items none goes
  live : filter (has_items p.rows) (filter (elsewhere place) q.dups) ≡ filter (has_items p.rows) q.dups
  live = grind (arith, inside_of, drop_vacant)

  -- it is the first of those still stale
  next : filter (is_stale p.rows) q.dups ≡ stale.0 ∷ filter (is_stale p.rows) (filter (elsewhere place) q.dups)
  next = grind (arith, first_stale)

  -- once the first stale dup goes, one dup less is stale
  pub drop_fewer : count_by (is_stale p.rows) (filter (elsewhere place) q.dups) + 1 ≡ count_by (is_stale p.rows) q.dups
  drop_fewer = let fewer = simp length-filter at (ap length next) in omega arith

  -- the count of stale dups that went, and the next one, is below 2^64
  pub drop_few : InPlaceOrder p.dups → IsLaid p k → count + 1 < 2 ^ 64
  drop_few first before =
      let frames = few_from 0 _ _ (omega arith) first (λ n d lt. (omega arith, (before.placed.each_dup n d lt).place)) in
      omega (arith, h.counted, drop_fewer, count_by-le-length (is_stale p.rows) p.dups, frames_at_most p.shape before.small)

  -- where the place of the first stale dup is withdrawn and that dup goes, one stale dup more went
  pub drops_more : (q' : PagesView) (l' : KeeperView) → l' ≡ did l (Withdraw place) 0 → q' ≡ record q { dups = filter (elsewhere place) q.dups } → Drops p q' k l' (count + 1)
  drops_more q' l' is goes = record {
    pages = grind (arith, h.pages);
    live = grind (arith, h.live, live);
    counted = grind (arith, h.counted, drop_fewer);
    own = rw is h.own;
    made = λ w m. h.made w (rw (next, stale.2) (made_then (made_one l l' _ 0 is) (rw goes at m)));
    rise = rw goes (ordered_filter _ _ h.rise);
    laid = let placed = withdrawn place inside h.laid.placed in rw goes (grind (arith, is));
  }

-- where no stale dup is left, the dups are those with items, as many went as were stale, and just the steps of a pruning were made
pub dropped : {p q : PagesView} {k l : KeeperView} {count : ℕ} → Drops p q k l count → None ≡ option_map (λ d. d.place) (find (is_stale q.rows) q.dups)
    → (q ≡ record p { dups = filter (has_items p.rows) p.dups }) × (count ≡ count_by (is_stale p.rows) p.dups)
    × Performs (lying p k) (lying q l) (pruning p.rows p.dups p.frame)
dropped {p} {q} {l = l} h told =
    let none : find (is_stale p.rows) q.dups ≡ None = grind arith in
    let each = find_none (is_stale p.rows) q.dups none in
    let gone = filter_none (is_stale p.rows) q.dups each in
    let made = h.made l (grind (arith, gone, made_none)) in
    let counted = count_none (is_stale p.rows) q.dups each in
    grind (arith, h.counted, none_stale p.rows q.dups none)

-- those that lay on f lie on g, and none lies on f any more
module _ (f g : ℕ) (frame : Frames) (rows : List Row) where
  uses_new : uses g frame rows ≡ 0 → uses g (instead f g frame) rows ≡ uses f frame rows
  uses_new none = grind (arith, count_alike, none_counted, eq-eqb)

  uses_old : g ≢ f → uses f (instead f g frame) rows ≡ 0
  uses_old ne = grind (arith, count_none, same_Some, eq-eqb)

  uses_still : (x : ℕ) → x ≢ f → x ≢ g → uses x (instead f g frame) rows ≡ uses x frame rows
  uses_still x nf ng = grind (arith, same_Some, eq-eqb)

-- one of the dups moves from the frame that its place names to another
module _ {sh : Shape} {across : ℕ} {k : Ledger} {rows : List Row} {frame : Frames} {dups : List DupRow}
    (p : Placed sh across k rows frame dups None) (moving : DupRow) (among : (P : DupRow → Type 0) → All P dups → P moving) (left g : ℕ)
    (leaves : left ≡ place_frame k moving.place) where
  abbrev q : ℕ
  q = moving.place

  -- the frame to which it goes, in its with_moved life
  abbrev mounted : Note
  mounted = record (frame_at k left) { kind = Stable; generation = (frame_at k g).generation + 1 }

  -- what the keeper knows once the dup has moved
  abbrev with_moved : Ledger
  with_moved = record { frames = set (set k.frames left (frozen (frame_at k left))) g mounted; places = set k.places q (Some (record { frame = g; generation = (frame_at k g).generation + 1 })) }

  module _ (inside : g < frames_of sh) (free : (frame_at k g).kind ≡ Free) (in_life : IsInLife k q) (stable : (frame_at k left).kind ≡ Stable) (node : across ≡ 0 → node_of sh g ≡ node_of sh left) (numbers : All (λ e. e.place ≢ q → e.number ≢ moving.number) dups) where
    new_differs : g ≢ left
    new_differs e = cc

    -- the notes of the frame that comes, of the one that is left, and of any other
    at_new : frame_at with_moved g ≡ mounted
    at_new = grind (arith, length-set, get_or-set_same)

    at_left : frame_at with_moved left ≡ frozen (frame_at k left)
    at_left = grind (arith, new_differs, length-set, get_or-set_same, get_or-set_other)

    at_rest : (h : ℕ) → h ≢ g → h ≢ left → frame_at with_moved h ≡ frame_at k h
    at_rest h ng nl = grind (arith, get_or-set_other)

    ruleset notes = (at_new, at_left, at_rest)

    named_off : (e : ℕ) → e ≢ q → named_at with_moved e ≡ named_at k e
    named_off e ne = grind (arith, get_or-set_other)

    moved_agrees : (r : Row) (e : DupRow) → All (Agrees k r left) dups → DupFits sh across k e
        → (e.place ≢ q → e.number ≢ moving.number) → Agrees k r left e → Agrees with_moved r g e
    moved_agrees r e all m others a = grind (arith, at_new, named_off, notes, get_or-set_same)

    serves : (r : Row) (f : ℕ) → f ≢ g → Serves sh k dups r f
        → IsServed sh with_moved dups r (cond (is_frame left (Some f)) (Some g) (Some f))
    serves r f far h = elim (cases_eq f left) [
      | inl e ↦ grind (arith, eq-eqb, at_new, moved_agrees)
      | inr ne ↦ grind (arith, ne_eqb, named_off, notes, get_or-set_same)
    ]

    -- rows and dups lie lawfully once a dup has moved from its Stable frame to a free one, with all of its items
    remounted : Placed sh across with_moved rows (instead left g frame) dups None
    remounted = record {
      frames_long = grind (arith, length-set);
      places_long = grind (arith, length-set);
      widths = grind (arith, notes);
      lives = grind (arith, notes);
      each_row = grind (arith, serves);
      each_dup = λ m x l. grind (arith, p.each_dup m x l, notes, named_off, get_or-set_same);
      bases = λ h. elim (cases_eq h g) [
        | inl e ↦ rw (e, at_new, uses_new left g frame rows (grind arith)) (p.bases left)
        | inr ng ↦ elim (cases_eq h left) [
          | inl e ↦ rw (e, at_left, uses_old left g frame rows new_differs) refl
          | inr nl ↦ rw (at_rest h ng nl, uses_still left g frame rows h nl ng) (p.bases h)
        ]
      ];
      kinds = grind (arith, notes);
      empty = grind (arith, named_off);
    }

-- a dup may move to a frame of the node, each item of a dup at its place lies on frame g, and a page without a row on none
module _ {v : PagesView} {k : KeeperView} {dup : DupRow} {node g : ℕ} (may : MayMove v k dup node)
    (lie : All (λ d. d.place ≡ dup.place → ItemsLieOn d.number g v) v.dups)
    (absent : (page : GuestPage) → row_at page v.rows ≡ None → v.frame page ≡ None) where
  stands : Contains v.dups dup
  stands = found_in _ _ may.live

  among : (P : DupRow → Type 0) → All P v.dups → P dup
  among P all = All-contains P v.dups dup all stands

  item_some : 1 ≤ item_count v.rows dup
  item_some = grind (arith, find_passes)

  numbers : All (λ e. e.place ≢ dup.place → e.number ≢ dup.number) v.dups
  numbers n x lt apart same =
      let each = each_has_number _ may.sound.2.dups_rise in
      grind (arith, each n x lt, each stands.0 dup stands.1)

  module _ {w : KeeperView} {f : ℕ} (to : Finds k w node f) where
    abbrev p : Placed v.shape v.knobs.merge_across_nodes w.ledger v.rows v.frame v.dups None
    p = kept k may.laid.same w None (searched_placed node to.reaped) may.laid.placed

    dup_fits : DupFits v.shape v.knobs.merge_across_nodes w.ledger dup
    dup_fits = rw stands.2 at (p.each_dup stands.0 dup stands.1)

    alive : Lives w.ledger v.dups v.shape v.rows v.frame dup
    alive = (rw stands.2 at (lives p stands.0 dup stands.1)) (λ none. omega (arith, item_some))

    item_lies : v.frame alive.item.page ≡ Some g
    item_lies =
        let at = found_in _ v.rows alive.first in
        grind (arith, lie stands.0 dup stands.1, alive.merged)

    on_frame : g ≡ place_frame w.ledger dup.place
    on_frame = grind (arith, item_lies, alive)

    known : (g < frames_of v.shape) × ((frame_at w.ledger g).kind ≡ Stable) × ((frame_at w.ledger g).content ≡ dup.bytes)
    known = grind (arith, on_frame, dup_fits, alive)

    on_it : All (λ r. is_frame g (v.frame r.page) ≡ merged_into dup.number r.state) v.rows
    on_it = rw on_frame (lies_as_item p dup stands alive.life)

    base : (frame_at w.ledger g).base ≡ item_count v.rows dup
    base = rw on_frame (base_is_items p dup stands alive.life)

    items_go : (f' : ℕ) → items_on dup.number f' v.rows v.frame ≡ instead g f' v.frame
    items_go f' = same_frames _ _ (λ page.
        let at = λ (r : Row) (found : row_at page v.rows ≡ Some r).
        find_all _ (λ s. is_frame g (v.frame s.page) ≡ merged_into dup.number s.state) _ r found on_it in
        grind (arith, at, found_page))

    -- the frame that the dup is to leave is one of the table and Stable, so the exchange of its count may be tried
    pub may_freeze : (g < frames_of w.table.shape) × ((frame_at w.ledger g).kind ≡ Stable)
    may_freeze = grind (arith, known)

    lowest : IsLowestFree v.shape w.ledger node f
    lowest = grind arith

    got_inside : f < frames_of v.shape
    got_inside = grind arith

    apart : f ≢ g
    apart e = grind (arith, known)

    -- the exchange of the old frame's count
    module _ {u : KeeperView} (found : ℕ) (freezes : u ≡ did w (Freeze g) found) where
      -- where the exchange found another count than the keeper's references, the dup stays
      pub stays : count_in found ≢ (frame_at w.ledger g).base → HasRemounted v v k u dup node (Err InUse)
      stays other = grind (arith, reaps_spend _ _ _ to.reaped, p, known, item_lies)

      -- it is made where the keeper's references are all
      module _ (all : count_in found ≡ (frame_at w.ledger g).base) where
        exchanged : u.ledger ≡ with_frame w.ledger g (frozen (frame_at w.ledger g))
        exchanged = grind arith

        at_g : frame_at u.ledger g ≡ frozen (frame_at w.ledger g)
        at_g = rw exchanged (at_again w.ledger g (omega (arith, p.frames_long, known)) _)

        at_other : (x : ℕ) → x ≢ g → frame_at u.ledger x ≡ frame_at w.ledger x
        at_other x ne = rw exchanged (grind (arith, get_or-set_other))

        -- after the exchange the new frame may take the place of the old one, with as many references as that had
        pub may_mount : {items : ℕ} → items ≡ (frame_at w.ledger g).base → MayMount u g f dup.place items
        may_mount is =
            let limit = may.sound.2.limit stands.0 dup stands.1 in
            grind (arith, got_inside, known, exchanged, length-set, p.frames_long, lowest, at_other f apart, at_other, at_g, p.widths, dup_fits, on_frame, base, item_some)

        -- and the dup stands on the new frame
        module _ {x : KeeperView} {items : ℕ} (items_are : items ≡ (frame_at w.ledger g).base)
            (does : (before : KeeperView) × MakesSteps u before (mounting g f items (frame_at u.ledger g).content)
            × (x ≡ did before (Publish dup.place f) 0))
            (knows : x.ledger ≡ once_mounted u.ledger g f dup.place items)
            (q : PagesView) (each : All (λ d. d.place ≡ dup.place → q ≡ record v { frame = items_on d.number f v.rows v.frame }) v.dups) where
          goes : q ≡ record v { frame = instead g f v.frame }
          goes = grind (arith, each stands.0 dup stands.1, items_go f)

          ledger_is : x.ledger ≡ with_moved p dup among g f on_frame
          ledger_is = grind (arith, exchanged, at_other f apart, at_g)

          laid_moved_dup : IsLaid q x
          laid_moved_dup =
              let placed = remounted p dup among g f on_frame got_inside (grind (arith, lowest)) alive.life known.1
              (grind (arith, dup_fits, on_frame)) numbers in
              rw goes (grind (arith, placed, ledger_is, spent_kept, reaps_spend _ _ _ to.reaped))

          -- once the new frame is mounted and the items lie there, the dup has moved to a frame of the node
          pub has_remounted : HasRemounted v q k x dup node (Ok Done)
          has_remounted = grind (arith, laid_moved_dup, item_lies, known, may_mount, base, at_g, goes)
