-- What each step of a command does to a placement, where the note of one frame changes among others.
use Rattle.ksm_book.proofs.Names.{Agrees, All, All-contains_itself, All-filter, All-map, All-weaker, all_changed, all_with_dup, all_with_row, ap, arith, Bool, cases_eq, cases_lt, change_row, Contains}
use Rattle.ksm_book.proofs.Names.{Contains-append_left, Contains-append_right, Contains-get_or, contains_filter, count_alike, DupFits, DupRow, elsewhere, eq-eqb, false, filter, filter_passes, find}
use Rattle.ksm_book.proofs.Names.{find_all, find_changed, find_none, FitsBase, frame_at, Frames, frames_of, GenerationFits, get_or, get_or-set_other, get_or-set_same, GuestPage, holding, in_hand, inl}
use Rattle.ksm_book.proofs.Names.{InPageOrder, inr, is_frame, IsInLife, IsServed, item_count, Ledger, length, length-set, lies_on, List, lt-ltb, map, map_mapped, Merged, merged_into, named_anew}
use Rattle.ksm_book.proofs.Names.{named_at, nat_lt, None, not, Note, Option, ordered_change, PAGE_WORDS, place_frame, Placed, Private, refl, Row, row_at, RowFits, same_page, same_page_refl, set}
use Rattle.ksm_book.proofs.Names.{Shape, shared_state, shown, Some, Stable, stored, suc, sym, uses, with_dup, with_frame, with_row, without_page, Zero, ℕ, ◌+◌, ◌/◌, ◌<◌, ◌∙◌, ◌∷◌, ◌≡◌, ◌≢◌, ◌≤◌, ◌⊎◌}
use Rattle.ksm_book.proofs.ByPage.{found_page, lies_again, lies_still, row_of_page, uses_changed, uses_come, uses_gone, uses_mapped, uses_some}

-- kind, content and generation are the same
abbrev Stays : Note → Note → Type 0
Stays new old = (new.kind ≡ old.kind) × (new.content ≡ old.content) × (new.generation ≡ old.generation)

-- a note may follow another on a frame on which so many rows lie, with so many references in hand: where a row lies there it stays as it
-- was; and it begins another life, or no place named it in this one, or it keeps its words and does not become Private
pub record Follows (last used held : ℕ) (old new : Note) : Type 0 where
  -- the new content has as many words as a page
  pub wide : length new.content ≡ PAGE_WORDS
  -- the new generation fits the new kind
  pub lived : GenerationFits last new.kind new.generation
  -- the references are as many as the rows on the frame and those in hand
  pub base : new.base ≡ used + held
  -- the number of references fits the new kind
  pub fits : FitsBase new.kind new.base
  -- where a row lies on the frame, kind, content and generation stay
  pub same : 1 ≤ used → Stays new old
  -- a new life begins, or the frame was Private in this one, or the words stay and it does not become Private
  pub life : (old.generation < new.generation)
      ⊎ ((new.generation ≡ old.generation) × ((old.kind ≡ Private) ⊎ ((new.content ≡ old.content) × (new.kind ≡ Private → old.kind ≡ Private))))

module _ {sh : Shape} {across : ℕ} {k : Ledger} {rows : List Row} {frame : Frames} {dups : List DupRow} {hand : Option ℕ} (p : Placed sh across k rows frame dups hand)
    (g : ℕ) (inside : g < frames_of sh) (new : Note) where
  abbrev old : Note
  old = frame_at k g

  abbrev next : Ledger
  next = with_frame k g new

  -- the note of the frame that changes, and of any other
  pub at_it : frame_at next g ≡ new
  at_it = grind (arith, get_or-set_same)

  pub at_other : (h : ℕ) → h ≢ g → frame_at next h ≡ frame_at k h
  at_other h ne = grind (arith, get_or-set_other)

  ruleset notes = (at_it, at_other)

  module _ (hand' : Option ℕ) (n : Follows sh.last_generation (uses g frame rows) (in_hand g hand') old new) where
    served : (r : Row) (o : Option ℕ) → (o ≡ Some g → 1 ≤ uses g frame rows) → IsServed sh k dups r o
        → IsServed sh next dups r o
    served r None used h = h
    served r (Some f) used h = grind (arith, notes, cases_eq f g, n.same)

    -- rows and dups lie lawfully where one note follows the old one and no other frame comes into or leaves the hand
    pub noted : ((f : ℕ) → f ≢ g → in_hand f hand' ≡ in_hand f hand) → Placed sh across next rows frame dups hand'
    noted other = record {
      frames_long = grind (arith, length-set);
      places_long = p.places_long;
      widths = grind (arith, notes, n.wide);
      lives = grind (arith, notes, n.lived);
      each_row = λ i x lt. served _ _ (uses_some g frame rows i x lt) (p.each_row i x lt);
      each_dup = All-weaker (DupFits sh across k) (DupFits sh across next) (λ d m. grind (arith, notes, n.life)) dups p.each_dup;
      bases = grind (arith, notes, n.base);
      kinds = grind (arith, notes, n.fits);
      empty = p.empty;
    }

-- what a search finds is in the list
pub found_in : {X : Type 0} (t : X → Bool) (xs : List X) {x : X} → find t xs ≡ Some x → Contains xs x
found_in t xs found = find_all t (Contains xs) xs _ found (All-contains_itself xs)

-- a frame serves a row: the row fits the frame, and agrees with each dup
abbrev pub Serves : Shape → Ledger → List DupRow → Row → ℕ → Type 0
Serves sh k dups r f = RowFits sh k r f × All (Agrees k r f) dups

-- a row that is served is so still where its frame, if it has one, serves it still
served_as : (sh : Shape) (k k' : Ledger) (dups dups' : List DupRow) (r : Row) (o : Option ℕ) → ((f : ℕ) → o ≡ Some f → Serves sh k dups r f → Serves sh k' dups' r f)
    → IsServed sh k dups r o → IsServed sh k' dups' r o
served_as sh k k' dups dups' r None on h = h
served_as sh k k' dups dups' r (Some f) on h = on f refl h

abbrev At : Shape → Ledger → List DupRow → Frames → Row → Type 0
At sh k dups frame r = IsServed sh k dups r (frame r.page)

-- where no other dup stands at the place of a new one, what all dups pass with it, it passes and so do all others
all_without : (P : DupRow → Type 0) (d : DupRow) (dups : List DupRow) → All (λ e. e.place ≢ d.place) dups → All P (with_dup d dups) → P d × All P dups
all_without P d dups apart h =
    let lower = filter (λ e. nat_lt e.place d.place) dups in
    let higher = filter (λ e. nat_lt d.place e.place) dups in
    let at : (e : DupRow) → Contains (with_dup d dups) e → P e = grind arith in (
      at d (grind (arith, Contains-append_right)),
      λ k x lt. let e : DupRow = get_or dups k x in let has = Contains-get_or _ k x lt in elim (cases_lt _ _) [
        | inl below ↦
            at e (Contains-append_left _ _ e (contains_filter _ _ e has (lt-ltb _ _ below)))
        | inr above ↦
            let there = contains_filter (λ y. nat_lt d.place y.place) dups e has (grind arith) in
            at e (Contains-append_right lower (d ∷ higher) e (suc there.0, (omega arith), there.2))
      ],
    )

module _ {sh : Shape} {across : ℕ} {k : Ledger} {rows : List Row} {frame : Frames} {dups : List DupRow} where
  -- other rows in the same frames
  rehoused : {rows' : List Row} {frame' : Frames} {o o' : Option ℕ} → Placed sh across k rows frame dups o → All (λ r. IsServed sh k dups r (frame' r.page)) rows'
      → ((f : ℕ) → (frame_at k f).base ≡ uses f frame' rows' + in_hand f o') → Placed sh across k rows' frame' dups o'
  rehoused p each bases = assumption

  -- the row of a page takes what is in the hand, and its own frame, if it has one, comes into the hand
  pub swapped : (o : Option ℕ) {page : GuestPage} (c : Row → Row) (row : Row) → InPageOrder rows → row_at page rows ≡ Some row → ((r : Row) → (c r).page ≡ r.page)
      → Placed sh across k rows frame dups o → IsServed sh k dups (c row) o → Placed sh across k (change_row page c rows) (lies_on page o frame) dups (frame page)
  swapped o {page} c row rise found keeps p new =
      let at = ap (λ q. same_page q page) (keeps row ∙ found_page _ rows row found) ∙ same_page_refl page in
      rehoused p
      (all_changed (At sh k dups (lies_on page o frame)) (λ r. same_page r.page page) c rows
      (grind (arith, row_of_page page rows row rise found)) (grind (arith, p.each_row)))
      (λ f. p.bases f ∙ sym (grind (arith, uses_changed)))

  -- rows and dups lie lawfully where each row changes, keeps its page, and is served by its frame still
  pub remapped : (hand : Option ℕ) (c : Row → Row) → ((r : Row) → (c r).page ≡ r.page) → Placed sh across k rows frame dups hand
      → All (λ r. At sh k dups frame r → IsServed sh k dups (c r) (frame r.page)) rows → Placed sh across k (map c rows) frame dups hand
  remapped hand c keeps p new = rehoused p (All-map (At sh k dups frame) c rows (grind arith))
      (λ f. rw (uses_mapped f frame c rows keeps) (p.bases f))

  -- rows and dups lie lawfully where a new row comes on the frame in hand
  pub inserted : (o : Option ℕ) (row : Row) → row_at row.page rows ≡ None → Placed sh across k rows frame dups o → IsServed sh k dups row o
      → Placed sh across k (with_row row rows) (lies_on row.page o frame) dups None
  inserted o row absent p new =
      let apart : All (λ r. same_page r.page row.page ≡ false) rows = find_none _ _ absent in
      rehoused p (all_with_row (At sh k dups (lies_on row.page o frame)) row _ (grind arith) (grind arith))
      (λ f. omega (arith, uses_come f o frame row _ absent))

  -- where the row of a page goes, rows and dups lie lawfully with its frame, if it had one, in hand
  pub removed : (page : GuestPage) (row : Row) → InPageOrder rows → row_at page rows ≡ Some row → Placed sh across k rows frame dups None
      → Placed sh across k (without_page page rows) (lies_on page None frame) dups (frame page)
  removed page row rise found p = rehoused p
      (grind (arith, filter_passes, All-filter (λ r. not (same_page r.page page)) (At sh k dups frame) _ p.each_row))
      (λ f. omega (arith, uses_gone f _ None frame _ row rise found))

  -- a place comes to name the frame in the hand, on which no row lies, and a new dup without items stands there
  module _ {g : ℕ} (p : Placed sh across k rows frame dups (Some g)) (stable : (frame_at k g).kind ≡ Stable) (inside : g < frames_of sh)
      (life : ℕ) (lived : (frame_at k g).generation ≡ life) (d : DupRow) (at : d.place < frames_of sh) where
    abbrev named : Ledger
    named = record { frames = k.frames; places = set k.places d.place (Some (record { frame = g; generation = life })) }

    module _ (apart : All (λ e. e.place ≢ d.place) dups) where
      named_new : uses g frame rows ≡ 0 → (frame_at k g).content ≡ d.bytes
          → (across ≡ 0 → g / sh.frames_per_node ≡ d.tree) → All (λ r. merged_into d.number r.state ≡ false) rows
          → Placed sh across named rows frame (with_dup d dups) (Some g)
      named_new unused bytes tree fresh = record {
        frames_long = p.frames_long;
        places_long = grind (arith, length-set);
        widths = p.widths;
        lives = p.lives;
        each_row = λ i x lt. let r : Row = get_or rows i x in
            served_as sh k named dups (with_dup d dups) r (frame r.page) (λ f is m. (
              grind arith,
              all_with_dup (Agrees named r f) d dups (grind (arith, get_or-set_same, uses_some g frame rows i x lt))
                  (λ n y l. grind (arith, get_or-set_other)),
            )) (p.each_row i x lt);
        each_dup = all_with_dup (DupFits sh across named) d dups (grind (arith, get_or-set_same))
            (λ n x l. grind (arith, get_or-set_other));
        bases = p.bases;
        kinds = p.kinds;
        empty = grind (arith, all_without, get_or-set_other);
      }

      -- a row on that frame is its first item
      first_item : (r : Row) → All (λ e. IsInLife k e.place → g ≢ place_frame k e.place) dups → RowFits sh k r g
          → r.state ≡ Merged d.number
          → All (λ e. ¬ (e.number ≡ d.number)) dups → IsServed sh named (with_dup d dups) r (Some g)
      first_item r off fits item numbers = (
        grind arith,
        all_with_dup (Agrees named r g) d dups (grind (arith, get_or-set_same))
            (λ n x l. grind (arith, get_or-set_other)),
      )

-- what the keeper knows once a place names nothing
abbrev pub emptied : Ledger → ℕ → Ledger
emptied k place = record { frames = k.frames; places = set k.places place None }

-- the row of a page leaves its frame, and comes back changed; items of dups
module _ {sh : Shape} {across : ℕ} {k : Ledger} {rows : List Row} {frame : Frames} {dups : List DupRow} where
  module _ (p : Placed sh across k rows frame dups None) (page : GuestPage) (row : Row) (rise : InPageOrder rows) (found : row_at page rows ≡ Some row)
      (g : ℕ) (lies : frame page ≡ Some g) (own : (frame_at k g).kind ≡ Private) where
    fits : Serves sh k dups row g
    fits = grind (arith, found_page, find_all _ (λ r. IsServed sh k dups r (frame r.page)) _ row found p.each_row)

    abbrev bared : Row → Row
    bared r = record r { state = Zero }

    abbrev bare : List Row
    bare = change_row page bared rows

    abbrev off : Frames
    off = lies_on page None frame

    lifted : Placed sh across k bare off dups (Some g)
    lifted = rw (← lies) (swapped None _ row rise found (λ r. refl) p refl)

    one : (frame_at k g).base ≡ 1
    one = grind arith

    unused : uses g off bare ≡ 0
    unused = grind (arith, one, lifted.bases g)

    -- meanwhile its note changes
    module _ (fr : Note) (life : fr.generation ≡ (frame_at k g).generation) where
      turned : length fr.content ≡ PAGE_WORDS → fr.base ≡ 1 → GenerationFits sh.last_generation fr.kind fr.generation → FitsBase fr.kind fr.base
          → Placed sh across (with_frame k g fr) bare off dups (Some g)
      turned wide base lived counts = noted lifted g fits.0.frame fr _ (grind (arith, unused)) (λ f ne. refl)

      turned_note : frame_at (with_frame k g fr) g ≡ fr
      turned_note = at_it p g fits.0.frame fr

      turned_life : (h : ℕ) → (frame_at (with_frame k g fr) h).generation ≡ (frame_at k h).generation
      turned_life h = grind (arith, turned_note, at_other p g fits.0.frame fr)

    -- the page comes back to it
    back : {k' : Ledger} {dups' : List DupRow} (c : Row → Row) → ((r : Row) → (c r).page ≡ r.page) → Placed sh across k' bare off dups' (Some g)
        → IsServed sh k' dups' (c row) (Some g) → Placed sh across k' (change_row page c rows) frame dups' None
    back {k'} {dups'} c keeps q served =
        let d : Row → Row = λ r. record (c row) { page = r.page } in
        let again : change_row page d bare ≡ change_row page c rows =
        map_mapped _ _ _ rows (grind (arith, row_of_page page rows row rise found)) in
        let there : lies_on page (Some g) off ≡ frame = lies_again page None (Some g) frame ∙ lies_still _ _ _ lies in
        let s = swapped (Some g) {page = page} d _ (ordered_change _ _ _ (λ r. refl) rise)
        (find_changed (λ (r : Row). r.page) page bared (λ r. refl) rows row found) (λ r. refl) q (grind arith) in
        grind (arith, same_page_refl)

    -- rows and dups lie lawfully where a row that is not shared gets new bytes, and its frame holds them
    pub written_in : (bytes : List ℕ) → length bytes ≡ PAGE_WORDS → shared_state row.state ≡ false
        → Placed sh across (with_frame k g (holding (frame_at k g) bytes)) (change_row page (stored bytes) rows) frame dups None
    written_in bytes wide was =
        let fr = holding (frame_at k g) bytes in
        let here = turned_note fr refl in
        let q = turned fr refl wide (grind (arith, one)) (grind arith) (grind arith) in
        back (stored bytes) (λ r. refl) q (grind (arith, fits), grind arith)

    -- rows and dups lie lawfully where a place names the frame of a row, which becomes the first item of a new dup
    pub published : (d : DupRow) → d.place < frames_of sh → (c : Row → Row) → ((r : Row) → (c r).page ≡ r.page) → (c row).state ≡ Merged d.number → (c row).bytes ≡ row.bytes → d.bytes ≡ row.bytes → (across ≡ 0 → row.home ≡ d.tree) → shared_state row.state ≡ false
        → All (λ r. merged_into d.number r.state ≡ false) rows → All (λ e. ¬ (e.number ≡ d.number)) dups → All (λ e. e.place ≢ d.place) dups
        → Placed sh across (named_anew k d.place g) (change_row page c rows) frame (with_dup d dups) None
    published d inside c keeps item same bytes home was fresh numbers apart =
        let served = fits.0 in
        let here = turned_note (shown (frame_at k g)) refl in
        let lived = turned_life (shown (frame_at k g)) refl in
        let q = turned (shown (frame_at k g)) refl (p.widths g) one (grind arith) (omega (arith, one)) in
        let kind = ap (λ (x : Note). x.kind) here in
        back c keeps
        (named_new q kind served.frame _ (lived g) d inside apart unused (grind arith)
        (λ z. served.node was ∙ home z) (All-map (λ r. merged_into d.number r.state ≡ false) _ rows (grind arith)))
        (first_item q kind served.frame _ (lived g) d inside apart (c row) (λ n x l. grind arith)
        (grind arith) item numbers)

  module _ (p : Placed sh across k rows frame dups None) (d : DupRow) (stands : Contains dups d) (life : IsInLife k d.place) where
    -- the rows on the frame of a dup in its life are its items
    pub lies_as_item : All (λ r. is_frame (place_frame k d.place) (frame r.page) ≡ merged_into d.number r.state) rows
    lies_as_item i r0 l = grind arith

    -- the references on the frame of a dup in its life are its items
    pub base_is_items : (frame_at k (place_frame k d.place)).base ≡ item_count rows d
    base_is_items = grind (arith, count_alike)

    -- a dup without items has no Stable frame in the life that its place names
    pub stale_is_loose : item_count rows d ≡ 0 → ¬ ((frame_at k (place_frame k d.place)).kind ≡ Stable)
    stale_is_loose none stable = grind (arith, base_is_items)

  -- a place is emptied, and the dup that stood there goes
  module _ {hand : Option ℕ} (q : ℕ) (inside : q < frames_of sh) (p : Placed sh across k rows frame dups hand) where
    named_off : (r : ℕ) → r ≢ q → named_at (emptied k q) r ≡ named_at k r
    named_off r ne = grind (arith, get_or-set_other)

    -- what holds of each dup is said of those that stay
    staying : (P Q : DupRow → Type 0) → ((d : DupRow) → d.place ≢ q → P d → Q d) → All P dups → All Q (filter (elsewhere q) dups)
    staying P Q f h = grind (arith, filter_passes (elsewhere q) dups, eq-eqb, All-filter (elsewhere q) P dups h)

    -- rows and dups lie lawfully where the place names nothing and the dup that stood there is gone
    pub withdrawn : Placed sh across (emptied k q) rows frame (filter (elsewhere q) dups) hand
    withdrawn = record {
      frames_long = p.frames_long;
      places_long = grind (arith, length-set);
      widths = p.widths;
      lives = p.lives;
      each_row = λ i r0 lt.
          let r = get_or rows i r0 in
          served_as sh k _ _ _ r _
          (λ f is both. (
            grind arith,
            staying (Agrees k r f) (Agrees (emptied k q) r f) (grind (arith, named_off)) both.1,
          )) (p.each_row i r0 lt);
      each_dup = staying (DupFits sh across k) (DupFits sh across (emptied k q)) (grind (arith, named_off)) p.each_dup;
      bases = p.bases;
      kinds = p.kinds;
      empty = λ r h. elim (cases_eq r q) [
        | inl same ↦ grind (arith, get_or-set_same)
        | inr ne ↦
            named_off r ne ∙ p.empty r (λ n x lt. grind (arith, contains_filter (elsewhere q) dups (get_or dups n x) (Contains-get_or _ n x lt), h))
      ];
    }
