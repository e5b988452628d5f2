-- The pages once a page with a frame of its own joined a dup.
use Rattle.ksm_pages.proofs.Names.{All, altered, ap, arith, change_items, changed, count_by, Dup, dup_of, dup_rows, DupRow, DupsState, each_at_page, Entry, false, find_none, frame_of, frame_seen}
use Rattle.ksm_pages.proofs.Names.{get_or, GuestPage, has_number, HasRoom, Held, held_at, held_of, InPageOrder, Inside, is_some, length, lies_on, List, lodgings_of, mapping_of, Merged, merged_into}
use Rattle.ksm_pages.proofs.Names.{merged_state, MOST_REFERENCES, nat_tests, None, number_found, Option, option_map, PageState, PagesValue, refl, relaid, row_found, rows_items, rows_of, RowsView}
use Rattle.ksm_pages.proofs.Names.{seen, shared_state, shares, Some, subst, sym, tied_count, tied_joined, true, with_item, ℕ, ◌<◌, ◌==◌, ◌∙◌, ◌≡◌}
use Rattle.ksm_tree.specs.Dups.{items_of as items_numbered}
use Rattle.ksm_pages.proofs.Changing.{frame_by, row_found as found_rows, seat, shared_lone}
use Rattle.ksm_pages.proofs.Leaving.{AreLawful, Comes, of_dup, of_page, row_there, turned_so, view_of}

-- a page with a frame of its own is not merged
pub own_not_merged : (s : PageState) → shared_state s ≡ false → merged_state s ≡ false
own_not_merged s e = grind arith

-- a dup with room for an item is found by its number, and has fewer items than there are references at most
pub room_found : (s : Inside) → AreLawful s → {p : PagesValue} → view_of s ≡ p → {number : ℕ}
    → HasRoom p.rows p.dups number
    → (is_some (dup_of number s.dups.dups) ≡ true) × (length (items_numbered number s.dups.dups) < MOST_REFERENCES)
room_found s are seen_as {number} required = go _ refl
  where
    room : HasRoom (rows_of s.rows.held) (dup_rows s.dups.dups) number
    room = subst (λ (v : PagesValue). HasRoom v.rows v.dups number) (sym seen_as) required

    go : (o : Option Dup) → dup_of number s.dups.dups ≡ o
        → (is_some (dup_of number s.dups.dups) ≡ true) × (length (items_numbered number s.dups.dups) < MOST_REFERENCES)
    go None is =
        let at = find_none (λ (r : DupRow). r.number == number) (dup_rows s.dups.dups)
        (sym (row_found (has_number number) (λ (r : DupRow). r.number == number) (λ d. refl) s.dups.dups) ∙ ap (option_map (λ d. d.row)) is) room.1.0 room.0 room.1.1 in
        absurd (grind (arith, nat_tests, at, room.1.2, room.2))
    go (Some d) is =
        let counted = tied_count (rows_of s.rows.held) s.dups.dups number d are.tied is in (
          ap is_some is,
          omega (
            arith,
            counted,
            ap (λ n. count_by (λ r. merged_into n r.state) (rows_of s.rows.held))
                (number_found number s.dups.dups d is ∙ sym room.2),
            room.3,
          ),
        )

-- an item of a dup lies where all its items do
pub item_lies : (of : ℕ → Option ℕ) (held : List Held) → InPageOrder (rows_of held) → (number : ℕ)
    → All (λ r. merged_into number r.state ≡ true → frame_of (lodgings_of of held) r.page ≡ of number) (rows_of held)
item_lies of held rise number k d lt merged =
    let r = get_or (rows_of held) k d in
    grind (arith, frame_by of held r.page, found_rows r.page held, each_at_page (rows_of held) rise k d lt, merged)

-- a page whose row is not shared lies on the frame of its own, if it has one
pub seen_own : (of : ℕ → Option ℕ) (state : PageState) (own : Option ℕ) → shared_state state ≡ false → frame_seen of (mapping_of state) own ≡ own
seen_own of state own alone = grind arith

-- a page with a frame of its own lies on that frame
pub own_seat : (of : ℕ → Option ℕ) (pass : ℕ) (e : Entry) → shared_state (held_of pass e).row.state ≡ false
    → seat of (Some (held_of pass e)) ≡ Some e.at
own_seat of pass e alone = grind arith

module _ (s : Inside) (are : AreLawful s) (page : GuestPage) {h : Held} (found : held_at page s.rows.held ≡ Some h)
    (alone : shared_state h.row.state ≡ false) (number : ℕ)
    {later : DupsState} (into : later ≡ record s.dups { dups = change_items number (with_item page) s.dups.dups })
    {rows : RowsView} (turned : rows ≡ altered page (shares (Merged number)) s.rows)
    {p : PagesValue} (seen_as : view_of s ≡ p) where
  -- once a page with a frame of its own joined a dup, the pages are lawful, and the page lies where the dup's items do
  pub joins : Comes s rows later (relaid page (λ r. record r { state = Merged number }) (of_dup s number) (seen p))
  joins =
      turned_so s are page found seen_as (shares (Merged number)) turned (λ x. refl) into (rows_items _ _ _)
      (λ r. record r { state = Merged number }) (λ r. refl) refl
      (tied_joined _ _ _ are.order (row_there s are _ found) _ _ _ (own_not_merged _ alone) (of_page s are _ found) refl are.tied)
      (λ _. shared_lone s.knobs (dup_rows s.dups.dups) (Merged number) h) refl

  -- but for the row and the frame of the page, all is seen as it was, and the page lies where each item does
  pub told_joined : let now = seen (view_of (record s { rows = rows; dups = later })) in
      (now ≡ record (changed page (λ r. record r { state = Merged number }) (seen p)) { frame = now.frame })
      × All (λ r. merged_into number r.state ≡ true → now.frame ≡ lies_on page ((seen p).frame r.page) (seen p).frame) p.rows
  told_joined =
      let lain = subst (λ (v : PagesValue). All
      (λ r. merged_into number r.state ≡ true → frame_of v.lodgings r.page ≡ of_dup s number) v.rows) seen_as
      (item_lies _ _ are.order _) in
      grind (arith, joins)
