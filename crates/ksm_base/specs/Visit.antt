-- One visit of the scan (mm/ksm, stable and unstable tree; what is said to be own is not in that text).
use Rattle.std.specs.Prelude.{ℕ, zero, suc, ◌+◌, Bool, true, not, ◌&&◌, ◌||◌, ◌==◌, nat_lt, nat_le, List, [], ◌∷◌, find, Option, Some, None, is_some, is_none, bytes_eq, if◌then◌else◌}
use Rattle.std.specs.List.{list_all}
use Rattle.ksm_base.specs.declared.page.GuestPage.{GuestPage}
use Rattle.ksm_base.specs.declared.row.PageState.TheVariants.{Private, Waiting, Merged, Zero}
use Rattle.ksm_base.specs.declared.row.Row.{Row}
use Rattle.ksm_base.specs.declared.knobs.Knobs.{Knobs}
use Rattle.ksm_base.specs.declared.row.DupRow.{DupRow}
use Rattle.ksm_base.specs.Rows.{comes_before, same_page, change_rows, change_row, waiting_state, shared_state, all_zero, item_count, is_stale, with_dup}
use Rattle.ksm_base.specs.State.{BookState, place_count, tree_of, with_none_waiting, pass_ended}

-- a page comes after the cursor; every page comes after an empty one (own)
abbrev pub after_cursor : Option GuestPage → GuestPage → Bool
after_cursor None page = true
after_cursor (Some last) page = comes_before last page

-- the row that is visited next: the least mergeable one after the cursor (own)
abbrev pub next_row : Option GuestPage → List Row → Option Row
next_row cursor rows = find (λ r. r.mergeable && after_cursor cursor r.page) rows

-- the pass ends where the cursor has a page and no mergeable page comes after it (own)
abbrev pub pass_ended_at_last : BookState → BookState
pass_ended_at_last b = if is_some b.cursor && is_none (next_row b.cursor b.rows) then pass_ended b else b

-- as a pass begins every Waiting row becomes Private
abbrev pub pass_begun : BookState → BookState
pass_begun b = if is_none b.cursor then with_none_waiting b else b

-- what is done before a page is visited
abbrev pub visit_begun : BookState → BookState
visit_begun b = pass_begun (pass_ended_at_last b)

-- a row may join a dup of its tree and bytes that has an item and is below the limit (admin-guide/mm/ksm, max_page_sharing)
abbrev pub may_join : Knobs → List Row → Row → DupRow → Bool
may_join knobs rows row d =
    d.tree == tree_of knobs row && bytes_eq d.bytes row.bytes && nat_le 1 (item_count rows d)
    && nat_lt (item_count rows d) knobs.max_page_sharing

-- d has more items than e, or as many and no greater number (own)
abbrev pub is_no_worse : List Row → DupRow → DupRow → Bool
is_no_worse rows d e =
    nat_lt (item_count rows e) (item_count rows d)
    || (item_count rows e == item_count rows d && nat_le d.number e.number)

-- e may not be joined, or is no better to join than d (own)
abbrev pub is_no_rival : Knobs → List Row → Row → DupRow → DupRow → Bool
is_no_rival knobs rows row d e = not (may_join knobs rows row e) || is_no_worse rows d e

-- d may be joined, and no other dup is better to join (own)
abbrev pub is_best : Knobs → List Row → List DupRow → Row → DupRow → Bool
is_best knobs rows dups row d = may_join knobs rows row d && list_all (is_no_rival knobs rows row d) dups

-- the dup that a row joins: of those that it may join the one with the most items, of these the first made (own)
abbrev pub best_dup : Knobs → List Row → List DupRow → Row → Option DupRow
best_dup knobs rows dups row = find (is_best knobs rows dups row) dups

-- another row that waits, of the same tree and bytes
abbrev pub waits_for : Knobs → Row → Row → Bool
waits_for knobs row w =
    waiting_state w.state && not (same_page w.page row.page) && tree_of knobs w == tree_of knobs row
    && bytes_eq w.bytes row.bytes

-- the waiting row with which a row makes a dup
abbrev pub partner : Knobs → List Row → Row → Option Row
partner knobs rows row = find (waits_for knobs row) rows

-- the least number from p on that no dup has for its place, where the dups stand in the order of their places (own)
abbrev pub empty_from : ℕ → List DupRow → ℕ
empty_from p [] = p
empty_from p (d ∷ dups) = if d.place == p then empty_from (p + 1) dups else p

-- the place of a dup, or the one given where there is none
abbrev pub place_or : ℕ → Option DupRow → ℕ
place_or place None = place
place_or place (Some d) = d.place

-- a new dup takes the least empty place, or where all are taken that of the stale dup at the least place (own);
-- a page with a frame of its own leaves one or the other, since there are as many places as frames
abbrev pub new_place : ℕ → List Row → List DupRow → ℕ
new_place places rows dups =
    let empty = empty_from 0 dups in if nat_lt empty places then empty else place_or empty (find (is_stale rows) dups)

-- a new dup of the waiting row and the visited one, in the stead of a stale dup at its place (own)
abbrev pub made_dup : ℕ → BookState → Row → Row → BookState
made_dup place b w row =
    record b {
      rows = change_rows (λ r. same_page r.page w.page || same_page r.page row.page) (λ r. record r { state = Merged b.next }) b.rows;
      dups = with_dup (record { number = b.next; place = place; tree = tree_of b.knobs row; bytes = row.bytes }) b.dups;
      next = b.next + 1;
    }

-- a row whose bytes have stayed makes a dup with the row that waits for it, or waits
abbrev pub paired : Option Row → BookState → Row → BookState
paired (Some w) b row = made_dup (new_place (place_count b.shape) b.rows b.dups) b w row
paired None b row = record b { rows = change_row row.page (λ r. record r { state = Waiting }) b.rows }

-- a row has only zeroes, and these merge with the zero page (admin-guide/mm/ksm, use_zero_pages)
abbrev pub is_for_zero : Knobs → Row → Bool
is_for_zero knobs row = knobs.use_zero_pages == 1 && all_zero row.bytes

-- a row whose bytes have stayed becomes Zero, or is paired
abbrev pub stayed : BookState → Row → BookState
stayed b row =
    if is_for_zero b.knobs row then record b { rows = change_row row.page (λ r. record r { state = Zero }) b.rows }
    else paired (partner b.knobs b.rows row) b row

-- a row with a frame of its own joins the dup that it may join; else, if it is not unchanged, it becomes so; else it has stayed
abbrev pub handled : Option DupRow → BookState → Row → BookState
handled (Some d) b row = record b { rows = change_row row.page (λ r. record r { state = Merged d.number }) b.rows }
handled None b row =
    if row.unchanged then stayed b row
    else record b { rows = change_row row.page (λ r. record r { unchanged = true; state = Private }) b.rows }

-- a merged or Zero row stays as it is, any other is handled
abbrev pub row_visited : BookState → Row → BookState
row_visited b row = if shared_state row.state then b else handled (best_dup b.knobs b.rows b.dups row) b row

-- the cursor goes to the page, and the pass ends if it was the last (own)
abbrev pub visit_ended : BookState → GuestPage → BookState
visit_ended b page = pass_ended_at_last (record b { cursor = Some page })

-- the visit of the next row, if there is one
abbrev pub visit_of : BookState → Option Row → BookState
visit_of b (Some row) = visit_ended (row_visited b row) row.page
visit_of b None = b

-- one visit
abbrev pub visit : BookState → BookState
visit b = let begun = visit_begun b in visit_of begun (next_row begun.cursor begun.rows)

-- n visits
abbrev pub visits : ℕ → BookState → BookState
visits zero b = b
visits (suc n) b = visit (visits n b)
