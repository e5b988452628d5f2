-- A scan keeps a book sound.
use Rattle.std.proofs.Common.{◌≡◌, ℕ, zero, suc, Bool, true, Some, None, Option, refl, arith}
use Rattle.std.specs.Prelude.{◌&&◌, All}
use Rattle.ksm_base.specs.declared.page.GuestPage.{GuestPage}
use Rattle.ksm_base.specs.declared.row.PageState.TheVariants.{Private}
use Rattle.ksm_base.specs.declared.row.Row.{Row}
use Rattle.ksm_base.specs.declared.row.DupRow.{DupRow}
use Rattle.ksm_base.specs.declared.fault.Fault.{Fault}
use Rattle.ksm_base.specs.Rows.{same_page, settled, change_row}
use Rattle.ksm_base.specs.State.{BookState, place_count, with_none_waiting, pass_ended}
use Rattle.ksm_base.specs.Visit.{after_cursor, next_row, best_dup, partner, new_place, pass_ended_at_last, visit_begun, paired, stayed, handled, row_visited, visit_of, visits}
use Rattle.ksm_base.specs.Apply.{scan_stopped}
use Rattle.ksm_base.specs.Sound.{IsSound}
use Rattle.ksm_base.proofs.Edits.{find_passes, find_all}
use Rattle.ksm_base.proofs.Orders.{one_of_each_page}
use Rattle.ksm_base.proofs.SoundEdits.{IsCalmer, sound_settings, sound_calmed, sound_changed}
use Rattle.ksm_base.proofs.SoundVisit.{IsVisited, best_dup_has_room, sound_joined, sound_waiting, sound_zero}
use Rattle.ksm_base.proofs.SoundPair.{new_place_free, partner_pairs, sound_made}

-- a sound book stays sound wherever its cursor is
pub sound_cursor : (b : BookState) (cursor : Option GuestPage) → IsSound b → IsSound (record b { cursor = cursor })
sound_cursor b cursor s =
    sound_settings b b.knobs b.passes cursor s.knobs refl refl s.passes s

-- a sound book stays sound where a pass ends
pub sound_pass_ended : (b : BookState) → IsSound b → IsSound (pass_ended b)
sound_pass_ended b s =
    sound_settings b b.knobs _ None s.knobs refl refl (omega arith) s

-- a settled row is calmer than it was
pub settled_calmer : (r : Row) → IsCalmer r (settled r)
settled_calmer r = grind arith

-- a pass that begins, when no row waits any more, keeps the state sound
pub sound_none_waiting : (b : BookState) → IsSound b → IsSound (with_none_waiting b)
sound_none_waiting b s = sound_calmed b settled settled_calmer s.homes s

-- a sound book stays sound where its pass ends as no mergeable page comes after the cursor
pub sound_ended_at_last : (b : BookState) → IsSound b → IsSound (pass_ended_at_last b)
sound_ended_at_last b s = grind (arith, sound_pass_ended b s)

-- a sound book stays sound where a visit begins
pub sound_visit_begun : (b : BookState) → IsSound b → IsSound (visit_begun b)
sound_visit_begun b s =
    let ended = sound_ended_at_last b s in grind (arith, sound_none_waiting (pass_ended_at_last b) ended)

-- the row that is visited next is a mergeable one of the book
pub next_row_visited : (b : BookState) (row : Row) → IsSound b → next_row b.cursor b.rows ≡ Some row → IsVisited b row
next_row_visited b row s found =
    let p : Row → Bool = λ r. r.mergeable && after_cursor b.cursor r.page in
    let mergeable : row.mergeable ≡ true = grind (arith, find_passes p b.rows row found) in
    assumption (find_all p (λ r. All (λ t. same_page t.page r.page ≡ true → t ≡ r) b.rows) b.rows row found (one_of_each_page b.rows s.rows_rise))

module _ (b : BookState) (row : Row) (visited : IsVisited b row) (s : IsSound b) where
  -- the book is sound after the visited page has met its partner, or waits where it has none
  pub sound_paired : (w : Option Row) → partner b.knobs b.rows row ≡ w → IsSound (paired w b row)
  sound_paired (Some w) waits =
      sound_made b w row (new_place (place_count b.shape) b.rows b.dups) (partner_pairs b w row s visited waits) (new_place_free b s) s
  sound_paired None alone = sound_waiting b row visited alone s

  -- the book is sound after the visit of a page whose bytes have changed: it is marked unchanged
  sound_marked : IsSound (record b { rows = change_row row.page (λ r. record r { unchanged = true; state = Private }) b.rows })
  sound_marked =
      sound_changed b (λ r. same_page r.page row.page) (λ r. record r { unchanged = true; state = Private }) (λ r. grind arith) (λ r home. home) s

  -- the book is sound after the visit of an unchanged page that joins no dup: it becomes Zero or is paired
  pub sound_stayed : IsSound (stayed b row)
  sound_stayed = grind (arith, sound_zero b row visited, sound_paired (partner b.knobs b.rows row) refl)

  sound_handled : (dup : Option DupRow) → best_dup b.knobs b.rows b.dups row ≡ dup → IsSound (handled dup b row)
  sound_handled (Some dup) found = sound_joined b row dup visited (best_dup_has_room b row dup s found) s
  sound_handled None found = grind (arith, sound_stayed, sound_marked)

  -- the book is sound after the visit of a row, whatever the visit does with it
  pub sound_row_visited : IsSound (row_visited b row)
  sound_row_visited = grind (arith, sound_handled (best_dup b.knobs b.rows b.dups row) refl)

-- a sound book stays sound after a visit of the row that comes next, if there is one
pub sound_visit_of : (b : BookState) (row : Option Row) → next_row b.cursor b.rows ≡ row → IsSound b
    → IsSound (visit_of b row)
sound_visit_of b None found s = s
sound_visit_of b (Some row) found s =
    let done = row_visited b row in
    sound_ended_at_last (record done { cursor = Some row.page }) (sound_cursor done (Some row.page) (sound_row_visited b row (next_row_visited b row s found) s))

-- visits keep the state sound
pub sound_visits : (n : ℕ) (b : BookState) → IsSound b → IsSound (visits n b)
sound_visits zero b s = s
sound_visits (suc n) b s =
    let begun = visit_begun (visits n b) in
    sound_visit_of begun (next_row begun.cursor begun.rows) refl (sound_visit_begun (visits n b) (sound_visits n b s))

-- a scan that stops for memory keeps the state sound
pub sound_scan_stopped : (stop : Option Fault) (b : BookState) → IsSound b → IsSound (scan_stopped stop b)
sound_scan_stopped None b s = s
sound_scan_stopped (Some fault) b s = sound_visit_begun b s
