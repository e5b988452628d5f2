-- A page that is stored to while it is merged or Zero, comes or goes: of the others only one that waits in its tree with its
-- bytes may come to join its dup by that, so no other page becomes due. And commands by which no page becomes due.
use Rattle.ksm_book.proofs.Names.{All, All-filter, all_changed, all_with_row, Answer, AreDue, arith, BookState, BookView, Bool, bytes_eq, bytes_eq-Decides, change_row, Command, count_with_row}
use Rattle.ksm_book.proofs.Names.{count_without_page, dup_of_item, DupRow, effect, Err, false, filter, find_all, find_none, fresh_row, get_or, GuestPage, has_item, InPageOrder, IsAlone}
use Rattle.ksm_book.proofs.Names.{IsAnswerOrMemory, IsCarried, IsDupOf, IsSound, item_count, List, MatchOption, may_join, merged_into, names, nat_tests, None, Ok, Option, own_not_merged, page_beside}
use Rattle.ksm_book.proofs.Names.{refl, Reply, Row, row_at, same_page, same_page_refl, same_page_sym, shared_state, Some, stored, tree_of, true, waiting_state, waits_for, waits_on, with_row}
use Rattle.ksm_book.proofs.Names.{without_page, ℕ, ◌&&◌, ◌==◌, ◌||◌, ◌≡◌}
use Rattle.ksm_book.proofs.DueKept.{count_kept, more_due, on_still, one_waits, own_due, WaitsElse}
use Rattle.ksm_book.proofs.ByPage.{filled_by, found_page, row_of_page}

module _ (b : BookState) (sound : IsSound b) (page : GuestPage) (row : Row) (found : row_at page b.rows ≡ Some row) where
  -- the page that waits in the tree of the row with its bytes, if the row is merged
  abbrev beside : Option GuestPage
  beside = page_beside b.knobs b.rows (Some row)

  -- a row that waits, and is not of that page, is not of the tree and content of a dup into which the row is merged
  is_of_dup : All (λ r. waiting_state r.state ≡ true → names r.page beside ≡ false
      → All (λ e. merged_into e.number row.state ≡ true
      → (e.tree == tree_of b.knobs r && bytes_eq e.bytes r.bytes) ≡ false) b.dups) b.rows
  is_of_dup k d lt waiting apart j e lt_e into =
      let r = get_or b.rows k d in
      let dup = get_or b.dups j e in
      let of_dup = find_all (λ x. same_page x.page page) (λ x. merged_into dup.number x.state ≡ true → IsDupOf b.knobs b.dups x dup.number dup)
      b.rows row found (dup_of_item b sound j e lt_e) into in
      let it = row_of_page page b.rows row sound.rows_rise found k d lt in
      let none : waits_for b.knobs row r ≡ false = grind (arith, find_none, one_waits, same_page_refl) in
      grind (arith, nat_tests, of_dup.tree, of_dup.bytes, it, found_page, bytes_eq-Decides)

  -- of other rows each dup into which the row is not merged has as many items; that page is due, with what was
  module _ (now : List Row) (counts : (e : DupRow) → merged_into e.number row.state ≡ false
      → item_count now e ≡ item_count b.rows e)
      (old new : List GuestPage) (was : AreDue b old)
      (covers : (p : GuestPage) → (names p beside || has_item p old) ≡ true → has_item p new ≡ true) where
    left_still : All (WaitsElse (record b { rows = now }) new) b.rows
    left_still k d lt restless out =
        let on : waits_on b (get_or b.rows k d) ≡ true = was k d lt restless (grind (arith, covers)) in
        on_still b now b.dups b.next (get_or b.rows k d) (λ none j e lt_e.
        grind (arith, none j e lt_e, counts (get_or b.dups j e), is_of_dup k d lt (grind arith) (grind (arith, covers)) j e lt_e)) on

-- where the page that waits beside another was added to what is due
module _ (b : BookState) (page : GuestPage) (old new : List GuestPage) (was : AreDue b old)
    (told : (p : GuestPage) → has_item p new
    ≡ (names p (page_beside b.knobs b.rows (row_at page b.rows)) || has_item p old))
    (sound : IsSound b) (row : Row) (found : row_at page b.rows ≡ Some row) where
  -- that is so of the book once bytes are stored to the other, which is due too
  pub left_broken : (later : List GuestPage)
      → ((p : GuestPage) → has_item p later ≡ (same_page page p || has_item p new))
      → (bytes : List ℕ) → AreDue (record b { rows = change_row page (stored bytes) b.rows }) later
  left_broken later added bytes =
      let of_page : Row → Bool = λ r. same_page r.page page in
      let now = change_row page (stored bytes) b.rows in
      all_changed (WaitsElse (record b { rows = now }) later) of_page (stored bytes) b.rows
      (grind (arith, same_page_sym))
      (λ k d lt _. left_still b sound page row found now
      (λ e none. count_kept e.number of_page (stored bytes) b.rows (grind (arith, row_of_page, sound.rows_rise)))
      old later was (grind (arith, told, added)) k d lt)

  -- and once the other is dropped
  pub left_dropped : AreDue (record b { rows = without_page page b.rows }) new
  left_dropped =
      All-filter _ (WaitsElse (record b { rows = without_page page b.rows }) new) _ (left_still b sound page row found (without_page page b.rows)
      (λ e none. grind (arith, count_without_page (λ r. merged_into e.number r.state) page b.rows row sound.rows_rise found))
      old new was (grind (arith, told)))

-- where the page was added to what is due
module _ (b : BookState) (page : GuestPage) (old new : List GuestPage)
    (added : (p : GuestPage) → has_item p new ≡ (same_page page p || has_item p old)) (was : AreDue b old) where
  -- that is so of the book as it is
  pub added_due : AreDue b new
  added_due = grind (arith, more_due, added)

  -- and of the book once the page has come
  pub added_come : row_at page b.rows ≡ None → (node : ℕ) (bytes : List ℕ)
      → AreDue (record b { rows = with_row (fresh_row page node bytes) b.rows }) new
  added_come absent node bytes =
      let fresh = fresh_row page node bytes in
      let now = with_row fresh b.rows in
      all_with_row (WaitsElse (record b { rows = now }) new) fresh b.rows (grind (arith, added page, same_page_refl))
      (λ k d lt restless out. on_still b now b.dups b.next (get_or b.rows k d) (λ none i x lt_x.
      grind (arith, none i x lt_x, count_with_row (λ s. merged_into (get_or b.dups i x).number s.state) fresh b.rows absent))
      (added_due k d lt restless out))

-- where fewer dups are there, what is due stays so
pub fewer_due : (b : BookState) (keeps : DupRow → Bool) (pages : List GuestPage) → AreDue b pages
    → AreDue (record b { dups = filter keeps b.dups }) pages
fewer_due b keeps pages due k d lt restless out =
    let row = get_or b.rows k d in
    on_still b b.rows (filter keeps b.dups) b.next row (All-filter keeps (λ e. may_join b.knobs b.rows row e ≡ false) b.dups)
    (due k d lt restless out)

-- what is due before a command is so after it, where each reply that it may give leaves it so
pub stays_due : (v w : BookView) (command : Command) (answer : Answer) (pages : List GuestPage)
    → ((reply : Reply) → IsAnswerOrMemory v.state command (Ok reply) → AreDue (effect v.state command reply) pages)
    → AreDue v.state pages → IsCarried v w command answer → AreDue w.state pages
stays_due v w command (Ok reply) pages stays due carried = rw carried.state (stays reply carried.answer)
stays_due v w command (Err fault) pages stays due carried = rw carried.state due

-- where the page is due, if its row waits, what is due stays so
pub stored_due : (b : BookState) (page : GuestPage) (bytes : List ℕ) (pages : List GuestPage) → InPageOrder b.rows
    → IsAlone page b.rows
    → AreDue b pages → MatchOption (row_at page b.rows) (true ≡ false)
    (λ r. waiting_state r.state ≡ true → has_item page pages ≡ true)
    → AreDue (record b { rows = change_row page (stored bytes) b.rows }) pages
stored_due b page bytes pages rise alone was waits =
    let own = filled_by (λ r. shared_state r.state ≡ false) alone in
    own_due b page (stored bytes) own.0 rise own.1 (own_not_merged _ own.2, refl) pages pages
    (grind (arith, find_all (λ r. same_page r.page page) (WaitsElse b pages) b.rows own.0 own.1 was, found_page, own, waits)) (λ p _ is. is) was
