-- The bytes of the rows are those stored last.
use Rattle.std.proofs.Common.{true, ◌≡◌, ℕ, Bool, List, [], ◌∷◌, get_or, map, Some, None, Option, Ok, Err, refl, arith}
use Rattle.std.specs.Prelude.{All, filter, fold, not, option_map, if◌then◌else◌}
use Rattle.std.proofs.lemmas.List.Elements.{All-map, All-append, All-cons, All-filter, filter_passes}
use Rattle.ksm_base.specs.declared.page.GuestPage.{GuestPage}
use Rattle.ksm_base.specs.declared.row.Row.{Row}
use Rattle.ksm_base.specs.declared.command.Command.{Command}
use Rattle.ksm_base.specs.declared.command.Command.TheVariants.{Register, Drop, Store, Scan, Unmerge, Mergeable, MovePage, SetRun, SetAcross, SetLimit}
use Rattle.ksm_base.specs.declared.reply.Reply.{Reply}
use Rattle.ksm_base.specs.declared.reply.Reply.TheVariants.{Scanned, Unmerged}
use Rattle.ksm_base.specs.declared.fault.Fault.{Fault}
use Rattle.ksm_base.specs.Rows.{comes_before, same_page, row_at, with_row, change_rows, change_row, settled}
use Rattle.ksm_base.specs.State.{BookState}
use Rattle.ksm_base.specs.Visit.{visits}
use Rattle.ksm_base.specs.Answers.{Answer}
use Rattle.ksm_base.specs.Apply.{effect, after, stored, moved, let_go, unshared, fresh_row, scan_stopped, unshare_stopped}
use Rattle.ksm_base.specs.Journal.{Entry, replay, stored_by, or_else, last_stored, ReadsLastStored}
use Rattle.ksm_base.specs.Reading.{bytes_of}
use Rattle.ksm_base.proofs.Edits.{find_all, find_passes}
use Rattle.ksm_base.proofs.Pages.{same_page_refl, same_page_sym, same_page_eq, before_differs, after_differs}
use Rattle.ksm_base.proofs.Visits.{IsRowwise, rowwise_all, rowwise_begun, rowwise_visits}

module _ (kept : GuestPage → Option (List ℕ)) where
  -- the row has the bytes that are kept for its page
  abbrev Has : Row → Type 0
  Has r = kept r.page ≡ Some r.bytes

  abbrev Reads : List Row → Type 0
  Reads rows = All Has rows

  -- a change that keeps pages and bytes keeps what they have
  reads_map : (f : Row → Row) → ((r : Row) → ((f r).page ≡ r.page) × ((f r).bytes ≡ r.bytes)) → (rows : List Row)
      → Reads rows → Reads (map f rows)
  reads_map f keeps rows h = All-map Has f rows (λ k d lt. grind (arith, keeps (get_or rows k d), h k d lt))

  reads_change : (test : Row → Bool) (f : Row → Row) → ((r : Row) → ((f r).page ≡ r.page) × ((f r).bytes ≡ r.bytes))
      → (rows : List Row) → Reads rows → Reads (change_rows test f rows)
  reads_change test f keeps rows h = reads_map (λ r. if test r then f r else r) (λ r. grind (arith, keeps r)) rows h

  reads_rowwise : (old new : List Row) → IsRowwise old new → Reads old → Reads new
  reads_rowwise old new h = rowwise_all Has (λ r s same has. grind arith) old new h

  reads_scanned : (stop : Option Fault) (n : ℕ) (b : BookState) → Reads b.rows
      → Reads (scan_stopped stop (visits n b)).rows
  reads_scanned None n b h = reads_rowwise b.rows (visits n b).rows (rowwise_visits n b) h
  reads_scanned (Some fault) n b h =
      let done = visits n b in
      reads_rowwise done.rows _ (rowwise_begun done) (reads_rowwise b.rows done.rows (rowwise_visits n b) h)

  reads_unshared : (stop : Option Fault) (k : ℕ) (b : BookState) → Reads b.rows → Reads (unshare_stopped stop k b).rows
  reads_unshared None k b h = reads_map unshared (λ r. grind arith) b.rows h
  reads_unshared (Some fault) k b h = reads_change _ unshared (λ r. grind arith) b.rows h

-- what is kept after an entry
abbrev kept_after : Command → Answer → (GuestPage → Option (List ℕ)) → GuestPage → Option (List ℕ)
kept_after c a kept page = or_else (stored_by page (c, a)) (kept page)

module _ (kept : GuestPage → Option (List ℕ)) (page : GuestPage) (bytes : List ℕ) where
  -- what is kept once these bytes are stored to the page
  abbrev kept_now : GuestPage → Option (List ℕ)
  kept_now p = or_else (if same_page page p then Some bytes else None) (kept p)

  reads_with : (row : Row) (rows : List Row) → row.page ≡ page → row.bytes ≡ bytes → Reads kept rows
      → Reads kept_now (with_row row rows)
  reads_with row rows is_page is_bytes h =
      let before : Row → Bool = λ r. comes_before r.page row.page in
      let behind : Row → Bool = λ r. comes_before row.page r.page in
      All-append (Has kept_now) (filter before rows) (row ∷ filter behind rows)
      (λ k d lt. grind (arith, before_differs (get_or (filter before rows) k d).page row.page (filter_passes before rows k d lt), All-filter before (Has kept) rows h k d lt))
      (All-cons (Has kept_now) row (filter behind rows) (grind (arith, same_page_refl))
      (λ k d lt. grind (arith, after_differs row.page (get_or (filter behind rows) k d).page (filter_passes behind rows k d lt), All-filter behind (Has kept) rows h k d lt)))

  reads_stored : (rows : List Row) → Reads kept rows → Reads kept_now (change_row page (stored bytes) rows)
  reads_stored rows h =
      All-map (Has kept_now) (λ r. if same_page r.page page then stored bytes r else r) rows (λ k d lt. grind (arith, same_page_sym page, h k d lt))

-- what is refused stores nothing
refused_stores : (page : GuestPage) (c : Command) (f : Fault) → stored_by page (c, Err f) ≡ None
refused_stores page c f = grind arith

reads_effect : (kept : GuestPage → Option (List ℕ)) (b : BookState) (c : Command) (r : Reply) → Reads kept b.rows
    → Reads (kept_after c (Ok r) kept) (effect b c r).rows
reads_effect kept b (Register page node bytes) r h =
    reads_with kept page bytes (fresh_row page node bytes) b.rows refl refl h
reads_effect kept b (Drop page) r h = All-filter (λ r. not (same_page r.page page)) (Has kept) b.rows h
reads_effect kept b (Store page bytes) r h = reads_stored kept page bytes b.rows h
reads_effect kept b (Scan n) (Scanned v stop) h = reads_scanned kept stop v b h
reads_effect kept b (Unmerge guest) (Unmerged k stop) h = reads_change kept _ let_go (λ r. grind arith) b.rows h
reads_effect kept b (Mergeable guest) r h =
    reads_change kept _ (λ r. record r { mergeable = true }) (λ r. grind arith) b.rows h
reads_effect kept b (MovePage page node) r h = reads_change kept _ (moved node) (λ r. grind arith) b.rows h
reads_effect kept b (SetRun v) (Unmerged k stop) h = reads_unshared kept stop k b h
reads_effect kept b (SetAcross v) r h = grind (arith, reads_map kept settled (λ r. grind arith) b.rows h)
reads_effect kept b (SetLimit v) r h = grind arith
reads_effect kept b _ _ h = h

reads_after : (kept : GuestPage → Option (List ℕ)) (b : BookState) (c : Command) (a : Answer) → Reads kept b.rows
    → Reads (kept_after c a kept) (after b c a).rows
reads_after kept b c (Ok r) h = reads_effect kept b c r h
reads_after kept b c (Err f) h = λ k d lt. grind (arith, refused_stores, h k d lt)

reads_replay : (kept : GuestPage → Option (List ℕ)) (b : BookState) (es : List Entry) → Reads kept b.rows
    → Reads (λ page. fold (λ earlier e. or_else (stored_by page e) earlier) (kept page) es) (replay b es).rows
reads_replay kept b [] h = h
reads_replay kept b (e ∷ es) h =
    reads_replay (kept_after e.0 e.1 kept) (after b e.0 e.1) es (reads_after kept b e.0 e.1 h)

-- each page has the bytes stored last to it, after a journal from a state without pages
pub reads_last : (b : BookState) (es : List Entry) → b.rows ≡ [] → ReadsLastStored es (replay b es).rows
reads_last b es none = reads_replay (λ _. None) b es (rw none (λ k d lt. absurd (omega arith)))

-- a page that is read has the bytes stored last too
pub read_last : (page : GuestPage) (bytes : List ℕ) (b : BookState) (journal : List Entry)
    → ReadsLastStored journal b.rows
    → bytes_of page b ≡ Some bytes → last_stored page journal ≡ Some bytes
read_last page bytes b journal reads read = go (row_at page b.rows) refl read
  where
    go : (row : Option Row) → row_at page b.rows ≡ row → option_map (λ r. r.bytes) row ≡ Some bytes
        → last_stored page journal ≡ Some bytes
    go None absent is = cc
    go (Some row) found is =
        let test : Row → Bool = λ r. same_page r.page page in
        let stored_last = find_all test (λ r. last_stored r.page journal ≡ Some r.bytes) b.rows row found reads in
        grind (arith, same_page_eq row.page page (find_passes test b.rows row found))
