-- Edits that keep a book sound: rows that become private, a row more or less, stale dups dropped.
use Rattle.std.proofs.Common.{◌≡◌, ℕ, ◌<◌, ◌≤◌, Bool, true, false, List, [], ◌∷◌, get_or, map, None, arith, Option, ◌^◌, sym, ◌∙◌}
use Rattle.std.specs.Prelude.{◌==◌, All, filter, if◌then◌else◌}
use Rattle.std.proofs.lemmas.Bool.{lt-ltb}
use Rattle.std.proofs.lemmas.Bool.Decides.{nat_tests}
use Rattle.std.proofs.lemmas.List.Elements.{All-map, All-filter}
use Rattle.std.proofs.lemmas.List.Kept.{AllPairs-filter}
use Rattle.ksm_base.specs.declared.page.GuestPage.{GuestPage}
use Rattle.ksm_base.specs.declared.row.PageState.{PageState}
use Rattle.ksm_base.specs.declared.row.PageState.TheVariants.{Private, Merged}
use Rattle.ksm_base.specs.declared.row.Row.{Row}
use Rattle.ksm_base.specs.declared.row.DupRow.{DupRow}
use Rattle.ksm_base.specs.declared.knobs.Knobs.{Knobs}
use Rattle.ksm_base.specs.Knobs.{AreKnobs}
use Rattle.ksm_base.specs.Rows.{InPageOrder, comes_before, private_state, waiting_state, zero_state, all_zero, merged_into, item_count, has_items, with_row, change_rows}
use Rattle.ksm_base.specs.State.{BookState, without_stale}
use Rattle.ksm_base.specs.Visit.{waits_for, partner}
use Rattle.ksm_base.specs.Counting.{shared_count}
use Rattle.ksm_base.specs.Sound.{IsDupOf, IsSound}
use Rattle.ksm_base.proofs.Edits.{find_none, find_nothing, find_passes, find_filter, count_more, count-append, counts_one, none_counted, count_filter_le, count_filters_le, count_map_le}
use Rattle.ksm_base.proofs.Orders.{ordered_map, ordered_with, ordered_filter, filter_none, all_with_row}
use Rattle.ksm_base.proofs.Pages.{not_both}

-- a row after an edit keeps its page, and where it waits it waited before, with its home and bytes
pub record WaitsAs (old new : Row) : Type 0 where
  pub page : new.page ≡ old.page
  pub state : waiting_state new.state ≡ true → waiting_state old.state ≡ true
  pub home : waiting_state new.state ≡ true → new.home ≡ old.home
  pub bytes : waiting_state new.state ≡ true → new.bytes ≡ old.bytes

-- what must be true of a row in a sound book
abbrev pub IsMergeableSo : Row → Type 0
IsMergeableSo r = private_state r.state ≡ false → r.mergeable ≡ true

abbrev pub IsZeroSo : Row → Type 0
IsZeroSo r = zero_state r.state ≡ true → all_zero r.bytes ≡ true

abbrev pub WaitsAlone : Knobs → List Row → Row → Type 0
WaitsAlone knobs rows r = waiting_state r.state ≡ true → partner knobs rows r ≡ None

abbrev pub HasDup : Knobs → List DupRow → Row → Type 0
HasDup knobs dups r = (number : ℕ) → r.state ≡ Merged number → (dup : DupRow) × IsDupOf knobs dups r number dup

-- a row that waits has no partner
abbrev pub NoneWaitsTwice : Knobs → List Row → Type 0
NoneWaitsTwice knobs rows = All (WaitsAlone knobs rows) rows

-- where a change lets no other row wait, still no content waits twice
pub waiting_map : (knobs : Knobs) (f : Row → Row) (rows : List Row) → ((r : Row) → WaitsAs r (f r))
    → NoneWaitsTwice knobs rows
    → NoneWaitsTwice knobs (map f rows)
waiting_map knobs f rows like alone =
    All-map (WaitsAlone knobs (map f rows)) f rows
    (λ k d lt waits.
    let r = get_or rows k d in
    let none = find_none (waits_for knobs r) rows (alone k d lt ((like r).state waits)) in
    find_nothing (waits_for knobs (f r)) (map f rows) (All-map (λ w. waits_for knobs (f r) w ≡ false) f rows
    (λ j e lt_e. grind (arith, like r, like (get_or rows j e), none j e lt_e))))

-- what must be true of the rows for the book to be sound with them
pub record AreSoundRows (b : BookState) (rows : List Row) : Type 0 where
  pub rows_rise : InPageOrder rows
  pub homes : All (λ r. r.home < b.shape.nodes) rows
  pub mergeable : All IsMergeableSo rows
  pub zero : All IsZeroSo rows
  pub waiting : NoneWaitsTwice b.knobs rows
  pub items : All (HasDup b.knobs b.dups) rows
  pub limit : All (λ d. item_count rows d ≤ b.knobs.max_page_sharing) b.dups

-- a sound book stays sound where its rows are replaced by sound ones
pub sound_rows : (b : BookState) (rows : List Row) → IsSound b → AreSoundRows b rows → IsSound (record b { rows = rows })
sound_rows b rows s h = assumption

-- a sound book stays sound with any cursor, passes that fit and knobs in their ranges, where trees and limit stay
pub sound_settings : (b : BookState) (knobs : Knobs) (passes : ℕ) (cursor : Option GuestPage) → AreKnobs knobs
    → knobs.merge_across_nodes ≡ b.knobs.merge_across_nodes
    → knobs.max_page_sharing ≡ b.knobs.max_page_sharing
    → passes < 2 ^ 64 → IsSound b
    → IsSound (record b { knobs = knobs; cursor = cursor; passes = passes })
sound_settings b knobs passes cursor are_knobs across limit passes_fit s =
    let items : All (HasDup knobs b.dups) b.rows = λ k d lt number merged. let item = s.items k d lt number merged in (item.0, grind arith) in
    let waiting : NoneWaitsTwice knobs b.rows = λ k d lt waits. grind (arith, s.waiting k d lt waits) in
    let trees : All (λ d. knobs.merge_across_nodes ≡ 1 → d.tree ≡ 0) b.dups = λ k d lt one. s.trees k d lt (sym across ∙ one) in
    let most : All (λ d. item_count b.rows d ≤ knobs.max_page_sharing) b.dups = λ k d lt. grind (arith, limit, s.limit k d lt) in
    assumption

-- a calmer row: of the old row's page, and private, or else with the old row's home, bytes and state
pub record IsCalmer (old new : Row) : Type 0 where
  pub page : new.page ≡ old.page
  pub state : private_state new.state ≡ false → new.state ≡ old.state
  pub home : private_state new.state ≡ false → new.home ≡ old.home
  pub bytes : private_state new.state ≡ false → new.bytes ≡ old.bytes
  pub mergeable : private_state new.state ≡ false → old.mergeable ≡ true → new.mergeable ≡ true

-- a row that waits is not private
pub waiting_not_private : (state : PageState) → waiting_state state ≡ true → private_state state ≡ false
waiting_not_private state waits = grind arith

zero_not_private : (state : PageState) → zero_state state ≡ true → private_state state ≡ false
zero_not_private state is = grind arith

-- a calmer row waits only as the old row did
pub calmer_waits : (old new : Row) → IsCalmer old new → WaitsAs old new
calmer_waits old new c = grind (arith, waiting_not_private new.state)

merged_not_private : (number : ℕ) (state : PageState) → merged_into number state ≡ true → private_state state ≡ false
merged_not_private number state merged = grind arith

-- a sound book stays sound where rows become calmer, each with a home that there is
pub sound_calmed : (b : BookState) (f : Row → Row) → ((r : Row) → IsCalmer r (f r)) → All (λ r. (f r).home < b.shape.nodes) b.rows → IsSound b → IsSound (record b { rows = map f b.rows })
sound_calmed b f calmer homes s =
    let mapped = λ (P : Row → Type 0). All-map P f b.rows in
    sound_rows b (map f b.rows) s
    (record {
      rows_rise = ordered_map f b.rows (λ r. (calmer r).page) s.rows_rise;
      homes = mapped (λ r. r.home < b.shape.nodes) homes;
      mergeable = mapped IsMergeableSo (λ k d lt taken. grind (arith, calmer (get_or b.rows k d), s.mergeable k d lt));
      zero = mapped IsZeroSo (λ k d lt is. grind (arith, calmer (get_or b.rows k d), s.zero k d lt, zero_not_private));
      waiting = waiting_map b.knobs f b.rows (λ r. calmer_waits r (f r) (calmer r)) s.waiting;
      items = mapped (HasDup b.knobs b.dups)
          (λ k d lt number merged.
          let calm = calmer (get_or b.rows k d) in
          let item = s.items k d lt number (grind arith) in
          (item.0, grind arith));
      limit = λ k d lt.
          let number = (get_or b.dups k d).number in
          omega (arith, s.limit k d lt, count_map_le (λ r. merged_into number r.state) f b.rows (λ j e lt_e merged. grind (arith, calmer (get_or b.rows j e), merged_not_private number)));
    })

-- a sound book stays sound where rows go
pub sound_filtered : (b : BookState) (test : Row → Bool) → IsSound b → IsSound (record b { rows = filter test b.rows })
sound_filtered b test s =
    let kept = λ (P : Row → Type 0). All-filter test P b.rows in
    sound_rows b (filter test b.rows) s
    (record {
      rows_rise = AllPairs-filter (λ r t. comes_before r.page t.page ≡ true) test b.rows s.rows_rise;
      homes = kept (λ r. r.home < b.shape.nodes) s.homes;
      mergeable = kept IsMergeableSo s.mergeable;
      zero = kept IsZeroSo s.zero;
      waiting = kept (WaitsAlone b.knobs (filter test b.rows))
          (λ k d lt waits.
          let waits_so = waits_for b.knobs (get_or b.rows k d) in
          find_nothing waits_so (filter test b.rows) (All-filter test (λ w. waits_so w ≡ false) b.rows (find_none waits_so b.rows (s.waiting k d lt waits))));
      items = kept (HasDup b.knobs b.dups) s.items;
      limit = λ k d lt. omega (arith, s.limit k d lt, count_filter_le (λ r. merged_into (get_or b.dups k d).number r.state) test b.rows);
    })

-- a sound book stays sound where a private row comes
pub sound_with_row : (b : BookState) (row : Row) → row.state ≡ Private → row.home < b.shape.nodes → IsSound b → IsSound (record b { rows = with_row row b.rows })
sound_with_row b row is_private home s =
    let among = λ (P : Row → Type 0). all_with_row P row b.rows in
    sound_rows b (with_row row b.rows) s
    (record {
      rows_rise = ordered_with row b.rows s.rows_rise;
      homes = among (λ r. r.home < b.shape.nodes) home s.homes;
      mergeable = among IsMergeableSo (λ taken. grind arith) s.mergeable;
      zero = among IsZeroSo (λ is. grind arith) s.zero;
      waiting =
          among (WaitsAlone b.knobs (with_row row b.rows)) (λ waits. grind arith)
          (λ k d lt waits.
          let waits_so = waits_for b.knobs (get_or b.rows k d) in
          find_nothing waits_so (with_row row b.rows) (all_with_row (λ w. waits_so w ≡ false) row b.rows (grind arith) (find_none waits_so b.rows (s.waiting k d lt waits))));
      items = among (HasDup b.knobs b.dups) (λ number merged. absurd (grind arith)) s.items;
      limit = λ k d lt.
          let p : Row → Bool = λ r. merged_into (get_or b.dups k d).number r.state in
          let first : Row → Bool = λ r. comes_before r.page row.page in
          let last : Row → Bool = λ r. comes_before row.page r.page in
          let apart = count_filters_le p first last b.rows (λ j e lt_e. not_both (get_or b.rows j e).page row.page) in
          grind (arith, count-append p (filter first b.rows) (row ∷ filter last b.rows), count_more p row (filter last b.rows), s.limit k d lt);
    })

-- a merged row is an item of its dup
pub item_of_dup : (knobs : Knobs) (dups : List DupRow) (row : Row) (number : ℕ) (dup : DupRow)
    → row.state ≡ Merged number
    → IsDupOf knobs dups row number dup → merged_into dup.number row.state ≡ true
item_of_dup knobs dups row number dup merged h =
    grind (arith, nat_tests, find_passes (λ d. d.number == number) dups dup)

-- a dup into which a row is merged has items
pub dup_has_items : (rows : List Row) (dup : DupRow)
    → All (λ r. merged_into dup.number r.state ≡ true → has_items rows dup ≡ true) rows
dup_has_items rows dup k d lt merged =
    lt-ltb 0 (item_count rows dup) (counts_one (λ r. merged_into dup.number r.state) rows k d lt merged)

-- a sound book stays sound where its stale dups go
pub sound_without_stale : (b : BookState) → IsSound b → IsSound (without_stale b)
sound_without_stale b s =
    let live = has_items b.rows in
    let items : All (HasDup b.knobs (filter live b.dups)) b.rows = λ k d lt number merged.
    let item = s.items k d lt number merged in
    (item.0, grind (arith, find_filter (λ d. d.number == number) live b.dups item.0, dup_has_items b.rows item.0 k d lt, item_of_dup b.knobs b.dups (get_or b.rows k d) number item.0 merged)) in
    assumption (
      ordered_filter live b.dups s.dups_rise,
      All-filter live (λ d. d.number < b.next) b.dups s.numbers,
      All-filter live (λ d. b.knobs.merge_across_nodes ≡ 1 → d.tree ≡ 0) b.dups s.trees,
      All-filter live (λ d. item_count b.rows d ≤ b.knobs.max_page_sharing) b.dups s.limit,
    )

-- where the count of shared dups is 0, no dup has items
pub no_dup_lives : (b : BookState) → shared_count b.rows b.dups ≡ 0 → filter (has_items b.rows) b.dups ≡ []
no_dup_lives b none = filter_none (has_items b.rows) b.dups (none_counted (has_items b.rows) b.dups none)

-- a sound book stays sound where the rows that pass a test become calmer, with homes that there are
pub sound_changed : (b : BookState) (test : Row → Bool) (f : Row → Row) → ((r : Row) → IsCalmer r (f r)) → ((r : Row) → r.home < b.shape.nodes → (f r).home < b.shape.nodes) → IsSound b → IsSound (record b { rows = change_rows test f b.rows })
sound_changed b test f calmer home s =
    sound_calmed b (λ r. if test r then f r else r) (λ r. grind (arith, calmer r)) (λ k d lt. grind (arith, home (get_or b.rows k d), s.homes k d lt)) s
