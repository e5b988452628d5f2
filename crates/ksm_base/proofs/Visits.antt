-- Visits change rows one by one, and of a row nothing but its state and the flag that its bytes have stayed.
use Rattle.std.proofs.Common.{arith, ◌≡◌, ℕ, zero, suc, Bool, true, List, [], ◌∷◌, get_or, map, Option, Some, None, refl, sym}
use Rattle.std.specs.Prelude.{◌||◌, All, if◌then◌else◌}
use Rattle.std.proofs.lemmas.List.{map-id}
use Rattle.std.proofs.lemmas.List.Elements.{All-map}
use Rattle.std.proofs.lemmas.Simd.{map-map}
use Rattle.ksm_base.specs.declared.row.PageState.TheVariants.{Private, Waiting, Merged, Zero}
use Rattle.ksm_base.specs.declared.row.Row.{Row}
use Rattle.ksm_base.specs.declared.row.DupRow.{DupRow}
use Rattle.ksm_base.specs.Rows.{change_row, same_page, change_rows, settled}
use Rattle.ksm_base.specs.State.{BookState}
use Rattle.ksm_base.specs.Visit.{next_row, best_dup, partner, pass_ended_at_last, visit_begun, paired, stayed, handled, row_visited, visit_of, visits}

-- a row with another state or flag: page, home, bytes and mergeable are the same
pub record IsSameBut (old new : Row) : Type 0 where
  pub page : new.page ≡ old.page
  pub home : new.home ≡ old.home
  pub bytes : new.bytes ≡ old.bytes
  pub mergeable : new.mergeable ≡ old.mergeable

-- each row of the new ones comes of the old one that stood there
pub record IsRowwise (old new : List Row) : Type 0 where
  pub change : Row → Row
  pub keeps : (r : Row) → IsSameBut r (change r)
  pub rows : new ≡ map change old

none_changed : (rows : List Row) → IsRowwise rows rows
none_changed rows = record { change = λ r. r; keeps = λ r. grind arith; rows = sym (map-id rows) }

-- rows that pass a test get another state or flag
some_changed : (test : Row → Bool) (f : Row → Row) → ((r : Row) → IsSameBut r (f r)) → (rows : List Row)
    → IsRowwise rows (change_rows test f rows)
some_changed test f keeps rows =
    record { change = λ r. if test r then f r else r; keeps = λ r. grind (arith, keeps r); rows = refl }

-- rows that are changed one by one twice are changed one by one
pub and_then : (first second third : List Row) → IsRowwise first second → IsRowwise second third → IsRowwise first third
and_then first second third f g =
    record {
      change = λ r. g.change (f.change r);
      keeps = λ r. grind (arith, g.keeps (f.change r), f.keeps r);
      rows = grind (arith, map-map g.change f.change first);
    }

module _ (start : List Row) where
  -- rows that come so of those with which the visits began
  abbrev Comes : BookState → Type 0
  Comes b = IsRowwise start b.rows

  comes_ended : (b : BookState) → Comes b → Comes (pass_ended_at_last b)
  comes_ended b h = grind arith

  comes_begun : (b : BookState) → Comes b → Comes (visit_begun b)
  comes_begun b h =
      let e = pass_ended_at_last b in
      let settle : IsRowwise e.rows (map settled e.rows) = record { change = settled; keeps = λ r. grind arith; rows = refl } in
      grind (arith, and_then start e.rows (map settled e.rows) (comes_ended b h) settle, comes_ended b h)

  -- the row of a page, or those of two pages, get another state or flag
  comes_changed : (test : Row → Bool) (f : Row → Row) → ((r : Row) → IsSameBut r (f r)) → (b : BookState) → Comes b
      → IsRowwise start (change_rows test f b.rows)
  comes_changed test f keeps b h =
      and_then start b.rows (change_rows test f b.rows) h (some_changed test f keeps b.rows)

  comes_at : (b : BookState) (row : Row) (f : Row → Row) → ((r : Row) → IsSameBut r (f r)) → Comes b
      → IsRowwise start (change_row row.page f b.rows)
  comes_at b row f keeps h = comes_changed (λ r. same_page r.page row.page) f keeps b h

  comes_paired : (w : Option Row) (b : BookState) (row : Row) → Comes b → Comes (paired w b row)
  comes_paired (Some w) b row h =
      comes_changed (λ r. same_page r.page w.page || same_page r.page row.page) (λ r. record r { state = Merged b.next }) (λ r. grind arith) b h
  comes_paired None b row h = comes_at b row (λ r. record r { state = Waiting }) (λ r. grind arith) h

  comes_stayed : (b : BookState) (row : Row) → Comes b → Comes (stayed b row)
  comes_stayed b row h =
      grind (arith, comes_at b row (λ r. record r { state = Zero }) (λ r. grind arith) h, comes_paired (partner b.knobs b.rows row) b row h)

  comes_handled : (d : Option DupRow) (b : BookState) (row : Row) → Comes b → Comes (handled d b row)
  comes_handled (Some d) b row h = comes_at b row (λ r. record r { state = Merged d.number }) (λ r. grind arith) h
  comes_handled None b row h =
      grind (arith, comes_stayed b row h, comes_at b row (λ r. record r { unchanged = true; state = Private }) (λ r. grind arith) h)

  comes_row_visited : (b : BookState) (row : Row) → Comes b → Comes (row_visited b row)
  comes_row_visited b row h = grind (arith, comes_handled (best_dup b.knobs b.rows b.dups row) b row h)

  comes_visit_of : (b : BookState) (row : Option Row) → Comes b → Comes (visit_of b row)
  comes_visit_of b None h = h
  comes_visit_of b (Some row) h =
      comes_ended (record (row_visited b row) { cursor = Some row.page }) (comes_row_visited b row h)

  comes_visits : (n : ℕ) (b : BookState) → Comes b → Comes (visits n b)
  comes_visits zero b h = h
  comes_visits (suc n) b h =
      let begun = visit_begun (visits n b) in
      comes_visit_of begun (next_row begun.cursor begun.rows) (comes_begun (visits n b) (comes_visits n b h))

-- a visit that begins changes rows one by one
pub rowwise_begun : (b : BookState) → IsRowwise b.rows (visit_begun b).rows
rowwise_begun b = comes_begun b.rows b (none_changed b.rows)

-- visits change rows one by one
pub rowwise_visits : (n : ℕ) (b : BookState) → IsRowwise b.rows (visits n b).rows
rowwise_visits n b = comes_visits b.rows n b (none_changed b.rows)

-- what holds of each row, and is kept by a change of state and flag, holds of each row after such changes
pub rowwise_all : (P : Row → Type 0) → ((r s : Row) → IsSameBut r s → P r → P s) → (old new : List Row)
    → IsRowwise old new → All P old → All P new
rowwise_all P keeps old new h all =
    rw h.rows (All-map P h.change old (λ k d lt. keeps _ _ (h.keeps (get_or old k d)) (all k d lt)))

-- visits keep every flag by which pages are chosen to be visited
pub flags-visits : (n : ℕ) (b : BookState) → map (λ r. r.mergeable) (visits n b).rows ≡ map (λ r. r.mergeable) b.rows
flags-visits n b =
    let h = rowwise_visits n b in
    grind (arith, map-map (λ (r : Row). r.mergeable) h.change b.rows, go h.change h.keeps b.rows)
  where
    go : (f : Row → Row) → ((r : Row) → IsSameBut r (f r)) → (rows : List Row)
        → map (λ r. (f r).mergeable) rows ≡ map (λ r. r.mergeable) rows
    go f keeps [] = refl
    go f keeps (r ∷ rs) = grind (arith, keeps r, go f keeps rs)
