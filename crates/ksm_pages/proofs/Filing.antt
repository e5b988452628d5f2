-- Entries under keys and the order of their pages: what is found there, and what entries leave that come, go or change.
use Rattle.ksm_pages.proofs.Names.{[], All, All-filter, All-map, ap, ap₂, AreAscending, AreFiled, arith, Bool, CalledAt, change_held, comes_before, count_by, count_mapped, count_none, Entry, false}
use Rattle.ksm_pages.proofs.Names.{Fills, filter, filter_mapped, filter_passes, find, find_all, find_mapped, find_passes, forgotten, get, get_or, get_or-map, GuestPage, Held, held_at, held_in}
use Rattle.ksm_pages.proofs.Names.{held_of, held_under, holds, if◌then◌else◌, InPageOrder, is_of, IsRows, IsTally, IsUnder, key_in, List, Listing, map, map-append, map_alike, map_fixed, map_mapped}
use Rattle.ksm_pages.proofs.Names.{marked, mergeable_pages, merged_state, MutBor, Named, named_of, None, not, Not, on_row, Option, option_map, out_of_tree, PageState, pairs_mapped, refl, RetainsFrom}
use Rattle.ksm_pages.proofs.Names.{Row, rows_of, RowsView, rules, same_page, same_page_eq, same_page_refl, same_Some, settled, settled_state, Slab, Some, sym, Tally, true, visited, waiting_state}
use Rattle.ksm_pages.proofs.Names.{with_held, with_named, without_held, without_named, zero_state, ℕ, ◌+◌, ◌==◌, ◌∙◌, ◌∷◌, ◌≡◌, ◌≢◌, ◌≤◌}
use Rattle.ksm_pages.proofs.Options.{mapped_some, none_mapped}
use Rattle.ksm_pages.specs.declared.rows.Rows.TheInside.{Inside}
use Rattle.ksm_pages.proofs.Found.{each_found, find_change, find_gone, find_gone_other, find_put, find_put_other}
use Rattle.ksm_pages.specs.declared.row.Kind.TheVariants as kinds

abbrev pub page_of : Named → GuestPage
page_of n = n.page

-- the row that a slab has under the key of a name
abbrev pub held_by : ℕ → Slab Entry → Named → Held
held_by pass slab n = held_under pass (get slab n.key)

-- numbers that are told apart differ
pub differ_by : {m n : ℕ} → (m == n) ≡ false → m ≢ n
differ_by told same = grind arith

-- a name of the order says what the entry under the name's key says
abbrev pub Stands : Slab Entry → Named → Type 0
Stands slab n = option_map (named_of n.key) (get slab n.key) ≡ Some n

-- where a name says what stands under its key, an entry of the name's page stands under that key
pub under_named : (slab : Slab Entry) (n : Named) → Stands slab n → IsUnder slab n.page n.key
under_named slab n told = search rules

-- the row under a key is of the page that the order names
pub page_under : (pass : ℕ) (slab : Slab Entry) {n : Named} → Stands slab n → (held_under pass (get slab n.key)).row.page ≡ n.page
page_under pass slab told = grind arith

-- what holds of the entry that a slab was given, and of all others that stood, holds of all that stand now
pub all_filled : {slab later : Slab Entry} {key : ℕ} {e : Entry} → Fills slab later key (Some e) → {P : ℕ → Entry → Type 0} → P key e
    → ((k : ℕ) (f : Entry) → get slab k ≡ Some f → k ≢ key → P k f) → (k : ℕ) (f : Entry) → get later k ≡ Some f → P k f
all_filled {slab} {later} {key} {e} fills {P} new others k f stands = grind (arith, differ_by)

module _ (slab : Slab Entry) (order : List Named) (filed : AreFiled slab order) where
  -- an entry that stands under a key is found in the order, by its page, under that key
  pub named_under : (key : ℕ) (e : Entry) → get slab key ≡ Some e → find (is_of e.page) order ≡ Some (named_of key e)
  named_under key e stands = (filed (named_of key e)).1 (grind arith)

  -- entries of one page stand under one key
  pub one_key : {k l : ℕ} {e f : Entry} → get slab k ≡ Some e → get slab l ≡ Some f → e.page ≡ f.page → k ≡ l
  one_key first second same =
      ap (λ (n : Named). n.key) (same_Some _ _ (sym (named_under _ _ first) ∙ ap (λ p. find (is_of p) order) same ∙ named_under _ _ second))

  -- the entry of a page stands under the page's key
  pub under : {page : GuestPage} {key : ℕ} → key_in order page ≡ Some key → IsUnder slab page key
  under {page} told =
      let at = mapped_some _ _ told in
      let of_it = same_page_eq _ _ (find_passes (is_of page) order _ at.1) in
      let u = under_named slab _ ((filed at.0).0 (ap (λ p. find (is_of p) order) of_it ∙ at.1)) in
      grind arith

module _ (slab : Slab Entry) (order : List Named) (rise : AreAscending order) (filed : AreFiled slab order) where
  -- each page that the order names stands under its key
  pub all_stand : All (Stands slab) order
  all_stand k d lt = (filed (get_or order k d)).0 (each_found page_of _ rise k d lt)

  module _ (pass : ℕ) where
    -- what is held of a page is what stands under the key that the order names for the page
    pub held_found : (page : GuestPage) → held_at page (held_in pass slab order) ≡ option_map (held_by pass slab) (find (is_of page) order)
    held_found page = grind (arith, find_mapped, page_under, all_stand)

  module _ {key : ℕ} {e : Entry} (stood : get slab key ≡ Some e) where
    -- under another key stands an entry of another page
    pub elsewhere : {k : ℕ} {f : Entry} → get slab k ≡ Some f → k ≢ key → same_page f.page e.page ≡ false
    elsewhere {k} {f} stands apart = grind (arith, one_key slab order filed stands stood, same_page_eq f.page e.page)

    module _ {later : Slab Entry} {e' : Entry} (fills : Fills slab later key (Some e')) (same : e'.page ≡ e.page) where
      -- where one entry is written anew, the row of its page is changed, and no other
      pub written : (pass : ℕ) (f : Held → Held) → held_of pass e' ≡ f (held_of pass e) → held_in pass later order ≡ change_held e.page f (held_in pass slab order)
      written pass f is =
          grind (arith, map_mapped, all_stand, same_page_refl, differ_by, page_under, under_named, elsewhere)

      abbrev mark : Named → Named
      mark n = if is_of e.page n then record n { mergeable = e'.mergeable } else n

      -- where one entry is written anew and its page marked with its flag, pages are named as their entries say
      pub filed_marked : AreFiled later (marked e.page e'.mergeable order)
      filed_marked n = grind (arith, find_change page_of e.page (λ m. record m { mergeable = e'.mergeable }) (λ m. refl) n.page order, elsewhere, named_under, same_page_eq)

      -- where the flag stays, the order says so already
      pub unmarked : e'.mergeable ≡ e.mergeable → order ≡ marked e.page e'.mergeable order
      unmarked flag =
          sym (map_fixed mark order (λ k d lt. grind (
            arith,
            flag,
            each_found page_of _ rise k d lt,
            named_under slab order filed key e stood,
            same_page_eq (get_or order k d).page e.page,
          )))

    module _ {later : Slab Entry} (fills : Fills slab later key None) where
      -- the other pages stand under other keys
      away : All (λ n. Stands slab n × (n.key ≢ key)) (without_named e.page order)
      away k d lt =
          let stands = All-filter _ (Stands slab) _ all_stand k d lt in
          let passes = filter_passes _ order k d lt in
          grind (arith, same_page_refl)

      -- where one entry is gone with the name of its page, the row of that page is gone, and no other
      pub taken : (pass : ℕ) → held_in pass later (without_named e.page order) ≡ without_held e.page (held_in pass slab order)
      taken pass =
          map_alike _ _ _ (λ k d lt. ap (held_under pass) (fills.others (get_or (without_named e.page order) k d).key (away k d lt).1))
          ∙ sym (filter_mapped _ _ _ _ (λ k d lt. ap (λ p. not (same_page p e.page)) (page_under _ slab (all_stand k d lt))))

      -- where one entry is gone with the name of its page, the other pages are named as their entries say
      pub filed_taken : AreFiled later (without_named e.page order)
      filed_taken n = grind (
        arith,
        differ_by,
        fills.others n.key,
        stood,
        elsewhere,
        find_gone page_of e.page order,
        find_gone_other page_of e.page n.page order,
        same_page_eq,
      )

  module _ {key : ℕ} {e : Entry} {later : Slab Entry} (vacant : get slab key ≡ None) (absent : find (is_of e.page) order ≡ None) (fills : Fills slab later key (Some e)) where
    -- no page that the order names stands under the new key
    taken_key : {n : Named} → Stands slab n → n.key ≢ key
    taken_key stands at = grind arith

    -- where an entry came under a vacant key with a name, the rows have its row at the place of its page
    pub put : (pass : ℕ) → held_in pass later (with_named (named_of key e) order) ≡ with_held (held_of pass e) (held_in pass slab order)
    put pass = grind (
      arith,
      map-append,
      fills.changed,
      part (λ page. comes_before page e.page),
      part (comes_before e.page),
    )
      where
        part : (test : GuestPage → Bool) → map (held_by pass later) (filter (λ n. test n.page) order) ≡ filter (λ h. test h.row.page) (held_in pass slab order)
        part test =
            map_alike (held_by pass later) (held_by pass slab) (filter (λ n. test n.page) order)
            (λ k d lt. ap (held_under pass) (fills.others _ (taken_key (All-filter (λ n. test n.page) (Stands slab) order all_stand k d lt))))
            ∙ sym (filter_mapped (held_by pass slab) (λ h. test h.row.page) (λ n. test n.page) order (λ k d lt. ap test (page_under pass slab (all_stand k d lt))))

    -- where an entry came under a vacant key with a name, all pages are named as their entries say
    pub filed_put : AreFiled later (with_named (named_of key e) order)
    filed_put n = grind (
      arith,
      differ_by,
      fills.others n.key,
      taken_key,
      find_put page_of e.page (named_of key e) order,
      find_put_other page_of e.page n.page (named_of key e) order,
      same_page_eq,
    )

-- what is seen of entries in an order, in a pass, where each node has a tree or not
abbrev pub view : Bool → ℕ → Slab Entry → List Named → RowsView
view by_node pass entries order = record { held = held_in pass entries order; pass = pass; by_node = by_node }

-- what is seen of the rows inside
abbrev pub view_of : Inside → RowsView
view_of s = view s.by_node s.pass s.entries s.order

-- what is held of the rows inside
abbrev pub all_held : Inside → List Held
all_held s = held_in s.pass s.entries s.order

-- the rows inside are lawful
abbrev pub AreRows : Inside → Type 0
AreRows s = IsRows s.entries s.order s.restless s.tally s.pass

module _ (s : Inside) (are : AreRows s) where
  abbrev row_by : Named → Row
  row_by n = (held_under s.pass (get s.entries n.key)).row

  all_pages : All (λ n. (row_by n).page ≡ n.page) s.order
  all_pages k d lt = page_under s.pass s.entries (all_stand s.entries s.order are.ascending are.filed k d lt)

  all_flags : All (λ n. (row_by n).mergeable ≡ n.mergeable) s.order
  all_flags k d lt = grind (arith, all_stand s.entries s.order are.ascending are.filed k d lt)

  -- the rows, one for each page of the order
  rows_by : rows_of (all_held s) ≡ map row_by s.order
  rows_by = map_mapped _ _ _ _ (λ k d lt. refl)

  -- the rows are in the order of their pages
  pub rows_rise : InPageOrder (rows_of (all_held s))
  rows_rise = rw rows_by (pairs_mapped (λ m n. comes_before m.page n.page ≡ true) (λ r t. comes_before r.page t.page ≡ true)
      (λ n. (row_by n).page ≡ n.page) row_by (λ m n p q less. ap₂ comes_before p q ∙ less) s.order all_pages are.ascending)

  -- an entry is found as the row of its page
  pub row_found : (key : ℕ) (e : Entry) → get s.entries key ≡ Some e → held_at e.page (all_held s) ≡ Some (held_of s.pass e)
  row_found key e stands = grind (arith, held_found, named_under)

  -- a page that has no key in the order has no row
  pub held_nowhere : (page : GuestPage) → None ≡ key_in s.order page → held_at page (all_held s) ≡ None
  held_nowhere page told = search (rules, held_found s.entries _ are.ascending are.filed s.pass page, none_mapped)

  -- what holds of the row of each entry holds of all rows
  pub rows_all : (P : Held → Type 0) → ((key : ℕ) (e : Entry) → get s.entries key ≡ Some e → P (held_of s.pass e)) → All P (all_held s)
  rows_all P each = All-map P _ s.order (λ k d lt.
      let u = under_named s.entries _ (all_stand s.entries _ are.ascending are.filed k d lt) in
      rw u.stands (each _ u.entry u.stands))

  -- the first page that passes a test is the same in the rows and in the order
  pub page_found : (test : GuestPage → Bool)
      → option_map (λ r. r.page) (find (λ r. test r.page) (rows_of (all_held s))) ≡ option_map page_of (find (λ n. test n.page) s.order)
  page_found test =
      let same : (n : Named) → find (λ m. test m.page) s.order ≡ Some n → (row_by n).page ≡ n.page =
      λ n is. find_all _ (λ m. (row_by m).page ≡ m.page) _ n is all_pages in
      grind (arith, rows_by, find_mapped row_by (λ r. test r.page) (λ n. test n.page) s.order (λ k d lt. ap test (all_pages k d lt)), same)

  -- as many rows are mergeable as pages are named so in the order
  pub flags_counted : count_by (λ r. r.mergeable) (rows_of (all_held s)) ≡ count_by (λ n. n.mergeable) s.order
  flags_counted = grind (arith, rows_by, count_mapped, all_flags)

  -- the pages that a scan visits are the same in the rows and in the order
  pub pages_by : mergeable_pages (rows_of (all_held s)) ≡ visited s.order
  pages_by =
      ap mergeable_pages rows_by
      ∙ ap (map (λ (r : Row). r.page)) (filter_mapped _ _ _ _ all_flags)
      ∙ map_mapped _ _ _ _ (All-filter _ (λ n. (row_by n).page ≡ n.page) _ all_pages)

-- each call of a retain keeps its entry and changes it by g
module _ {F : Type 0} (step : F → ℕ → MutBor Entry → Bool → MutBor Entry → F → Type 0) (g : Entry → Entry)
    (says : (f : F) (k : ℕ) (old : Entry) (keep : Bool) (new : Entry) (next : F) → CalledAt step f k old keep new next → (keep ≡ true) × (new ≡ g old)) where
  retained_all : (f : F) (key : ℕ) (slots kept : List (Option Entry)) → RetainsFrom step f key slots kept → kept ≡ map (option_map g) slots
  retained_all f key [] kept r = r
  retained_all f key (None ∷ rest) kept (later, is, r) = grind (arith, is, retained_all f (key + 1) rest later r)
  retained_all f key (Some old ∷ rest) kept (keep, new, next, called, later, is, r) =
      grind (arith, is, says f key old keep new next called, retained_all next (key + 1) rest later r)

  -- so each entry is changed by g
  pub retained_each : (f : F) (slab later : Slab Entry) → RetainsFrom step f 0 slab.slots later.slots → (k : ℕ) → get later k ≡ option_map g (get slab k)
  retained_each f slab later r k =
      ap (λ xs. get_or xs k None) (retained_all f 0 slab.slots later.slots r) ∙ get_or-map (option_map g) slab.slots k None

-- rows whose states are read alike before and after a change are counted alike
counts_alike : (f : Held → Held) (p q : PageState → Bool) → ((h : Held) → p (f h).row.state ≡ q h.row.state) → (held : List Held)
    → count_by (λ r. p r.state) (rows_of (map f held)) ≡ count_by (λ r. q r.state) (rows_of held)
counts_alike f p q same held =
    ap (count_by (λ r. p r.state)) (map_mapped (λ (h : Held). h.row) f (λ (h : Held). (f h).row) held (λ k d lt. refl))
    ∙ count_mapped (λ (h : Held). (f h).row) (λ r. p r.state) (λ h. q h.row.state) _ (λ k d lt. same (get_or held k d))
    ∙ sym (grind (arith, count_mapped))

-- the tally of rows of which none waits any more
tally_settled : (f : Held → Held) → ((h : Held) → (f h).row.state ≡ settled_state h.row.state) → (held : List Held) {tally : Tally}
    → IsTally (rows_of held) tally → IsTally (rows_of (map f held)) (record tally { waiting = 0 })
tally_settled f is held are = record {
  merged = are.merged ∙ sym (counts_alike f merged_state merged_state (λ h. grind (arith, is h)) held);
  waiting = sym (counts_alike f waiting_state (λ s. false) (λ h. grind (arith, is h)) held
      ∙ count_none (λ r. false) (rows_of held) (λ k d lt. refl));
  zero = are.zero ∙ sym (counts_alike f zero_state zero_state (λ h. grind (arith, is h)) held);
}

-- entries in an order are lawful rows, with a list, a tally and a pass, and are seen as these
pub record AreSeen (slab : Slab Entry) (order : List Named) (restless : Listing) (tally : Tally) (pass : ℕ) (these : List Held) : Type 0 where
  pub rows : IsRows slab order restless tally pass
  pub seen : held_in pass slab order ≡ these

-- an entry that is not unchanged
abbrev pub plain : Entry → Entry
plain e = record e { unchanged = false }

-- an entry to which the unstable tree does not lead
abbrev pub out : Entry → Entry
out e = record e { in_tree = Not }

module _ {slab : Slab Entry} {order : List Named} {restless : Listing} {tally : Tally} {pass : ℕ} (are : IsRows slab order restless tally pass) where
  abbrev held : List Held
  held = held_in pass slab order

  module _ (later : Slab Entry) (after : ℕ) (g : Entry → Entry) (all : (k : ℕ) → get later k ≡ option_map g (get slab k))
      (same : (e : Entry) → ((g e).page ≡ e.page) × ((g e).mergeable ≡ e.mergeable) × ((g e).kind ≡ e.kind)) where
    all_from : (P : Entry → Type 0) → ((k : ℕ) (e : Entry) → get slab k ≡ Some e → P (g e)) → (k : ℕ) (e : Entry) → get later k ≡ Some e → P e
    all_from P holds k e stands = grind (arith, mapped_some, all k)

    -- once each entry is changed, but for its page, flag and kind, so that its row is changed by f, all rows are
    all_seen : (f : Held → Held) → ((k : ℕ) (e : Entry) → get slab k ≡ Some e → held_of after (g e) ≡ f (held_of pass e))
        → ((k : ℕ) (e : Entry) → get slab k ≡ Some e → (g e).kind ≡ kinds.Own → (g e).number ≤ after) → 1 ≤ after
        → {new : Tally} → IsTally (rows_of (map f held)) new → AreSeen later order restless new after (map f held)
    all_seen f is fits counting tallied =
        let seen : held_in after later order ≡ map f held = search (rules, map_mapped, all_stand, all) in
        record {
          rows = record {
            ascending = are.ascending;
            filed = λ n. search (rules, all, same);
            listed = λ known. search (rules, all_from, all, same);
            counted = rw seen tallied;
            begun = all_from _ fits;
            counting = counting;
          };
          seen = seen;
        }

  -- in the next pass no row waits
  pub next : AreSeen slab order restless (record tally { waiting = 0 }) (pass + 1) (map (on_row settled) held)
  next =
      all_seen slab (pass + 1) (λ e. e) (λ k. grind arith) (λ e. (refl, refl, refl)) (on_row settled) (λ k e stands. grind arith)
      (λ k e stands own. grind arith) (omega arith) (tally_settled (on_row settled) (λ h. refl) _ are.counted)

  module _ (later : Slab Entry) where
    -- nor in pass 1, once each entry forgot its pass
    pub anew : ((k : ℕ) → get later k ≡ option_map forgotten (get slab k))
        → AreSeen later order restless (record tally { waiting = 0 }) 1 (map (on_row settled) held)
    anew slots =
        all_seen later 1 forgotten slots (λ e. (refl, refl, refl)) (on_row settled) (λ k e stands. grind arith)
        (λ k e stands own. grind arith) (omega arith) (tally_settled (on_row settled) (λ h. refl) _ are.counted)

    -- once no entry is unchanged any more, each row is seen as not unchanged, and else as it was
    pub plain_seen : ((k : ℕ) → get later k ≡ option_map plain (get slab k))
        → AreSeen later order restless tally pass (map (on_row (λ r. record r { unchanged = false })) held)
    plain_seen slots =
        all_seen later pass plain slots (λ e. (refl, refl, refl)) (on_row (λ r. record r { unchanged = false })) (λ k e stands. refl)
        are.begun are.counting (record {
          merged = are.counted.merged ∙ sym (counts_alike _ merged_state merged_state (λ h. refl) held);
          waiting = are.counted.waiting ∙ sym (counts_alike _ waiting_state waiting_state (λ h. refl) held);
          zero = are.counted.zero ∙ sym (counts_alike _ zero_state zero_state (λ h. refl) held);
        })

    -- once the unstable tree leads to no entry, each row is seen so, and waits no more
    pub out_seen : ((k : ℕ) → get later k ≡ option_map out (get slab k))
        → AreSeen later order restless (record tally { waiting = 0 }) pass (map out_of_tree held)
    out_seen slots =
        all_seen later pass out slots (λ e. (refl, refl, refl)) out_of_tree (λ k e stands. grind arith)
        are.begun are.counting (tally_settled out_of_tree (λ h. refl) _ are.counted)
