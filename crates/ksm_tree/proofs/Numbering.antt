-- The order of contents: when it finds two of them equal, and the waiting pages, each under its content.
use Rattle.ksm_tree.proofs.Names.{[], arith, BTreeMap, bytes_eq, bytes_eq-Decides, Content, content_of, content_order, GuestPage, is_at, List, lookup, nat_cmp, Option, refl, Some, sym, true, Updates}
use Rattle.ksm_tree.proofs.Names.{ℕ, ◌&&◌, ◌==◌, ◌∷◌, ◌≡◌}
use Rattle.ksm_tree.specs.Waits.{IsSetTo, waiting_page, waiting_pages, WaitingPage}
use Rattle.std.specs.Cmp.{both_tied}
use Rattle.std.specs.Cmp.Lexicographic.{slice_cmp, texts_ties}
use Rattle.ksm_tree.proofs.Rows.{eq_bytes}

-- contents that the order finds equal have one tree and the same bytes
pub told_equal : (p q : Content) → is_at (content_order p) q ≡ (p.tree == q.tree && bytes_eq p.bytes q.bytes)
told_equal p q = sym (both_tied _ _ (nat_cmp p.tree q.tree) (slice_cmp nat_cmp p.bytes q.bytes) (grind arith) (texts_ties p.bytes q.bytes))

-- contents that the order does not tell apart are one
pub same_content : {p q : Content} → is_at (content_order p) q ≡ true → p ≡ q
same_content {p} {q} same = grind (arith, told_equal, (bytes_eq-Decides p.bytes q.bytes).0)

-- the page that waits in a tree with some bytes stands under their content
pub page_under : (t : ℕ) (b : List ℕ) (pages : List (Content × GuestPage)) → waiting_page t b (waiting_pages pages) ≡ lookup (is_at (content_order (content_of t b))) pages
page_under t b [] = refl
page_under t b (p ∷ pages) = grind (arith, page_under t b pages, told_equal (content_of t b) p.0, eq_bytes b p.0.bytes)

-- where one content comes to lead to a page, or to none, no other content does
pub page_set : (old new : BTreeMap Content GuestPage) (tree : ℕ) (bytes : List ℕ) (page : Option GuestPage) → Updates content_order old new (content_of tree bytes) page
    → IsSetTo tree bytes page (waiting_pages old.entries) (waiting_pages new.entries)
page_set old new tree bytes page updates t b =
    grind (arith, page_under, updates.0 (content_of t b), told_equal (content_of tree bytes) (content_of t b), eq_bytes b bytes)

-- where a page waits already, it is as if it were added
pub page_kept : (tree : ℕ) (bytes : List ℕ) (page : GuestPage) (waiting : List WaitingPage) → waiting_page tree bytes waiting ≡ Some page → IsSetTo tree bytes (Some page) waiting waiting
page_kept tree bytes page waiting is t b = grind (arith, bytes_eq-Decides)

-- what a content leads to says of the waiting pages
pub ruleset steps = (page_kept, page_set, page_under)
