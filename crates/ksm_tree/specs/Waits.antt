-- Waiting pages, by tree and bytes (mm/ksm: the unstable tree; that one page waits for each content is own).
use Rattle.std.specs.Prelude.{bytes_eq, find, if◌then◌else◌, List, map, Option, option_map, ℕ, ◌&&◌, ◌==◌, ◌≡◌}
use Rattle.ksm_tree.specs.Terms.{Content, GuestPage}

-- a page that waits for an equal one
pub record WaitingPage : Type 0 where
  pub tree : ℕ
  pub bytes : List ℕ
  pub page : GuestPage

-- contents, each with the page that waits for an equal one
abbrev pub waiting_pages : List (Content × GuestPage) → List WaitingPage
waiting_pages pages = map (λ p. record { tree = p.0.tree; bytes = p.0.bytes; page = p.1 }) pages

-- the page that waits in a tree with these bytes
abbrev pub waiting_page : ℕ → List ℕ → List WaitingPage → Option GuestPage
waiting_page tree bytes waiting =
    option_map (λ w. w.page) (find (λ w. w.tree == tree && bytes_eq w.bytes bytes) waiting)

-- the new waiting pages are the old ones, but for what waits in a tree with these bytes: a page, or none
abbrev pub IsSetTo : ℕ → List ℕ → Option GuestPage → List WaitingPage → List WaitingPage → Type 0
IsSetTo tree bytes page old new = (t : ℕ) (b : List ℕ)
    → waiting_page t b new ≡ (if t == tree && bytes_eq b bytes then page else waiting_page t b old)
