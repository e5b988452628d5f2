use Rattle.ksm_pages.proofs.Names.{ap, AreDups, arith, Frames, Inside, length, list_any, PagesValue, rules, seen, sym, true, ℕ, ◌<◌, ◌==◌, ◌∙◌, ◌≡◌}
use Rattle.ksm_pages.proofs.Leaving.{AreLawful, view_of}
use Rattle.ksm_pages.proofs.Dropping.{any_below, items_moved}
use Rattle.ksm_pages.proofs.pages.Pages.set_dup_frame.Goals as goal

-- a dup has a frame at its place
inside : (s : Inside) (p : PagesValue) → view_of s ≡ p → AreLawful s → AreDups s.dups → (place : ℕ)
    → list_any (λ d. d.place == place) p.dups ≡ true → place < length s.frames.items
inside s p seen_as are lawful place there =
    rw (← are.places ∙ sym are.room) (any_below _ _ _ lawful.places_below
    (grind arith))

pub index_mut-requires : goal.index_mut-requires
index_mut-requires c =
    omega (arith, inside c.self.inside _ c.self.view_is c.self.invariant c.at.ensures.lawful _ c.requires, c.self.inside.frames.ok.0)

pub returns : goal.returns
returns c =
    let s = c.self.inside in
    let fits = inside s _ c.self.view_is c.self.invariant c.at.ensures.lawful _ c.requires in
    rw (← c.self.view_is) (λ k d lt at. ap (λ (f : Frames). record (seen (view_of s)) { frame = f })
    (search (rules, items_moved)))
