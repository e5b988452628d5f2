use Rattle.ksm_pages.proofs.Names.{AreLed, arith, FnOnceReturnsAtMut, inl, inr, is_restless, IsAddedTo, IsMade, IsRows, Listing, marked, refl, rules, true, with_value, ◌≡◌, ◌⊎◌}
use Rattle.ksm_pages.proofs.Writing.{can_be, kept_mark, still_led, viewed}
use Rattle.ksm_pages.proofs.Filing.{view_of}
use Rattle.ksm_pages.proofs.rows.Rows.change.Goals as goal
use Rattle.ksm_pages.proofs.rows.Rows.change.Goals.{After-len-rows, else-is-was, then-is-was}

pub follow-requires : goal.follow-requires
follow-requires g c = search (rules, can_be c.self.inside c.self.invariant.0 c.in-Some.ensures.there)

-- the entry is made anew, its page marked as it says, and its state counted
told : (g : _) (c : After-len-rows g) → c.if-is-was.self-inside ≡ record c.self.inside {
  entries = with_value c.self.inside.entries c.in-Some.key c.make.new.arg2;
  order = marked c.args.spot.page c.make.new.arg2.mergeable c.self.inside.order;
  tally = c.follow.new.self;
}
told g c = elim c.if-is-was.branch [
  | then-is-was w ↦ grind (arith, w.self-inside-is, w.mark.ensures)
  | else-is-was w ↦
      grind (arith, w.self-inside-is, kept_mark c.self.inside c.self.invariant.0 c.in-Some.ensures.there c.index_mut-entry.ensures.value)
]

made : (g : _) (c : After-len-rows g)
    → FnOnceReturnsAtMut g.F.FnOnce c.args.make c.index_mut-entry.result.now tt c.make.new.arg2
made g c = record { shown = _; shows = refl; left = _; met = c.make.ensures; leaves = refl }

lawful : (g : _) (c : After-len-rows g) {now : Listing}
    → IsAddedTo c.args.spot.page c.self.inside.restless now
    ⊎ ((now ≡ c.self.inside.restless)
    × (is_restless c.make.new.arg2 ≡ true → is_restless c.index_mut-entry.result.now ≡ true))
    → let s = c.if-is-was.self-inside in IsRows s.entries s.order now s.tally s.pass × AreLed s.by_node s.entries s.unstable
lawful g c either =
    let kept = c.requires.kept _ _ (made g c) in
    rw (told g c)
    (still_led c.self.inside c.self.invariant.0 c.in-Some.ensures.there c.index_mut-entry.ensures.value c.self.view_is _ refl (kept.0, kept.1)
    c.self.invariant.1 kept.2 refl refl c.follow.ensures either)

pub invariant_of-self : goal.invariant_of-self
invariant_of-self g c =
    let l = (goal.at.invariant_of-self g c).After-len-rows in lawful g l (inl (rw (told g l) at c.add.ensures))

pub invariant_of-self-else-not-listed : goal.invariant_of-self-else-not-listed
invariant_of-self-else-not-listed g c =
    let l = (goal.at.invariant_of-self-else-not-listed g c).After-len-rows in
    lawful g l (inr ((λ i. (told g l i).restless), λ may. grind arith))

-- the rows are seen so, whatever is listed
seen : (g : _) (c : After-len-rows g)
    → IsMade (λ old new. FnOnceReturnsAtMut g.F.FnOnce c.args.make old tt new) c.args.spot.page c.args.self.now
    (view_of c.if-is-was.self-inside)
seen g c f is =
    rw (told g c)
    (viewed c.self.inside c.self.invariant.0 c.in-Some.ensures.there c.index_mut-entry.ensures.value c.self.view_is _ refl
    (let kept = c.requires.kept _ _ (made g c) in (kept.0, kept.1)) f (is _ _ (made g c)))

pub returns-then-not-listed-clause-made : goal.returns-then-not-listed-clause-made
returns-then-not-listed-clause-made g c = seen g (goal.at.returns-then-not-listed-clause-made g c).After-len-rows

pub returns-else-not-listed-clause-made : goal.returns-else-not-listed-clause-made
returns-else-not-listed-clause-made g c = seen g (goal.at.returns-else-not-listed-clause-made g c).After-len-rows
