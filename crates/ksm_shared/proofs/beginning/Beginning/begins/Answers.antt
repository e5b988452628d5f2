use Rattle.std.proofs.Common.{◌≡◌, ◌<◌, ℕ, List, length, ap, refl, subst}
use Rattle.std.specs.Prelude.{MatchBool}
use mathlib.Core.List.{IsPrefix}
use lib.Dec.{leb}
use Rattle.ksm_base.specs.Journal.{Entry}
use Rattle.ksm_shared.specs.declared.beginning.Link.{Link}
use Rattle.ksm_shared.specs.Chained.{linked}
use Rattle.ksm_shared.proofs.Beginnings.{compared}
use Rattle.ksm_shared.proofs.Chain.{linked_length, linked_prefix}
use Rattle.ksm_shared.proofs.beginning.Beginning.begins.Goals as goal

pub returns : goal.returns
returns c =
    let both = c.learn.new.self.log in
    let mine = c.self.inside in
    let theirs = c.other.inside in
    let this : IsPrefix mine.seen.log both = subst (λ (l : List Link). IsPrefix l both) (ap (λ s. s.log) c.again-both.ensures) c.learn.ensures.2 in
    let long : (links : List Link) (n : ℕ) → n ≡ length links → n ≡ length (linked links) = λ links n is. rw (linked_length links) is in
    let one = compared _ _ (linked both) mine.count theirs.count (long _ _ c.self.invariant) (long _ _ c.other.invariant) (linked_prefix _ _ this) (linked_prefix _ _ c.learn.ensures.3) (leb mine.count theirs.count) refl in
    subst (λ (p : List Entry × List Entry). MatchBool (leb mine.count theirs.count) (IsPrefix p.0 p.1) (IsPrefix p.1 p.0 × (length p.1 < length p.0))) (λ i. ((c.self.view_is i).journal, (c.other.view_is i).journal)) one
