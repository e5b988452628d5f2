use Rattle.std.proofs.Common.{ap, rules}
use Rattle.ksm_journal.specs.Coding.{KeptView}
use Rattle.ksm_journal.proofs.Entries.{adds_beside, adds_whole, inside_beside}
use Rattle.ksm_journal.proofs.kept.KeptEntries.add_long.Goals as goal

pub invariant_of-self : goal.invariant_of-self
invariant_of-self c = (search rules, inside_beside _ _ _ _ _ _ c.self.invariant.1 c.push_reserved-in-Some.ensures.items (search rules) (search rules) (search rules) (search rules))

pub returns-in-Some : goal.returns-in-Some
returns-in-Some c =
    adds_beside _ _ _ _ _ _ _ _ _ _ _ _ _ c.self.invariant.0 c.self.invariant.1 (ap (λ (v : KeptView). v.entries) c.self.view_is) c.push_reserved.ensures.items
    c.push_reserved-in-Some.ensures.items c.push_reserved-in-Some-2.ensures.items (search rules) (search rules) (search rules) (search rules) (search rules)

pub returns-in_default : goal.returns-in_default
returns-in_default c =
    adds_whole _ _ _ _ _ _ _ _ _ _ _ c.self.invariant.0 c.self.invariant.1 (ap (λ (v : KeptView). v.entries) c.self.view_is) c.push_reserved-in_default.ensures.items
    c.push_reserved-in_default-2.ensures.items c.push_reserved-in_default-3.ensures.items (search rules) (search rules)
