use Rattle.std.proofs.Common.{ap, rules}
use Rattle.ksm_journal.specs.Coding.{KeptView}
use Rattle.ksm_journal.proofs.Entries.{adds_short, inside_short}
use Rattle.ksm_journal.proofs.kept.KeptEntries.add.Goals as goal

pub invariant_of-self : goal.invariant_of-self
invariant_of-self c = (search rules, inside_short _ _ _ _ _ c.self.invariant.1 c.push_reserved.ensures.items (search rules))

pub returns : goal.returns
returns c =
    adds_short _ _ _ _ _ _ _ _ _ _ _ c.self.invariant.0 (ap (λ (v : KeptView). v.entries) c.self.view_is) c.push_reserved.ensures.items c.push_reserved-2.ensures.items
    (search rules) (search rules) (search rules)
