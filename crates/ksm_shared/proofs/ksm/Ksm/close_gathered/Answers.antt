use Rattle.std.proofs.Common.{◌∙◌, sym}
use Rattle.ksm_shared.proofs.ksm.Ksm.close_gathered.Goals as goal

pub close-requires-2-clause-passes : goal.close-requires-2-clause-passes
close-requires-2-clause-passes g c k d within = c.requires.passes k d within ∙ sym c.self.invariant
