use Rattle.ksm_shared.proofs.Rule.{begins}
use Rattle.ksm_shared.proofs.parts.Parts.open.Goals as goal

pub of_words-requires : goal.of_words-requires
of_words-requires c = begins
