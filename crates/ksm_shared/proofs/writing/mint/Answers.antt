use Rattle.std.proofs.Common.{ap}
use Rattle.ksm_shared.proofs.Rule.{mints}
use Rattle.ksm_shared.proofs.writing.mint.Goals as goal

pub split_seat-requires : goal.split_seat-requires
split_seat-requires c = (c.requires.table.0, c.requires.table.1, mints _ _ (ap (λ m. m.0.is_book) c.requires.book))
