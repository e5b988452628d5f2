use Rattle.std.proofs.Common.{◌∙◌, ap}
use Rattle.ksm_shared.proofs.Rule.{moves_out, takes_in, looks, cuts}
use Rattle.ksm_shared.proofs.Wrote.{joined_is, looked, wrote}
use Rattle.ksm_shared.proofs.writing.look.Goals as goal

pub split_seat-whole-requires : goal.split_seat-whole-requires
split_seat-whole-requires c = (c.requires.table.1, c.requires.table.2, moves_out _ _ (ap (λ m. m.0.is_book) c.requires.share))

pub join_seat-requires : goal.join_seat-requires
join_seat-requires c = let w = c.split_seat-whole.ensures in
    (c.requires.table.0, w.3 ∙ c.requires.table.1, ap (λ m. m.1) w.4, c.requires.table.2, takes_in _ _ _ _)

pub load-requires : goal.load-requires
load-requires c =
    let j = joined_is _ _ _ _ c.requires.book c.requires.share c.split_seat-whole.ensures.4 c.join_seat.ensures.2 in
    (c.join_seat.ensures.0 ∙ c.requires.table.0, c.requires.table.2, looks _ _ _ _ (ap (λ m. m.0.is_book) j))

pub split_seat-requires : goal.split_seat-requires
split_seat-requires c = (c.load.ensures.0 ∙ c.join_seat.ensures.0 ∙ c.requires.table.0, c.requires.table.2, cuts _ _)

pub returns-clause-book : goal.returns-clause-book
returns-clause-book c =
    let j = joined_is _ _ _ _ c.requires.book c.requires.share c.split_seat-whole.ensures.4 c.join_seat.ensures.2 in
    (wrote c.args.book.now.me c.args.share.now.me _ _ _ _ _ 0 0 c.requires.share j (looked _ _ 0 0 c.load.ensures.2) c.split_seat.ensures.2 c.split_seat.ensures.4).0

pub returns-clause-share : goal.returns-clause-share
returns-clause-share c =
    let j = joined_is _ _ _ _ c.requires.book c.requires.share c.split_seat-whole.ensures.4 c.join_seat.ensures.2 in
    (wrote c.args.book.now.me c.args.share.now.me _ _ _ _ _ 0 0 c.requires.share j (looked _ _ 0 0 c.load.ensures.2) c.split_seat.ensures.2 c.split_seat.ensures.4).1

pub returns-clause-wrote : goal.returns-clause-wrote
returns-clause-wrote c =
    let j = joined_is _ _ _ _ c.requires.book c.requires.share c.split_seat-whole.ensures.4 c.join_seat.ensures.2 in
    (wrote c.args.book.now.me c.args.share.now.me _ _ _ _ _ 0 0 c.requires.share j (looked _ _ 0 0 c.load.ensures.2) c.split_seat.ensures.2 c.split_seat.ensures.4).2
