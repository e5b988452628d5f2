use Rattle.std.proofs.Common.{◌∙◌, ap}
use Rattle.ksm_shared.proofs.Rule.{takes_in, looks, cuts}
use Rattle.ksm_shared.proofs.Wrote.{let_go, looked, rejoined}
use Rattle.ksm_shared.proofs.merge.rejoin.Goals as goal

pub join_seat-requires : goal.join_seat-requires
join_seat-requires c = (c.requires.table.0, c.requires.table.1, ap (λ m. m.1) c.requires.all, c.requires.table.2, takes_in _ _ _ _)

pub load-requires : goal.load-requires
load-requires c =
    let j = rejoined c.args.book.now.me c.args.all.me _ c.requires.book c.join_seat.ensures.2 in
    (c.join_seat.ensures.0 ∙ c.requires.table.0, c.requires.table.2, looks _ _ _ _ (ap (λ m. m.0.is_book) j))

pub split_seat-gone-requires : goal.split_seat-gone-requires
split_seat-gone-requires c = (c.load.ensures.0 ∙ c.join_seat.ensures.0 ∙ c.requires.table.0, c.requires.table.2, cuts _ _)

pub returns-clause-book : goal.returns-clause-book
returns-clause-book c =
    let j = rejoined c.args.book.now.me c.args.all.me _ c.requires.book c.join_seat.ensures.2 in
    (let_go c.args.book.now.me _ _ _ _ 0 0 c.requires.book j (looked _ _ 0 0 c.load.ensures.2) c.split_seat-gone.ensures.2).0

pub returns-clause-knows : goal.returns-clause-knows
returns-clause-knows c =
    let j = rejoined c.args.book.now.me c.args.all.me _ c.requires.book c.join_seat.ensures.2 in
    (let_go c.args.book.now.me _ _ _ _ 0 0 c.requires.book j (looked _ _ 0 0 c.load.ensures.2) c.split_seat-gone.ensures.2).1
