use Rattle.std.proofs.Common.{◌∙◌, sym, ap, subst, List, Option, ◌≤◌}
use Rattle.atomic_table.specs.Table.{Me}
use Rattle.ksm_base.specs.Journal.{Entry}
use Rattle.ksm_shared.specs.declared.seen.Caller.{Caller}
use Rattle.ksm_shared.specs.declared.seen.View.{View}
use Rattle.ksm_shared.specs.Seen.{CallersFit, all_at, times}
use Rattle.ksm_shared.proofs.Rule.{takes_in, looks, cuts}
use Rattle.ksm_shared.proofs.Wrote.{let_go, looked, all_taken, cut_off}
use Rattle.ksm_shared.proofs.merge.join_all.Goals as goal

pub join_seat-requires : goal.join_seat-requires
join_seat-requires g c =
    let i = c.loop-share.invariant in
    (i.2 ∙ c.requires.table.0, c.share.invariant.0 ∙ c.requires.table.1, ap (λ m. m.1) c.share.invariant.1, c.requires.table.2, takes_in _ _ _ _)

pub load-requires : goal.load-requires
load-requires g c =
    let i = c.loop-share.invariant in
    (i.2 ∙ c.requires.table.0, c.requires.table.2, looks _ _ _ _ (ap (λ m. m.0.is_book) i.3))

pub split_seat-requires : goal.split_seat-requires
split_seat-requires g c = (c.load.ensures.0 ∙ c.loop-share.invariant.2 ∙ c.requires.table.0, c.requires.table.2, cuts _ _)

pub returns-clause-book : goal.returns-clause-book
returns-clause-book g c = (let_go c.args.book.now.me _ _ _ _ 0 0 c.requires.book c.loop-share.invariant.3 (looked _ _ 0 0 c.load.ensures.2) c.split_seat.ensures.2).0

pub returns-clause-fits : goal.returns-clause-fits
returns-clause-fits g c =
    let k = (let_go c.args.book.now.me _ _ _ _ 0 0 c.requires.book c.loop-share.invariant.3 (looked _ _ 0 0 c.load.ensures.2) c.split_seat.ensures.2).1 in
    let all = all_taken _ _ _ _ c.loop-share.invariant.4 c.loop-share.share-iterator.rest.ok.0 c.in-None.ensures.steps.0 in
    subst (λ (cs : List Caller). CallersFit c.args.book.now.me.0.log c.args.book.now.me.0.shares cs) (sym all) k.callers

pub returns-clause-once : goal.returns-clause-once
returns-clause-once g c number =
    let k = (let_go c.args.book.now.me _ _ _ _ 0 0 c.requires.book c.loop-share.invariant.3 (looked _ _ 0 0 c.load.ensures.2) c.split_seat.ensures.2).1 in
    let all = all_taken _ _ _ _ c.loop-share.invariant.4 c.loop-share.share-iterator.rest.ok.0 c.in-None.ensures.steps.0 in
    subst (λ (cs : List Caller). times number cs ≤ 1) (sym all) (k.once number)

pub returns-clause-seat : goal.returns-clause-seat
returns-clause-seat g c =
    let all = all_taken _ _ _ _ c.loop-share.invariant.4 c.loop-share.share-iterator.rest.ok.0 c.in-None.ensures.steps.0 in
    let told = cut_off c.args.book.now.me _ _ _ _ 0 0 c.loop-share.invariant.3 (looked _ _ 0 0 c.load.ensures.2) c.split_seat.ensures.4 in
    (c.split_seat.ensures.3 ∙ c.load.ensures.0 ∙ c.loop-share.invariant.2 ∙ c.requires.table.0, told ∙ ap (λ (cs : List Caller). let m : Me (Option Entry) View = all_at cs c.args.book.now.me.0.log in m) (sym all))
