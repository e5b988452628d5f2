use Rattle.ksm_book.proofs.Names.{Add, arith, refl, replicate-append-replicate}
use Rattle.ksm_book.proofs.Made.{adds_ledger, at_again, held_within, made_none, made_then}
use Rattle.ksm_book.proofs.mounting.add_times.Goals as goal

pub loop-done-init : goal.loop-done-init
loop-done-init c = made_none refl

pub add-requires-clause-may : goal.add-requires-clause-may
add-requires-clause-may c =
    let k = c.args.keeper.now.ledger in
    let within = held_within k c.args.frame c.requires.some in
    grind (arith, adds_ledger c.loop-done.done c.args.frame within c.loop-done.invariant, at_again k c.args.frame within)

pub loop-done-preserved : goal.loop-done-preserved
loop-done-preserved c = grind (arith, replicate-append-replicate c.loop-done.done 1 (Add c.args.frame), made_then)

pub returns-clause-ledger : goal.returns-clause-ledger
returns-clause-ledger c =
    let within = held_within c.args.keeper.now.ledger c.args.frame c.requires.some in
    grind (arith, adds_ledger c.loop-done.done c.args.frame within c.loop-done.invariant)
