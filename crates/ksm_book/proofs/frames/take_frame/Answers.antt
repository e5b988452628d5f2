use Rattle.ksm_book.proofs.Names.{ap, arith, holding, KeeperView, opened, rules}
use Rattle.ksm_book.proofs.Made.{at_again, follow, found_within, made_one, made_part, made_then, raised_ready, took}
use Rattle.ksm_book.proofs.frames.take_frame.Goals as goal

pub write-requires : goal.write-requires
write-requires c =
    let ready = raised_ready c.requires.shape c.requires.node c.requires.lawful c.in_ok-frame.ensures _ c.raise.ensures.1 in
    grind arith

pub open-requires-clause-may : goal.open-requires-clause-may
open-requires-clause-may c =
    let ready = raised_ready c.requires.shape c.requires.node c.requires.lawful c.in_ok-frame.ensures _ c.raise.ensures.1 in
    grind (arith, at_again)

pub returns-clause-provides : goal.returns-clause-provides
returns-clause-provides c = record {
  searched = c.find_frame.new.keeper;
  finds = c.in_ok-frame.ensures;
  fills = made_then (made_one _ c.raise.new.self _ _ c.raise.ensures.1)
      (made_then (made_part _ c.write.new.keeper _ c.write.ensures.wrote) (made_one _ _ _ _ c.open.ensures));
}

pub returns-clause-took : goal.returns-clause-took
returns-clause-took c =
    let within = found_within c.requires.shape c.requires.node c.requires.lawful c.in_ok-frame.ensures in
    took c.requires.shape c.requires.node c.requires.lawful c.in_ok-frame.ensures (search rules) (follow _ _ within _ opened (rw c.open.ensures)
    (follow _ _ within _ (λ x. holding x c.args.bytes.now) c.write.ensures.ledger (ap (λ (z : KeeperView). z.ledger) c.raise.ensures.1)))
