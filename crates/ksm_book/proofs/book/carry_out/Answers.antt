use Rattle.ksm_book.proofs.Names.{arith, BookValue, BookView, IsCarried, shown_so_far, subst, sym, view_of}
use Rattle.ksm_book.proofs.SoFar.{counts_ended, shown_ended, stored_carried}
use Rattle.ksm_book.proofs.book.carry_out.Goals as goal

pub returns-in-Store-clause-carried : goal.returns-in-Store-clause-carried
returns-in-Store-clause-carried c = grind (arith, stored_carried c.args.due.now.reach, c.store.ensures)

pub returns-in_default-clause-carried : goal.returns-in_default-clause-carried
returns-in_default-clause-carried c =
    let done = c.carry_out_whole.ensures in
    subst (λ (w : BookValue). IsCarried (view_of (shown_so_far c.args.due.now c.args.state.now)) (view_of w) c.args.command.now c.carry_out_whole.result) (sym (shown_ended c.carry_out_whole.new.due c.carry_out_whole.new.state done.reach.0))
    (subst (λ (v : BookView). IsCarried v (view_of c.carry_out_whole.new.state) c.args.command.now c.carry_out_whole.result) c.end_pass_over_due-in_default.ensures.state done.carried)

pub returns-in_default-clause-later : goal.returns-in_default-clause-later
returns-in_default-clause-later c = counts_ended c.carry_out_whole.new.due c.carry_out_whole.new.state.state c.carry_out_whole.ensures.reach

pub returns-in-SetAcross-clause-carried : goal.returns-in-SetAcross-clause-carried
returns-in-SetAcross-clause-carried c =
    subst (λ (v : BookView). IsCarried v (view_of (shown_so_far c.set_across.new.due c.set_across.new.self)) c.args.command.now c.set_across.result)
    c.end_pass_over_due.ensures.state (grind (arith, c.set_across.ensures.carried))
