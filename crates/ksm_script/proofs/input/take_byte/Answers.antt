use Rattle.ksm_script.proofs.Names.{[], arith, Extends, subst, take, ◌∷◌, ◌≡◌}
use Rattle.ksm_script.proofs.Pieces.{grows}
use Rattle.ksm_script.proofs.input.take_byte.Goals as goal

pub returns-clause-taken : goal.returns-clause-taken
returns-clause-taken g c =
    let one : c.add-end.result.0 ≡ 1 = omega (arith, c.add-end.ensures.within, c.add-end.ensures.some (λ e. absurd (cc e))) in
    let read = rw c.in-Some.is at c.in_ok-byte.ensures.read in
    let waited = rw c.in-Some.is at c.in_ok-byte.ensures.waited in
    (c.in-Some.byte ∷ [], subst (λ k. Extends c.add-end.result.1 c.args.line.now c.add-end.new.self (take k (c.in-Some.byte ∷ []))) one c.add-end.ensures.taken, (read, waited))

pub returns-clause-grows : goal.returns-clause-grows
returns-clause-grows g c = λ on.
    let one : c.add-end.result.0 ≡ 1 = omega (arith, c.add-end.ensures.within, c.add-end.ensures.some (λ e. absurd (cc e))) in
    let more = subst (λ k. Extends c.add-end.result.1 c.args.line.now c.add-end.new.self (take k (c.in-Some.byte ∷ []))) one c.add-end.ensures.taken in
    grows _ _ _ c.add-end.result.1 on more (omega arith)
