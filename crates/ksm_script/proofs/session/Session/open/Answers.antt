use Rattle.ksm_script.proofs.Names.{ap, arith, entries, length, length-replicate, List, new_pass, opening, Owned, PartsId, PassView, replay, sym, vec_len, ◌∙◌, ◌≡◌}
use Rattle.ksm_script.proofs.Opened.{one_share, share_new, are_new, are_idle, are_own}
use Rattle.ksm_script.proofs.session.Session.open.Goals as goal

pub unreachable-unreachable : goal.unreachable-unreachable
unreachable-unreachable g c =
    let one = one_share _ _ (sym (ap (λ (p : PartsId). p.callers) c.requires.name) ∙ c.requires.alone) c.in-Ok-open.ensures.shares in
    omega (arith, one, c.in_default-pop.ensures.cases.0, c.in-Ok-open.opened.2.ok.0)

pub new-passes-requires-clause-new : goal.new-passes-requires-clause-new
new-passes-requires-clause-new g c = are_new _ _ _ _ c.in-Ok-open.ensures.passes c.table.ensures

pub invariant_of-result : goal.invariant_of-result
invariant_of-result g c =
    let t = g.N.Naming.parts.frames in
    let long = ap (λ (l : List PassView). length l) c.in-Ok-open.ensures.passes ∙ length-replicate t.shape.passes (new_pass t) in
    let count : vec_len c.in-Ok-open.opened.1 ≡ t.shape.passes = omega (arith, long, c.in-Ok-open.opened.1.ok.0) in
    let own = are_own t t.shape.passes _ (are_idle t c.table.result.now _ _ _ c.new-passes.ensures c.table.ensures count) in
    (sym (ap (λ (p : PartsId). p.callers) c.requires.name) ∙ c.requires.alone, own.0, own.1)

pub returns : goal.returns
returns g c =
    let t = g.N.Naming.parts.frames in
    let long = ap (λ (l : List PassView). length l) c.in-Ok-open.ensures.passes ∙ length-replicate t.shape.passes (new_pass t) in
    let count : vec_len c.in-Ok-open.opened.1 ≡ t.shape.passes = omega (arith, long, c.in-Ok-open.opened.1.ok.0) in
    let new = share_new _ _ _ _ (sym (ap (λ (p : PartsId). p.callers) c.requires.name) ∙ c.requires.alone) c.in-Ok-open.ensures.shares c.in-Some.ensures.items in record {
      book = ap (λ (seen : List Owned). replay (opening t.shape) (entries seen)) new;
      journal = ap entries new;
      passes = are_idle t c.table.result.now _ _ _ c.new-passes.ensures c.table.ensures count;
      memory = tt;
    }
