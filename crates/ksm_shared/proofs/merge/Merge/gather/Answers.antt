use Rattle.std.proofs.Common.{◌≡◌, ◌≤◌, ◌∙◌, refl, ℕ, List, Option, ap, subst, sym, length, arith}
use Rattle.atomic_table.specs.Table.{Me}
use Rattle.ksm_base.specs.Journal.{Entry}
use Rattle.ksm_shared.specs.declared.seen.Caller.{Caller}
use Rattle.ksm_shared.specs.declared.seen.Owned.{Owned}
use Rattle.ksm_shared.specs.declared.seen.View.{View}
use Rattle.ksm_shared.specs.Seen.{CallersFit, first}
use Rattle.ksm_shared.specs.Locked.{Locked, Gathered, IsAll}
use Rattle.ksm_shared.proofs.Gathering.{gathered, gathered_all, lacks_one, length-entries}
use Rattle.ksm_shared.proofs.merge.Merge.gather.Given.{Over}
use Rattle.ksm_shared.proofs.merge.Merge.gather.Goals as goal

pub returns-then-len-self-clause-missing : goal.returns-then-len-self-clause-missing
returns-then-len-self-clause-missing g c =
    (refl, lacks_one g.N.Naming.parts.callers c.args.shares.items (omega (arith, c.self.invariant.callers, c.if-len-self.true, c.len.ensures)))

module _ (g : Over) (c : goal.After-len-entries g) where
  abbrev log : List Owned
  log = c.self.inside.seat.me.0.log

  abbrev cs : List Caller
  cs = c.args.shares.items

  fits : CallersFit log g.N.Naming.parts.callers cs
  fits = subst (λ (n : ℕ). CallersFit log n cs) (ap (λ m. m.0.shares) c.self.invariant.seat) c.join_all-seat.ensures.fits

  enough : g.N.Naming.parts.callers ≤ length cs
  enough = omega (arith, c.self.invariant.callers, c.if-len-self.false, c.len.ensures)

  abbrev Sat : Type 0
  Sat = Me (Option Entry) View

  -- the shares, cut off together, are all that there are
  is_all : IsAll {S = Option Entry} g.N.Naming.parts.callers c.join_all-seat.result.me
  is_all =
      let told = gathered_all g.N.Naming.parts.callers log cs fits c.join_all-seat.ensures.once c.self.invariant.owners enough in
      subst (λ (m : Sat). IsAll g.N.Naming.parts.callers m) (sym c.join_all-seat.ensures.seat.1) (record { seat = refl; enough = told.1; gathered = told.2 })

  seen : (first c.join_all-seat.result.me.0.callers).seen ≡ log
  seen = ap (λ (m : Sat). (first m.0.callers).seen) c.join_all-seat.ensures.seat.1 ∙ (gathered_all g.N.Naming.parts.callers log cs fits c.join_all-seat.ensures.once c.self.invariant.owners enough).0

pub invariant_of-result : goal.invariant_of-result
invariant_of-result g c =
    let i = c.self.invariant in
    let long = c.len-entries.ensures ∙ ap length (c.journal.ensures.entries ∙ i.journal) ∙ length-entries c.self.inside.seat.me.0.log in
    (c.join_all-seat.ensures.seat.0 ∙ i.seen, is_all g c, long ∙ ap length (sym (seen g c)))

pub returns-clause-all : goal.returns-clause-all
returns-clause-all g c =
    let i = c.self.invariant in
    let view = ap (λ (l : Locked). l.log) c.self.view_is in
    let all = gathered g.N.Naming.parts.callers c.self.inside.seat.me.0.log c.args.shares.items (fits g c) c.join_all-seat.ensures.once i.owners (enough g c) in
    (seen g c ∙ view, subst (λ (l : List Owned). Gathered g.N.Naming.parts.callers l c.args.shares.items) view all)
