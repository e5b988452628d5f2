use Rattle.ksm_pages.proofs.Names.{arith, refl, rules, true≢false}
use Rattle.ksm_pages.proofs.Paired.{are_apart, can_pair, CanPair, is_free, lawful_paired, lay_first, lay_second, may_both, told_paired}
use Rattle.ksm_pages.proofs.Visiting.{lawful_numbered}
use Rattle.ksm_pages.proofs.pages.Pages.pair.Goals as goal
use Rattle.ksm_pages.proofs.pages.Pages.pair.Goals.{After-merge-2, in_default-via-in-Some+in_default, in_default-via-in_default}

pub unreachable-requires : goal.unreachable-requires
unreachable-requires c =
    elim c.in_default.branch [
      | in_default-via-in-Some+in_default w ↦ true≢false (may_both c.self.inside c.self.view_is _ _ _ c.requires.first w.in_default.ensures w.in_default.ensures')
      | in_default-via-in_default w ↦ true≢false (may_both c.self.inside c.self.view_is _ _ _ c.requires.first w.in_default.ensures refl)
    ]

pub found-requires-clause-may : goal.found-requires-clause-may
found-requires-clause-may c =
    let may = can_pair {s = c.self.inside} c.self.invariant c.self.view_is c.requires.first {pass = c.self.inside.rows.pass} {one = c.in-Some-Some.one.now}
    {other = c.in-Some-Some.other.now} c.in-Some-Some.ensures c.in-Some-Some.ensures' c.group.ensures.kept in
    grind (arith, may, is_free may, are_apart may)

begins : (c : After-merge-2)
    → CanPair (record c.self.inside { dups = c.group.new.self }) c.args.self.now c.args.place c.args.first.page c.args.second.page
    c.self.inside.rows.pass c.in-Some-Some.one.now c.in-Some-Some.other.now
begins c =
    can_pair c.self.invariant c.self.view_is c.requires.first c.in-Some-Some.ensures c.in-Some-Some.ensures' c.group.ensures.kept

pub invariant_of-self : goal.invariant_of-self
invariant_of-self c = lawful_numbered c.self.inside c.group.ensures.kept c.self.invariant

pub invariant_of-self-in_err-number : goal.invariant_of-self-in_err-number
invariant_of-self-in_err-number c =
    rw c.in_err-number.ensures.kept (lawful_numbered c.self.inside c.group.ensures.kept c.self.invariant)

pub invariant_of-self-2 : goal.invariant_of-self-2
invariant_of-self-2 c =
    let t = (goal.at.invariant_of-self-2 c).After-merge-2 in
    lawful_paired (begins t) t.tree_in-tree.ensures t.in_ok-number.ensures.made t.in_ok-number.ensures.lawful
    t.are_lawful.ensures.led t.are_lawful.ensures.found t.in_ok-number.ensures.number (search rules)

pub returns-clause-first : goal.returns-clause-first
returns-clause-first c = lay_first (begins (goal.at.returns-clause-first c).After-merge-2)

pub returns-clause-second : goal.returns-clause-second
returns-clause-second c = lay_second (begins (goal.at.returns-clause-second c).After-merge-2)

pub returns-clause-paired : goal.returns-clause-paired
returns-clause-paired c =
    let t = (goal.at.returns-clause-paired c).After-merge-2 in
    told_paired (begins t) t.tree_in-tree.ensures t.in_ok-number.ensures.made t.in_ok-number.ensures.lawful
    t.are_lawful.ensures.led t.are_lawful.ensures.found t.in_ok-number.ensures.number {rows = t.merge-2.new.self} (search rules)
