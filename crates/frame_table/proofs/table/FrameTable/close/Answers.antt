use Rattle.std.proofs.Common.{rules, ◌≡◌, ℕ, ap, ◌∙◌, subst, sym, refl, vec_len}
use Rattle.std.specs.Mem.Slots.{slots_items}
use Rattle.atomic_table.specs.Table.{Final, Seen}
use Rattle.ksm_base.specs.declared.shape.Shape.{Shape}
use Rattle.frame_table.proofs.Names.{View, Keeper, Holds, order_in, tally_of, Ends}
use Rattle.frame_table.proofs.Seatings.{ends}
use Rattle.frame_table.proofs.table.FrameTable.close.Goals as goal

pub returns-clause-ends : goal.returns-clause-ends
returns-clause-ends c =
    let t = c.self-2.inside in
    let sh = c.args.self.shape in
    let k = c.args.keeper.ledger in
    let log = c.args.keeper.log in
    let same : t.shape ≡ sh = ap (λ n. n.shape) c.self-2.view_is in
    let key : t.table.shared.key ≡ sh = c.self-2.invariant.key ∙ same in
    let n : ℕ = vec_len c.seats.passes in
    let view : c.seats.seat.me.0 ≡ Keeper sh k (tally_of 0 n) log (order_in c.seats.seat.me) = ap (λ m. m.0) c.seats.invariant.keeper in
    let words = slots_items c.close_with.result.words in
    let slots = slots_items c.close_with.result.slots in
    subst (λ (s : Shape). Ends k record { shape = s; words = words }) (sym same) (ends sh k (tally_of 0 n) log (order_in c.seats.seat.me) c.seats.seat.id words slots refl (search rules)
    (subst (λ (x : Shape × View). Final (Seen (Holds x.0) c.seats.seat.id x.1) words slots) (λ i. (key i, view i)) c.close_with.ensures.values.2))
