use Rattle.ksm_script.proofs.Names.{[], ap, Idle, length, new_pass, replicate, rules, vec_capacity, vec_len, ℕ, ◌∙◌, ◌≡◌, ◌≤◌}
use Rattle.ksm_script.proofs.Slots.{all_same, there_is, present_is}
use Rattle.ksm_script.proofs.passes.Passes.new.Goals as goal

pub invariant_of-result : goal.invariant_of-result
invariant_of-result c =
    let x = Idle (new_pass c.args.table.now) in
    let slots = c.passes.slots.items in
    let empty : c.pop.new.self.items ≡ [] = search rules in
    let room : vec_len c.passes.slots ≤ vec_capacity c.pop.new.self = search rules in
    (there_is slots (replicate (length slots) x) (all_same x slots c.passes.invariant.slots), empty, room)

pub returns : goal.returns
returns c =
    let x = Idle (new_pass c.args.table.now) in
    let slots = c.passes.slots.items in
    let count : length slots ≡ vec_len c.args.passes = search rules in
    present_is slots (replicate (length slots) x) (all_same x slots c.passes.invariant.slots) ∙ ap (λ (n : ℕ). replicate n x) count
