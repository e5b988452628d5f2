use Rattle.ksm_book.proofs.Names.{ap, arith, count_by, counters_of, mergeable_count, private_state, so_far, sym, ◌&&◌, ◌+◌, ◌-◌, ◌∙◌, ◌≡◌, ◌≤◌}
use Rattle.ksm_book.proofs.SoFar.{counted_so_far, few_volatile, mergeable_counted, volatile_so_far}
use Rattle.ksm_book.proofs.state.State.counters_so_far.Goals as goal

pub returns : goal.returns
returns c =
    let b = c.args.self.now.state in
    let reach = c.args.due.now.reach in
    let sound = c.lies_lawfully.ensures.sound in
    let few : count_by (λ r. r.mergeable && private_state r.state) (so_far reach b).rows ≤ mergeable_count b.rows =
    rw (← mergeable_counted reach b) (few_volatile (so_far reach b).rows) in
    let most = c.mergeable-later.ensures in
    let told = c.counters-counters.ensures in
    let fewer : c.saturating_sub.result ≡ (counters_of b).unshared - c.args.due.now.later = grind (arith, c.saturating_sub.ensures, told) in
    let more : c.saturating_add.result ≡ (counters_of b).volatile + c.args.due.now.later =
    grind (arith, c.saturating_add.ensures, told, few, most, c.self.view_is, c.requires, volatile_so_far reach b sound) in
    (λ i. record (told i) { unshared = (fewer ∙ ap (λ n. (counters_of b).unshared - n) c.requires) i; volatile = (more ∙ ap (λ n. (counters_of b).volatile + n) c.requires) i })
    ∙ sym (counted_so_far reach b sound)
