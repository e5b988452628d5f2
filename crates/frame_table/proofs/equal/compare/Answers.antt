use Rattle.std.proofs.Common.{ap, ◌∙◌, arith}
use Rattle.frame_table.proofs.Compared.{same_hold, reads_more, still_read}
use Rattle.frame_table.proofs.equal.compare.Goals as goal

pub loop-i-init : goal.loop-i-init
loop-i-init c = record { own = c.requires.own; hold = same_hold c.args.held.now; equal = λ k below. absurd (omega arith) }

pub loop-i-preserved : goal.loop-i-preserved
loop-i-preserved c = record {
  own = ap (λ v. v.table) c.word.ensures.0 ∙ c.loop-i.invariant.own;
  hold = reads_more c.args.held.now c.loop-i.held c.word.new.self c.loop-i.i c.word.result c.loop-i.invariant.hold c.word.ensures;
  equal = still_read c.args.page.now c.loop-i.held c.word.new.self c.loop-i.i c.word.result c.word.ensures c.if-word-page.false c.loop-i.invariant.equal;
}

pub returns-then-word-page : goal.returns-then-word-page
returns-then-word-page c = (
  reads_more c.args.held.now c.loop-i.held c.word.new.self c.loop-i.i c.word.result c.loop-i.invariant.hold c.word.ensures,
  (c.loop-i.i, c.word.result, omega arith, c.word.ensures.2, c.if-word-page.true),
)
