use Rattle.std.proofs.Common.{ap, ◌∙◌, arith, rules}
use Rattle.frame_table.proofs.Above.{same_hold, reads_more}
use Rattle.ksm_ffi.proofs.Read.{one_more_read}
use Rattle.ksm_ffi.proofs.reader.read_all.Goals as goal

pub loads-init : goal.loads-init
loads-init c = record { own = c.requires.own; hold = same_hold c.args.held.now; read = λ k below. absurd (omega arith); count = search rules }

pub loads-preserved : goal.loads-preserved
loads-preserved c = record {
  own = ap (λ v. v.table) c.word.ensures.0 ∙ c.loads.invariant.own;
  hold = reads_more c.args.held.now c.loads.held c.word.new.self c.loads.i c.word.result c.loads.invariant.hold c.word.ensures;
  read = one_more_read c.loads.words c.loads.held c.word.new.self c.loads.i c.word.result (omega (arith, c.loads.invariant.count)) c.word.ensures c.loads.invariant.read;
  count = search rules;
}
