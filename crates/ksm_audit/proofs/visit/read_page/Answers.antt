use Rattle.std.proofs.Common.{ap, ◌∙◌, arith, refl}
use Rattle.frame_table.specs.Named.{HeldView}
use Rattle.ksm_audit.proofs.Reading.{reads_none, reads_one, reads_page}
use Rattle.ksm_audit.proofs.visit.read_page.Goals as goal

pub loop-i-init : goal.loop-i-init
loop-i-init c = reads_none c.args.held.now _ refl

pub word-requires-clause-own : goal.word-requires-clause-own
word-requires-clause-own c = ap (λ (v : HeldView). v.table) c.loop-i.invariant.hold ∙ c.requires.own

pub loop-i-preserved : goal.loop-i-preserved
loop-i-preserved c = reads_one c.args.held.now c.loop-i.held c.word.new.self c.loop-i.i c.word.result c.loop-i.bytes (omega arith) c.loop-i.invariant c.word.ensures

pub returns : goal.returns
returns c = reads_page c.args.held.now c.loop-i.held c.loop-i.i c.loop-i.bytes (omega arith) c.loop-i.invariant
