use Rattle.ksm_lines.specs.Grammar.{words_of}
use Rattle.ksm_lines.proofs.Lines.{given_written, none_given, written_given}
use Rattle.ksm_lines.proofs.line.read_line.Goals as goal

pub returns-clause-written : goal.returns-clause-written
returns-clause-written c = given_written c.named.result (words_of c.args.bytes.now) (rw c.cut.ensures.words c.named.ensures)

pub returns-clause-read : goal.returns-clause-read
returns-clause-read c = written_given c.named.result (words_of c.args.bytes.now) (rw c.cut.ensures.words c.named.ensures)

pub returns-clause-none : goal.returns-clause-none
returns-clause-none c = none_given c.named.result (words_of c.args.bytes.now) (rw c.cut.ensures.words c.named.ensures)
