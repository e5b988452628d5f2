use Rattle.ksm_script.proofs.Names.{ap, arith, BreaksOff, inl, inr, IsWithin, Keeps-trans, length, Read, rules, Took, ◌<◌}
use Rattle.ksm_script.proofs.Pieces.{came_end, came_on, fault_told, longer, nothing_talked, told, took_end, took_on}
use Rattle.ksm_script.proofs.input.next_line.Goals as goal

pub turns-init : goal.turns-init
turns-init g c = nothing_talked g.M.Lane.remaining g.M.Lane.takes g.M.Lane.waits (IsWithin g.M.Sends.is_sent g.W.Write.contents c.args.writer.now) c.args.reader.now g.W.Write.contents c.args.writer.now c.clear.new.self c.clear.ensures

pub returns-in-Some-clause-read : goal.returns-in-Some-clause-read
returns-in-Some-clause-read g c =
    let told = took_end g.M.Lane.remaining g.M.Lane.takes g.M.Lane.waits (IsWithin g.M.Sends.is_sent g.W.Write.contents c.args.writer.now) c.args.reader.now c.turns.reader c.take_block.new.reader c.turns.line c.take_block.new.line c.take_block.result c.turns.invariant.2 c.in-Some.end c.in-Some.is c.take_block.ensures.taken in (told.0, told.1, told.2.0, told.2.1)

pub returns-then-not-send-clause-breaks : goal.returns-then-not-send-clause-breaks
returns-then-not-send-clause-breaks g c =
    let mid = took_on g.M.Lane.remaining g.M.Lane.takes g.M.Lane.waits (IsWithin g.M.Sends.is_sent g.W.Write.contents c.args.writer.now) c.args.reader.now c.turns.reader c.take_block.new.reader c.turns.line c.take_block.new.line c.take_block.result c.turns.invariant.2 c.in_default.is c.take_block.ensures.taken in
    inr (c.send.ensures.failed (search rules), _, mid.1.1)

pub returns-in_err-end-clause-breaks : goal.returns-in_err-end-clause-breaks
returns-in_err-end-clause-breaks g c =
    let mid = took_on g.M.Lane.remaining g.M.Lane.takes g.M.Lane.waits (IsWithin g.M.Sends.is_sent g.W.Write.contents c.args.writer.now) c.args.reader.now c.turns.reader c.take_block.new.reader c.turns.line c.take_block.new.line c.take_block.result c.turns.invariant.2 c.in_default.is c.take_block.ensures.taken in
    let kept = Keeps-trans (g.W.Write.contents c.args.writer.now) (g.W.Write.contents c.turns.writer) (g.W.Write.contents c.send.new.writer) c.turns.invariant.4 c.send.ensures.kept in
    let may : IsWithin g.M.Sends.is_sent g.W.Write.contents c.args.writer.now c.take_block.new.line c.send.new.writer = (c.take_block.ensures.plain, kept, c.send.ensures.sent (search rules)) in
    fault_told (BreaksOff g.M.Lane.takes g.M.Lane.waits g.M.Sends.fails (IsWithin g.M.Sends.is_sent g.W.Write.contents c.args.writer.now) c.args.reader.now c.take_byte.new.reader c.send.new.writer) c.from_residual.result _ Read c.from_residual.ensures.1 c.in_err-end.ensures.fault.0
    (inl (c.take_block.new.line, c.take_block.new.reader, c.send.new.writer, mid.1.1, may, c.in_err-end.ensures.fault.3))

pub returns-in-Some-2-clause-read : goal.returns-in-Some-2-clause-read
returns-in-Some-2-clause-read g c =
    let mid = took_on g.M.Lane.remaining g.M.Lane.takes g.M.Lane.waits (IsWithin g.M.Sends.is_sent g.W.Write.contents c.args.writer.now) c.args.reader.now c.turns.reader c.take_block.new.reader c.turns.line c.take_block.new.line c.take_block.result c.turns.invariant.2 c.in_default.is c.take_block.ensures.taken in
    let kept = Keeps-trans (g.W.Write.contents c.args.writer.now) (g.W.Write.contents c.turns.writer) (g.W.Write.contents c.send.new.writer) c.turns.invariant.4 c.send.ensures.kept in
    let may : IsWithin g.M.Sends.is_sent g.W.Write.contents c.args.writer.now c.take_block.new.line c.send.new.writer = (c.take_block.ensures.plain, kept, c.send.ensures.sent (search rules)) in
    let told = came_end g.M.Lane.remaining g.M.Lane.takes g.M.Lane.waits (IsWithin g.M.Sends.is_sent g.W.Write.contents c.args.writer.now) c.args.reader.now c.take_block.new.reader c.take_byte.new.reader c.take_block.new.line c.take_byte.new.line _ mid.1 c.send.new.writer may c.in-Some-2.end c.in-Some-2.is c.in_ok-end.ensures.taken in (told.0, told.1, told.2.0, told.2.1)

pub turns-preserved : goal.turns-preserved
turns-preserved g c =
    let mid = took_on g.M.Lane.remaining g.M.Lane.takes g.M.Lane.waits (IsWithin g.M.Sends.is_sent g.W.Write.contents c.args.writer.now) c.args.reader.now c.turns.reader c.take_block.new.reader c.turns.line c.take_block.new.line c.take_block.result c.turns.invariant.2 c.in_default.is c.take_block.ensures.taken in
    let kept = Keeps-trans (g.W.Write.contents c.args.writer.now) (g.W.Write.contents c.turns.writer) (g.W.Write.contents c.send.new.writer) c.turns.invariant.4 c.send.ensures.kept in
    let may : IsWithin g.M.Sends.is_sent g.W.Write.contents c.args.writer.now c.take_block.new.line c.send.new.writer = (c.take_block.ensures.plain, kept, c.send.ensures.sent (search rules)) in
    let on = came_on g.M.Lane.remaining g.M.Lane.takes g.M.Lane.waits (IsWithin g.M.Sends.is_sent g.W.Write.contents c.args.writer.now) c.args.reader.now c.take_block.new.reader c.take_byte.new.reader c.take_block.new.line c.take_byte.new.line _ mid.1 c.send.new.writer may c.in_default-2.is c.in_ok-end.ensures.taken in
    let grown : length c.take_block.new.line < length c.take_byte.new.line = c.in_ok-end.ensures.grows (ap told c.in_default-2.is) in
    let before = longer (Took g.M.Lane.remaining g.M.Lane.takes c.turns.reader c.take_block.new.reader) _ _ _ c.in_default.is c.take_block.ensures.taken in
    (c.take_byte.ensures.plain, on.0, on.1, omega (arith, grown, before, c.turns.invariant.3), kept)
