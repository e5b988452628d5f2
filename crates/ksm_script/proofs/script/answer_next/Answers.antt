use Rattle.ksm_script.proofs.Names.{ap, BreaksOff, Dialogue, eq-eqb, inl, Input, inr, IsWithin, length, LineEnd, refl, rules, sameb, sym, Write, ◌∙◌, ◌≡◌, ◌≢◌}
use Rattle.ksm_script.specs.contracts.input.LineEnd.{the_type}
use Rattle.ksm_script.proofs.Pieces.{fault_told}
use Rattle.ksm_script.proofs.Turns.{all_read, broke_on, ends_within, found, in_state, read_as, replied_broken, replied_last, replied_on}
use Rattle.ksm_script.proofs.script.answer_next.Goals.{else-eq-via-then-eq+else-is_empty, else-eq-via-else-eq}
use Rattle.ksm_script.proofs.script.answer_next.Goals as goal

pub returns-then-is_empty-clause-on : goal.returns-then-is_empty-clause-on
returns-then-is_empty-clause-on g c = λ lines first begun from before.
    let now = c.in_ok-end.ensures in
    let so = in_state _ _ _ _ _ _ _ _ _ _ now.state now.kept before in
    let read = read_as (Dialogue g.M.Lane.takes g.M.Lane.waits (IsWithin g.M.Sends.is_sent g.W.Write.contents c.args.writer.now) c.args.reader.now c.read_next.new.reader) _ _ _ c.in_ok-end.end now.read now.plain now.end in
    let last : c.in_ok-end.end ≡ Input = search rules in
    let empty : length c.read_next.new.self.line ≡ 0 = search rules in
    ((so.text, all_read _ _ _ _ _ _ _ _ _ _ _ _ so read last empty, so.appended, read.last last), tt, read.bytes, read.talk)

pub returns-in_err-write_answer-clause-on : goal.returns-in_err-write_answer-clause-on
returns-in_err-write_answer-clause-on g c = λ lines first begun from before.
    let now = c.in_ok-end.ensures in
    let so = in_state _ _ _ _ _ _ _ _ _ _ now.state now.kept before in
    let read = read_as (Dialogue g.M.Lane.takes g.M.Lane.waits (IsWithin g.M.Sends.is_sent g.W.Write.contents c.args.writer.now) c.args.reader.now c.read_next.new.reader) _ _ _ c.in_ok-end.end now.read now.plain now.end in
    let broken = c.in_err-write_answer.ensures.fault in
    broke_on _ _ _ _ _ _ _ _ _ c.from_residual-in_err-write_answer.result (search rules)
    (replied_broken _ _ _ _ _ _ _ _ _ _ _ _ so _ _ _ read c.reply_to_line-reply.ensures broken.2 broken.3 broken.4)

pub returns-clause-on : goal.returns-clause-on
returns-clause-on g c = λ lines first begun from before.
    let now = c.in_ok-end.ensures in
    let so = in_state _ _ _ _ _ _ _ _ _ _ now.state now.kept before in
    let read = read_as (Dialogue g.M.Lane.takes g.M.Lane.waits (IsWithin g.M.Sends.is_sent g.W.Write.contents c.args.writer.now) c.args.reader.now c.read_next.new.reader) _ _ _ c.in_ok-end.end now.read now.plain now.end in
    replied_on _ _ _ _ _ _ _ _ _ _ _ _ so _ _ _ read c.reply_to_line-reply.ensures c.in_ok-write_answer.ensures.whole

pub returns-then-is_empty-clause-sent : goal.returns-then-is_empty-clause-sent
returns-then-is_empty-clause-sent g c = λ all.
    let last : c.in_ok-end.end ≡ Input = search rules in
    inl (c.in_ok-end.ensures.waited (ap (λ (x : LineEnd). found x) last))

pub returns-clause-sent : goal.returns-clause-sent
returns-clause-sent g c = λ all.
    let now = c.in_ok-end.ensures in
    let read = read_as (Dialogue g.M.Lane.takes g.M.Lane.waits (IsWithin g.M.Sends.is_sent g.W.Write.contents c.args.writer.now) c.args.reader.now c.read_next.new.reader) _ _ _ c.in_ok-end.end now.read now.plain now.end in
    let last = replied_last _ _ _ _ _ _ c.reply_to_line-reply.ensures all in
    let some : length c.read_next.new.self.line ≢ 0 =
    elim c.else-eq.branch [
      | else-eq-via-then-eq+else-is_empty w ↦ λ nil. let is = eq-eqb _ _ (ap length w.line.ensures ∙ nil) in cc
      | else-eq-via-else-eq w ↦ λ nil. cc (sym w.if-eq.false ∙ c.eq.ensures ∙ ap (λ e. sameb the_type e Input) last)
    ] in
    inr (ends_within _ _ _ _ _ read last some)

pub returns-in_err-end-clause-breaks : goal.returns-in_err-end-clause-breaks
returns-in_err-end-clause-breaks g c =
    fault_told (BreaksOff g.M.Lane.takes g.M.Lane.waits g.M.Sends.fails (IsWithin g.M.Sends.is_sent g.W.Write.contents c.args.writer.now) c.args.reader.now c.read_next.new.reader c.read_next.new.writer) c.from_residual.result _ _ c.from_residual.ensures.1 refl c.in_err-end.ensures.breaks

pub returns-in_err-write_answer-clause-breaks : goal.returns-in_err-write_answer-clause-breaks
returns-in_err-write_answer-clause-breaks g c =
    let read = c.in_ok-end.ensures.read in
    let cut = c.in_err-write_answer.ensures.fault in
    fault_told (BreaksOff g.M.Lane.takes g.M.Lane.waits g.M.Sends.fails (IsWithin g.M.Sends.is_sent g.W.Write.contents c.args.writer.now) c.args.reader.now c.read_next.new.reader c.write_answer.new.writer) c.from_residual-in_err-write_answer.result _ Write c.from_residual-in_err-write_answer.ensures.1 cut.0 (cut.1, read.0, read.3)
