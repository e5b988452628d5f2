use Rattle.ksm_script.proofs.Names.{[], append-nil, arith, Consumes, false, inl, inr, List, None, refl, rules, silent, Some, subst, sym, true, ℕ, ◌≡◌}
use Rattle.ksm_script.proofs.Turns.{all_told, goes_so, one_broken, one_empty, one_left, one_more, nothing_yet, open_behind, talk_on, breaks_on, run_broken, went_on}
use Rattle.ksm_script.proofs.script.run_lines.Goals as goal

pub lines-init : goal.lines-init
lines-init g c = ([], nothing_yet _ _ _, silent)

pub lines-preserved-then-take_empty : goal.lines-preserved-then-take_empty
lines-preserved-then-take_empty g c =
    let taken = one_empty g.M.Lane.remaining g.M.Lane.takes g.W.Write.contents g.M.Sends.fails c.lines.reader c.take_empty.new.reader c.lines.writer c.lines.session (c.take_empty.ensures.taken c.if-take_empty.true) in
    one_more g.M.Lane.remaining g.M.Lane.takes g.M.Lane.waits g.M.Sends.is_sent g.W.Write.contents c.args.reader.now (g.W.Write.contents c.args.writer.now) c.args.session.now.state g.M.Sends.fails (c.lines.reader, c.lines.writer, c.lines.session) (c.take_empty.new.reader, c.lines.writer, c.lines.session) _ c.lines.invariant true taken refl

pub returns-in_err-answer_at_hand : goal.returns-in_err-answer_at_hand
returns-in_err-answer_at_hand g c =
    let here = one_left g.M.Lane.remaining g.M.Lane.takes g.M.Lane.waits g.M.Sends.is_sent g.W.Write.contents c.args.reader.now (g.W.Write.contents c.args.writer.now) c.args.session.now.state g.M.Sends.fails (c.lines.reader, c.lines.writer, c.lines.session) (c.take_empty.new.reader, c.lines.writer, c.lines.session) _ c.lines.invariant false (c.take_empty.ensures.none c.if-take_empty.false, refl, refl) refl in
    let broken = one_broken g.M.Lane.remaining g.M.Lane.takes g.M.Lane.waits g.M.Sends.is_sent g.W.Write.contents c.args.reader.now (g.W.Write.contents c.args.writer.now) c.args.session.now.state g.M.Sends.fails (c.take_empty.new.reader, c.lines.writer, c.lines.session) (c.answer_at_hand.new.reader, c.answer_at_hand.new.writer, c.answer_at_hand.new.session) _ here _ c.in_err-answer_at_hand.ensures in
    let run = run_broken g.M.Lane.remaining g.M.Lane.takes g.M.Lane.waits g.M.Sends.is_sent g.W.Write.contents c.args.reader.now (g.W.Write.contents c.args.writer.now) c.args.session.now.state g.M.Sends.fails c.answer_at_hand.new.reader c.answer_at_hand.new.writer c.answer_at_hand.new.session.line c.answer_at_hand.new.session.state c.from_residual.result _ c.from_residual.ensures.1 broken in
    (run.0, run.1, inl run.2, run.3)

pub lines-preserved-then-branch : goal.lines-preserved-then-branch
lines-preserved-then-branch g c =
    let here = one_left g.M.Lane.remaining g.M.Lane.takes g.M.Lane.waits g.M.Sends.is_sent g.W.Write.contents c.args.reader.now (g.W.Write.contents c.args.writer.now) c.args.session.now.state g.M.Sends.fails (c.lines.reader, c.lines.writer, c.lines.session) (c.take_empty.new.reader, c.lines.writer, c.lines.session) _ c.lines.invariant false (c.take_empty.ensures.none c.if-take_empty.false, refl, refl) refl in
    one_more g.M.Lane.remaining g.M.Lane.takes g.M.Lane.waits g.M.Sends.is_sent g.W.Write.contents c.args.reader.now (g.W.Write.contents c.args.writer.now) c.args.session.now.state g.M.Sends.fails (c.take_empty.new.reader, c.lines.writer, c.lines.session) (c.answer_at_hand.new.reader, c.answer_at_hand.new.writer, c.answer_at_hand.new.session) _ here _ c.in_ok-answer_at_hand.ensures c.if-branch.true

pub returns-in_err-ended : goal.returns-in_err-ended
returns-in_err-ended g c =
    let here = one_left g.M.Lane.remaining g.M.Lane.takes g.M.Lane.waits g.M.Sends.is_sent g.W.Write.contents c.args.reader.now (g.W.Write.contents c.args.writer.now) c.args.session.now.state g.M.Sends.fails (c.lines.reader, c.lines.writer, c.lines.session) (c.take_empty.new.reader, c.lines.writer, c.lines.session) _ c.lines.invariant false (c.take_empty.ensures.none c.if-take_empty.false, refl, refl) refl in
    let at = one_left g.M.Lane.remaining g.M.Lane.takes g.M.Lane.waits g.M.Sends.is_sent g.W.Write.contents c.args.reader.now (g.W.Write.contents c.args.writer.now) c.args.session.now.state g.M.Sends.fails (c.take_empty.new.reader, c.lines.writer, c.lines.session) (c.answer_at_hand.new.reader, c.answer_at_hand.new.writer, c.answer_at_hand.new.session) _ here _ c.in_ok-answer_at_hand.ensures c.if-branch.false in
    let broken = breaks_on g.M.Lane.remaining g.M.Lane.takes g.M.Lane.waits g.M.Sends.is_sent g.W.Write.contents c.args.reader.now (g.W.Write.contents c.args.writer.now) c.args.session.now.state g.M.Sends.fails c.answer_at_hand.new.reader c.answer_next.new.reader c.answer_at_hand.new.writer c.answer_next.new.writer c.answer_at_hand.new.session.state _ at _ c.in_err-ended.ensures.breaks in
    let run = run_broken g.M.Lane.remaining g.M.Lane.takes g.M.Lane.waits g.M.Sends.is_sent g.W.Write.contents c.args.reader.now (g.W.Write.contents c.args.writer.now) c.args.session.now.state g.M.Sends.fails c.answer_next.new.reader c.answer_next.new.writer c.answer_next.new.session.line c.answer_next.new.session.state c.from_residual-in_err-ended.result _ c.from_residual-in_err-ended.ensures.1
    (c.in_err-ended.ensures.on _ _ _ _ at.1, broken) in
    (run.0, run.1, inl run.2, run.3)

pub returns-in-Some : goal.returns-in-Some
returns-in-Some g c =
    let is : c.in_ok-ended.ended ≡ Some c.in-Some.end = search rules in
    let here = one_left g.M.Lane.remaining g.M.Lane.takes g.M.Lane.waits g.M.Sends.is_sent g.W.Write.contents c.args.reader.now (g.W.Write.contents c.args.writer.now) c.args.session.now.state g.M.Sends.fails (c.lines.reader, c.lines.writer, c.lines.session) (c.take_empty.new.reader, c.lines.writer, c.lines.session) _ c.lines.invariant false (c.take_empty.ensures.none c.if-take_empty.false, refl, refl) refl in
    let at = one_left g.M.Lane.remaining g.M.Lane.takes g.M.Lane.waits g.M.Sends.is_sent g.W.Write.contents c.args.reader.now (g.W.Write.contents c.args.writer.now) c.args.session.now.state g.M.Sends.fails (c.take_empty.new.reader, c.lines.writer, c.lines.session) (c.answer_at_hand.new.reader, c.answer_at_hand.new.writer, c.answer_at_hand.new.session) _ here _ c.in_ok-answer_at_hand.ensures c.if-branch.false in
    let run = goes_so _ _ _ _ _ _ _ _ _ _ (Some c.in-Some.end) is (c.in_ok-ended.ensures.on _ _ _ _ at.1) in
    (run.0, run.1, inl (talk_on g.M.Lane.remaining g.M.Lane.takes g.M.Lane.waits g.M.Sends.is_sent g.W.Write.contents c.args.reader.now (g.W.Write.contents c.args.writer.now) c.args.session.now.state c.answer_at_hand.new.reader c.answer_next.new.reader c.answer_at_hand.new.writer c.answer_at_hand.new.session.state _ at (run.2, run.3)), λ all. open_behind _ _ _ at.0 at.1.consumed (c.in_ok-ended.ensures.sent (all_told _ _ is all)))

pub lines-preserved : goal.lines-preserved
lines-preserved g c =
    let is : c.in_ok-ended.ended ≡ None = search rules in
    let here = one_left g.M.Lane.remaining g.M.Lane.takes g.M.Lane.waits g.M.Sends.is_sent g.W.Write.contents c.args.reader.now (g.W.Write.contents c.args.writer.now) c.args.session.now.state g.M.Sends.fails (c.lines.reader, c.lines.writer, c.lines.session) (c.take_empty.new.reader, c.lines.writer, c.lines.session) _ c.lines.invariant false (c.take_empty.ensures.none c.if-take_empty.false, refl, refl) refl in
    let at = one_left g.M.Lane.remaining g.M.Lane.takes g.M.Lane.waits g.M.Sends.is_sent g.W.Write.contents c.args.reader.now (g.W.Write.contents c.args.writer.now) c.args.session.now.state g.M.Sends.fails (c.take_empty.new.reader, c.lines.writer, c.lines.session) (c.answer_at_hand.new.reader, c.answer_at_hand.new.writer, c.answer_at_hand.new.session) _ here _ c.in_ok-answer_at_hand.ensures c.if-branch.false in
    went_on g.M.Lane.remaining g.M.Lane.takes g.M.Lane.waits g.M.Sends.is_sent g.W.Write.contents c.args.reader.now (g.W.Write.contents c.args.writer.now) c.args.session.now.state c.answer_at_hand.new.reader c.answer_next.new.reader c.answer_at_hand.new.writer c.answer_next.new.writer c.answer_at_hand.new.session.state _ c.answer_next.new.session at (goes_so _ _ _ _ _ _ _ _ _ _ None is (c.in_ok-ended.ensures.on _ _ _ _ at.1))

pub returns : goal.returns
returns g c =
    let at = c.lines.invariant in
    let so = at.1 in
    let consumed = subst (λ (t : List ℕ). Consumes (g.M.Lane.remaining c.args.reader.now) (g.M.Lane.remaining c.lines.reader) t) (sym (append-nil at.0)) so.consumed in
    ((so.text, so.count, [], (search rules), (search rules), (at.0, so.answered, consumed), so.appended), tt, inr (at.0, so.text, so.count, _, omega (arith, so.counted), so.answered, at.2), λ all. absurd (cc all))
