use Rattle.ksm_script.proofs.Names.{[], ap, append_assoc, arith, Extends, IsPlain, length, length-append, length-take, subst, sym, take, ◌++◌, ◌<◌, ◌∙◌, ◌∷◌, ◌≤◌}
use Rattle.ksm_script.proofs.Pieces.{up_to_newline, up_to_end, is_plain_before, is_plain_block, plain_with, extends_so}
use Rattle.ksm_script.proofs.input.LineBuffer.add.Goals as goal

pub returns-in-Some-clause-taken : goal.returns-in-Some-clause-taken
returns-in-Some-clause-taken c =
    let bytes = c.args.bytes.now in
    let n = c.min.result in
    let at = c.in-Some.at in
    let found = c.in-Some.ensures in
    let before = c.args.self.now in
    let part = take at (take n bytes) in
    let long = length-append before part in
    let less : length part < n = omega (arith, length-take at (take n bytes), length-take n bytes, found.0.high) in
    let fits : length c.extend.new.self ≤ 256 = omega (arith, less, ap length c.extend.ensures, long) in
    let line = ap (λ l. before ++ l) (up_to_newline bytes n at found.0.high found.1) in
    (line ∙ sym (append_assoc before part _) ∙ ap (λ l. l ++ 10 ∷ []) (sym c.extend.ensures), fits)

pub returns-in-Some-clause-plain : goal.returns-in-Some-clause-plain
returns-in-Some-clause-plain c =
    let found = c.in-Some.ensures in
    subst IsPlain (sym c.extend.ensures) (plain_with _ _ c.requires.plain (is_plain_before _ c.in-Some.at (omega (arith, found.0.high)) found.0.before))

pub returns-in-None-clause-taken : goal.returns-in-None-clause-taken
returns-in-None-clause-taken c =
    let bytes = c.args.bytes.now in
    let n = c.min.result in
    let before = c.args.self.now in
    let long = c.is_too_long.ensures in
    let is = c.extend-in-None.ensures ∙ ap (λ l. before ++ l) (sym (up_to_end bytes n)) in
    subst (λ end. Extends end before c.extend-in-None.new.self (take (length (take n bytes)) bytes)) (sym c.then_some.ensures)
    (extends_so c.is_too_long.result _ _ _ is long.full long.room)

pub returns-in-None-clause-plain : goal.returns-in-None-clause-plain
returns-in-None-clause-plain c =
    subst IsPlain (sym c.extend-in-None.ensures) (plain_with _ _ c.requires.plain (is_plain_block _ c.in-None.ensures))

pub returns-in-None-clause-some : goal.returns-in-None-clause-some
returns-in-None-clause-some c = λ some. omega (arith, some, length-take c.min.result c.args.bytes.now)
