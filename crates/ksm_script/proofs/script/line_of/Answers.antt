use Rattle.ksm_script.proofs.Names.{Err, IfErr, IfOk, IsNoLine, IsReadAs, Line, LineEnd, LineFault, List, Ok, Result, rules, subst, TooLong, Writes, ℕ, ◌≡◌, ◌≢◌}
use Rattle.ksm_script.proofs.script.line_of.Goals as goal

-- a line that is read, or is none, is read as that
read_as : (r : Result Line LineFault) (end : LineEnd) (bytes line : List ℕ) → bytes ≡ line → end ≢ TooLong → IfOk r (λ form. Writes form bytes) → IfErr r (λ fault. IsNoLine bytes)
    → IsReadAs r end line
read_as (Ok form) end bytes line same short written none = (short, subst (λ l. Writes form l) same written)
read_as (Err fault) end bytes line same short written none = λ _. subst IsNoLine same none

pub returns : goal.returns
returns g c = read_as c.read_line.result c.args.end c.line.result.now c.args.session.now.line (search rules) (search rules) c.read_line.ensures.written c.read_line.ensures.none
