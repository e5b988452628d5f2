use Rattle.std.proofs.Common.{rules, ℕ, ◌+◌, ◌∙◌, arith, ap, sym}
use Rattle.frame_core.specs.declared.event.ReaderStep.TheVariants.{LoadWord}
use Rattle.frame_table.proofs.Names.{loads_word, word_at, Sat}
use Rattle.frame_table.proofs.Allowed.{turned, MayLoad}
use Rattle.frame_table.proofs.ReaderCalls.{may_load_word}
use Rattle.frame_table.proofs.table.FrameTable.load_word.Goals as goal

pub load-requires : goal.load-requires
load-requires c =
    let at = c.requires.phase in
    let may = may_load_word _ _ _ _ _ at.0 at.1 c.args.i c.requires.inside.1 in
    (search rules, omega (arith, c.requires.inside.0, c.requires.inside.1, ap (λ n. n.id.words) c.self.view_is), turned (MayLoad loads_word _ _) _ _ _ _ _ _ (search rules) (ap (λ (page : ℕ). page + c.args.i) (sym at.2)) at.3 may)

pub returns-clause-step : goal.returns-clause-step
returns-clause-step c =
    let at = c.requires.phase in
    let word = λ (m : Sat). word_at (LoadWord c.args.i) m.0 in
    c.load.ensures.2 c.args.i c.requires.inside.1 (ap (λ (page : ℕ). page + c.args.i) (sym at.2) ∙ sym (ap word at.3))
