use Rattle.ksm_script.proofs.Names.{[], Appends-nil, Appends-trans, codes, flat_map, row_text, ◌++◌}
use Rattle.ksm_script.proofs.Parts.{text_within, text_after}
use Rattle.ksm_script.proofs.reply.write_audit.Goals as goal

pub returns-in_err-write_text : goal.returns-in_err-write_text
returns-in_err-write_text g c =
    text_within g.W.Write.contents g.S.Sends.fails c.from_residual.result _ _ _ _ [] (codes "audit") (flat_map row_text c.args.rows.now ++ codes "\n") c.from_residual.ensures.1 (Appends-nil _) c.in_err-write_text.ensures.1

pub returns-in_err-write_rows : goal.returns-in_err-write_rows
returns-in_err-write_rows g c =
    text_within g.W.Write.contents g.S.Sends.fails c.from_residual-in_err-write_rows.result _ _ _ _ (codes "audit") (flat_map row_text c.args.rows.now) (codes "\n") c.from_residual-in_err-write_rows.ensures.1 c.in_ok-write_text.ensures.0 c.in_err-write_rows.ensures.1

pub returns : goal.returns
returns g c =
    let before = Appends-trans _ _ _ (codes "audit") (flat_map row_text c.args.rows.now) c.in_ok-write_text.ensures.0 c.in_ok-write_rows.ensures.0 in
    text_after g.W.Write.contents g.S.Sends.fails c.write_text-2.result _ _ _ (codes "audit" ++ flat_map row_text c.args.rows.now) (codes "\n") before c.write_text-2.ensures
