use Rattle.ksm_script.proofs.Names.{[], Appends-nil, Appends-trans, codes, flat_map, mapper_text, ◌++◌}
use Rattle.ksm_script.proofs.Parts.{text_within, text_after}
use Rattle.ksm_script.proofs.reply.write_mappers.Goals as goal

pub returns-in_err-write_text : goal.returns-in_err-write_text
returns-in_err-write_text g c =
    text_within g.W.Write.contents g.S.Sends.fails c.from_residual.result _ _ _ _ [] (codes "rmap") (flat_map mapper_text c.args.pages.now ++ codes "\n") c.from_residual.ensures.1 (Appends-nil _) c.in_err-write_text.ensures.1

pub returns-in_err-write_pages : goal.returns-in_err-write_pages
returns-in_err-write_pages g c =
    text_within g.W.Write.contents g.S.Sends.fails c.from_residual-in_err-write_pages.result _ _ _ _ (codes "rmap") (flat_map mapper_text c.args.pages.now) (codes "\n") c.from_residual-in_err-write_pages.ensures.1 c.in_ok-write_text.ensures.0 c.in_err-write_pages.ensures.1

pub returns : goal.returns
returns g c =
    let before = Appends-trans _ _ _ (codes "rmap") (flat_map mapper_text c.args.pages.now) c.in_ok-write_text.ensures.0 c.in_ok-write_pages.ensures.0 in
    text_after g.W.Write.contents g.S.Sends.fails c.write_text-2.result _ _ _ (codes "rmap" ++ flat_map mapper_text c.args.pages.now) (codes "\n") before c.write_text-2.ensures
