use Rattle.std.proofs.Common.{rules, refl, ap, sym}
use Rattle.frame_core.specs.declared.event.ReaderStep.TheVariants.{LoadPlace}
use Rattle.frame_table.specs.Reading.{loads_place, word_at}
use Rattle.frame_table.specs.Views.{Sat}
use Rattle.frame_table.proofs.Allowed.{turned, MayLoad}
use Rattle.frame_table.proofs.ReaderCalls.{may_load_place}
use Rattle.frame_table.proofs.table.FrameTable.load_place.Goals as goal

pub load-requires : goal.load-requires
load-requires c =
    let may = may_load_place _ _ _ _ _ c.args.place c.requires.inside in
    (search rules, search rules, turned (MayLoad loads_place _ _) _ _ _ _ _ _ (search rules) refl c.requires.phase may)

pub returns-clause-step : goal.returns-clause-step
returns-clause-step c = c.load.ensures.2 c.args.place (sym (ap (λ (m : Sat). word_at (LoadPlace c.args.place) m.0) c.requires.phase))
