-- Each field is read by `get_one` from the text that its setting is given.
use Rattle.std.proofs.Common.{◌≡◌, ◌∙◌, ap, refl, sym, List, Some, arith, map, string_bytes, IfErr, rules}
use Rattle.std.proofs.lemmas.Result.{IfErr-weaker}
use Rattle.clap.specs.Words.{kind_of}
use Rattle.clap.specs.declared.error.kind.ErrorKind.TheVariants.{OutOfMemory}
use Rattle.ksm_base.specs.declared.limits.TheConstants.{MOST_LIVES}
use Rattle.ksm_options.specs.Settings.{Frames, Given, LastGeneration, Nodes, Passes, Tries}
use Rattle.ksm_options.specs.Told.{IsToldBy, Tells}
use Rattle.ksm_options.proofs.Numbers.{given_number, setting_read, value_fits, value_given, value_or}
use Rattle.ksm_options.proofs.Plain.{tells_of}
use Rattle.ksm_options.proofs.command_line.options.Goals as goal

pub unwrap-requires : goal.unwrap-requires
unwrap-requires c =
    let t = c.in_ok-matches.ensures.told in
    let read = setting_read 32 Nodes t.0 _ c.get_one.result (omega arith) t.1.fit (t.2 Nodes) c.get_one.ensures.none c.get_one.ensures.value in
    given_number Nodes t.0 c.get_one.result read t.1.nodes

pub unwrap-requires-2 : goal.unwrap-requires-2
unwrap-requires-2 c =
    let t = c.in_ok-matches.ensures.told in
    let read = setting_read 32 Frames t.0 _ c.get_one-2.result (omega arith) t.1.fit (t.2 Frames) c.get_one-2.ensures.none c.get_one-2.ensures.value in
    given_number Frames t.0 c.get_one-2.result read t.1.frames

told_by : (c : goal.Joined-matches)
    → IsToldBy (map string_bytes c.args.words.now) (record { nodes = c.unwrap.result; frames_per_node = c.unwrap-2.result; passes = c.unwrap_or.result; last_generation = c.unwrap_or-2.result; tries = c.unwrap_or-3.result })
told_by c =
    let t = c.in_ok-matches.ensures.told in
    let fit = t.1.fit in
    let nodes = setting_read 32 Nodes t.0 _ c.get_one.result (omega arith) fit (t.2 Nodes) c.get_one.ensures.none c.get_one.ensures.value in
    let frames = setting_read 32 Frames t.0 _ c.get_one-2.result (omega arith) fit (t.2 Frames) c.get_one-2.ensures.none c.get_one-2.ensures.value in
    let passes = setting_read 32 Passes t.0 _ c.get_one-3.result (omega arith) fit (t.2 Passes) c.get_one-3.ensures.none c.get_one-3.ensures.value in
    let last = setting_read 64 LastGeneration t.0 _ c.get_one-4.result (omega arith) fit (t.2 LastGeneration) c.get_one-4.ensures.none c.get_one-4.ensures.value in
    let tries = setting_read 32 Tries t.0 _ c.get_one-5.result (omega arith) fit (t.2 Tries) c.get_one-5.ensures.none c.get_one-5.ensures.value in
    record {
      given = t.0;
      tells = t.1;
      nodes = value_given Nodes t.0 _ (sym c.unwrap.ensures ∙ nodes);
      frames = value_given Frames t.0 _ (sym c.unwrap-2.ensures ∙ frames);
      passes = value_or Passes t.0 c.get_one-3.result 2 passes refl ∙ ap Some (sym c.unwrap_or.ensures);
      tries = value_or Tries t.0 c.get_one-5.result 8 tries refl ∙ ap Some (sym c.unwrap_or-3.ensures);
      last_generation = value_or LastGeneration t.0 c.get_one-4.result MOST_LIVES last refl ∙ ap Some (sym c.unwrap_or-2.ensures);
    }

pub returns-clause-told : goal.returns-clause-told
returns-clause-told c = told_by c

pub returns-clause-fits : goal.returns-clause-fits
returns-clause-fits c =
    let t = told_by c in
    let fit = t.tells.fit in
    let nodes = value_fits Nodes t.given _ fit t.nodes in
    let frames = value_fits Frames t.given _ fit t.frames in
    let passes = value_fits Passes t.given _ fit t.passes in
    let generation = value_fits LastGeneration t.given _ fit t.last_generation in
    let tries = value_fits Tries t.given _ fit t.tries in
    record {
      nodes_low = nodes.0;
      nodes_high = nodes.1;
      frames_low = frames.0;
      frames_high = frames.1;
      passes_low = passes.0;
      passes_high = passes.1;
      generation_low = generation.0;
      generation_high = generation.1;
      tries_low = tries.0;
      tries_high = tries.1;
    }

pub returns-in_err-matches-clause-well_formed : goal.returns-in_err-matches-clause-well_formed
returns-in_err-matches-clause-well_formed c =
    let words = map string_bytes c.args.words.now in
    let memory : IfErr c.from_residual.result (λ e. (given : List Given) → Tells words given → kind_of e ≡ OutOfMemory) = search rules in
    IfErr-weaker c.from_residual.result _ _ (λ e h given w. h given (tells_of words given w)) memory
