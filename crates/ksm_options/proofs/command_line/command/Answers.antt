use Rattle.std.proofs.Common.{ap₂, ◌∙◌}
use Rattle.std.proofs.lemmas.Result.{IfOk-weaker}
use Rattle.clap.specs.Words.{with_rule}
use Rattle.ksm_options.proofs.command_line.command.Goals as goal

pub returns : goal.returns
returns c =
    IfOk-weaker c.with-5.result _ _ (λ command added. added
    ∙ ap₂ with_rule (c.in_ok-with_tries.ensures
    ∙ ap₂ with_rule (c.in_ok-with_passes.ensures
    ∙ ap₂ with_rule (c.in_ok-with_frames.ensures
    ∙ ap₂ with_rule (c.in_ok-with_nodes.ensures
    ∙ ap₂ with_rule c.in_ok-named.ensures c.required-nodes.ensures.rule) c.required-frames.ensures.rule) c.number-passes.ensures.rule) c.number-tries.ensures.rule) c.number-last_generation.ensures.rule) c.with-5.ensures
