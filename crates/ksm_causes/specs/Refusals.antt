-- The sentences that say why a line was refused (own).
use Rattle.std.specs.Prelude.{ℕ, List, [], ◌∷◌, Option, None, Some, codes, decimal, option_map}
use Rattle.std.specs.List.{concat}
use Rattle.ksm_base.specs.declared.fault.Fault.TheVariants as faults
use Rattle.ksm_script.specs.declared.refusal.Refusal.{Refusal}
use Rattle.ksm_script.specs.declared.refusal.Refusal.TheVariants.{Book, NoPass, Holding, NotHolding}
use Rattle.ksm_script.specs.declared.reply.LineReply.{LineReply}
use Rattle.ksm_script.specs.declared.reply.LineReply.TheVariants.{Refused, Scanned, Unmerged}
use Rattle.ksm_script.specs.Texts.{refusal_number}
use Rattle.ksm_causes.specs.Sentences.{shortened}

-- the refusal that a reply is, or tells of
abbrev pub refusal_in : LineReply → Option Refusal
refusal_in (Refused refusal) = Some refusal
refusal_in (Scanned visits stop) = option_map Book stop
refusal_in (Unmerged pages stop) = option_map Book stop
refusal_in _ = None

abbrev pub why_refused : Refusal → List ℕ
why_refused (Book faults.Memory) = codes "memory was refused, and the line may be sent again"
why_refused (Book faults.UnknownPage) = codes "there is no such page, or no page of the guest"
why_refused (Book faults.AlreadyRegistered) = codes "the page is registered already"
why_refused (Book (faults.NoFrame node)) = concat (codes "no frame of node " ∷ decimal node ∷ codes " is free" ∷ [])
why_refused (Book faults.NotRunning) = codes "no scan runs while run is not 1"
why_refused (Book faults.SharedPages) = codes "the knob stays as it is while pages are shared"
why_refused (Book faults.BadValue) = codes "the value is out of the knob's range"
why_refused (Book faults.InUse) = codes "a pass holds the frame"
why_refused (Book faults.CrossesNodes) = codes "the dup would cross nodes while merge_across_nodes is 0"
why_refused (Book faults.UnknownPlace) = codes "no dup with pages stands at the place, or there is no such place"
why_refused (Book faults.BadNode) = codes "there is no such node"
why_refused NoPass = codes "there is no such pass"
why_refused Holding = codes "the pass holds a frame, or at an audit each pass does"
why_refused NotHolding = codes "the pass holds no frame"

-- what is said of the refused line of a number; a long line is cut
abbrev pub refused_text : ℕ → List ℕ → Refusal → List ℕ
refused_text number line refusal =
    concat (
    codes "line " ∷ decimal number ∷ codes ", refused " ∷ decimal (refusal_number refusal)
    ∷ codes ": " ∷ why_refused refusal
    ∷ codes ": " ∷ shortened line ∷ codes "\n" ∷ [])
