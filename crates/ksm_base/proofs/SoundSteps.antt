-- Every step keeps a book sound.
use Rattle.std.proofs.Common.{◌≡◌, ℕ, ◌<◌, true, false, List, [], ◌∷◌, Option, Some, None, Ok, Err, refl, arith}
use Rattle.std.specs.Prelude.{◌&&◌, slice_get, not, IfSome}
use Rattle.std.proofs.lemmas.Bool.Decides.{nat_tests}
use Rattle.ksm_base.specs.declared.shape.Shape.{Shape}
use Rattle.ksm_base.specs.declared.command.Command.{Command}
use Rattle.ksm_base.specs.declared.command.Command.TheVariants.{Register, Drop, Store, Scan, Prune, Unmerge, Mergeable, MovePage, SetRun, SetAcross, SetLimit}
use Rattle.ksm_base.specs.declared.knobs.Knob.{Knob}
use Rattle.ksm_base.specs.declared.reply.Reply.{Reply}
use Rattle.ksm_base.specs.declared.reply.Reply.TheVariants.{Scanned, Unmerged}
use Rattle.ksm_base.specs.Knobs.{traits, set_by}
use Rattle.ksm_base.specs.Values.{IsShape}
use Rattle.ksm_base.specs.Rows.{same_page}
use Rattle.ksm_base.specs.State.{BookState, opening}
use Rattle.ksm_base.specs.Visit.{visits}
use Rattle.ksm_base.specs.Refusals.{refusal, setting_refusal, is_of}
use Rattle.ksm_base.specs.Answers.{Answer, shared_rows}
use Rattle.ksm_base.specs.Apply.{IsAnswerOrMemory, with_setting, effect, after, fresh_row, stored, moved, let_go, is_before}
use Rattle.ksm_base.specs.Journal.{Entry, replay, AreAnswers}
use Rattle.ksm_base.specs.Sound.{IsSound}
use Rattle.ksm_base.proofs.SoundEdits.{sound_filtered, sound_with_row, sound_changed, sound_without_stale}
use Rattle.ksm_base.proofs.SoundScan.{sound_visits, sound_scan_stopped}
use Rattle.ksm_base.proofs.SoundKnobs.{sound_set, sound_unshared, sound_set_across, sound_set_limit}

-- a sound book stays sound where no knob is set, or one that may change while pages are shared
sound_setting : (b : BookState) (set : Option (Knob × ℕ)) → setting_refusal b set ≡ None
    → IfSome set (λ it. (traits it.0).fixed_while_shared ≡ false) → IsSound b → IsSound (with_setting set b)
sound_setting b None accepted free s = s
sound_setting b (Some (knob, v)) accepted free s = sound_set b knob v (grind arith) free s

sound_effect : (b : BookState) (c : Command) (reply : Reply) → refusal b c ≡ None → IsSound b
    → IsSound (effect b c reply)
sound_effect b (Register page node bytes) reply accepted s =
    sound_with_row b (fresh_row page node bytes) refl (grind (arith, nat_tests)) s
sound_effect b (Drop page) reply accepted s = sound_filtered b (λ r. not (same_page r.page page)) s
sound_effect b (Store page bytes) reply accepted s =
    sound_changed b (λ r. same_page r.page page) (stored bytes) (λ r. grind arith) (λ r home. home) s
sound_effect b (Scan n) (Scanned v stop) accepted s = sound_scan_stopped stop (visits v b) (sound_visits v b s)
sound_effect b Prune reply accepted s = sound_without_stale b s
sound_effect b (Unmerge guest) (Unmerged k stop) accepted s =
    sound_changed b (λ r. is_of guest r && is_before (slice_get (shared_rows (is_of guest) b) k) r) let_go (λ r. grind arith) (λ r home. home) s
sound_effect b (Mergeable guest) reply accepted s =
    sound_changed b (is_of guest) (λ r. record r { mergeable = true }) (λ r. grind arith) (λ r home. home) s
sound_effect b (MovePage page node) reply accepted s =
    let there : node < b.shape.nodes = grind (arith, nat_tests) in
    sound_changed b (λ r. same_page r.page page) (moved node) (λ r. grind arith) (λ r home. grind arith) s
sound_effect b (SetRun v) (Unmerged k stop) accepted s = sound_unshared stop k b s
sound_effect b (SetAcross v) reply accepted s = sound_set_across b v reply accepted s
sound_effect b (SetLimit v) reply accepted s = sound_set_limit b v reply accepted s
sound_effect b c reply accepted s = sound_setting b (set_by c) (grind arith) (grind arith) s

-- what answers with a reply is not refused
not_refused : (b : BookState) (c : Command) (reply : Reply) → IsAnswerOrMemory b c (Ok reply) → refusal b c ≡ None
not_refused b c reply h = grind arith

-- each step that the definition allows keeps a book sound
pub sound_after : (b : BookState) (c : Command) (a : Answer) → IsSound b → IsAnswerOrMemory b c a
    → IsSound (after b c a)
sound_after b c (Ok reply) s h = sound_effect b c reply (not_refused b c reply h) s
sound_after b c (Err fault) s h = s

-- the opening state is sound
pub sound_opening : (shape : Shape) → IsShape shape → IsSound (opening shape)
sound_opening shape small = grind arith

-- the state is sound after each list of entries with answers that their commands may have
pub sound_replay : (b : BookState) (entries : List Entry) → AreAnswers b entries → IsSound b
    → IsSound (replay b entries)
sound_replay b [] answers s = s
sound_replay b ((c, Ok reply) ∷ es) answers s =
    sound_replay (after b c (Ok reply)) es answers.1 (sound_after b c (Ok reply) s answers.0)
sound_replay b ((c, Err fault) ∷ es) answers s = sound_replay b es answers.1 s
