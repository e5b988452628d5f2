-- A knob that is set keeps a book sound.
use Rattle.std.proofs.Common.{◌≡◌, ℕ, ◌≤◌, Bool, true, false, [], map, Some, None, Option, refl, arith}
use Rattle.std.specs.Prelude.{All, ◌==◌, ◌&&◌, not, nat_lt, slice_get}
use Rattle.std.proofs.lemmas.Bool.{cond_both}
use Rattle.std.proofs.lemmas.Bool.Decides.{nat_tests}
use Rattle.std.proofs.lemmas.List.Elements.{All-map}
use Rattle.ksm_base.specs.declared.row.Row.{Row}
use Rattle.ksm_base.specs.declared.knobs.Knobs.{Knobs}
use Rattle.ksm_base.specs.declared.knobs.Knob.{Knob}
use Rattle.ksm_base.specs.declared.knobs.Knob.TheVariants.{Run, MergeAcrossNodes, MaxPageSharing}
use Rattle.ksm_base.specs.declared.command.Command.TheVariants.{SetAcross, SetLimit}
use Rattle.ksm_base.specs.declared.reply.Reply.{Reply}
use Rattle.ksm_base.specs.declared.fault.Fault.{Fault}
use Rattle.ksm_base.specs.Knobs.{traits, with_value, is_in_range, AreKnobs}
use Rattle.ksm_base.specs.Rows.{item_count, change_rows, shared_state, settled}
use Rattle.ksm_base.specs.State.{BookState, without_stale, with_none_waiting}
use Rattle.ksm_base.specs.Counting.{shared_count}
use Rattle.ksm_base.specs.Refusals.{refusal}
use Rattle.ksm_base.specs.Answers.{shared_rows, every_row}
use Rattle.ksm_base.specs.Apply.{unshared, is_before, unshare_stopped, with_setting, effect}
use Rattle.ksm_base.specs.Sound.{IsSound}
use Rattle.ksm_base.proofs.SoundEdits.{HasDup, WaitsAlone, NoneWaitsTwice, sound_settings, sound_calmed, sound_changed, sound_without_stale, no_dup_lives}
use Rattle.ksm_base.proofs.SoundScan.{sound_cursor, sound_none_waiting}

-- the knobs stay in their ranges where one gets another value of its range
pub are_with : (knob : Knob) (v : ℕ) (knobs : Knobs) → is_in_range knob v ≡ true → AreKnobs knobs → AreKnobs (with_value knob v knobs)
are_with knob v knobs inside are = grind (arith, nat_tests)

-- a sound book stays sound where a knob that may change while pages are shared gets another value of its range
pub sound_set : (b : BookState) (knob : Knob) (v : ℕ) → is_in_range knob v ≡ true → (traits knob).fixed_while_shared ≡ false → IsSound b
    → IsSound (with_setting (Some (knob, v)) b)
sound_set b knob v inside free s =
    sound_settings b (with_value knob v b.knobs) b.passes b.cursor (are_with knob v b.knobs inside s.knobs) (grind arith) (grind arith) s.passes s

-- a sound book stays sound where all pages are let go, or those before a stop
pub sound_unshared : (stop : Option Fault) (k : ℕ) (b : BookState) → IsSound b → IsSound (unshare_stopped stop k b)
sound_unshared None k b s =
    let let_go = sound_calmed b unshared (λ r. grind arith) s.homes s in
    sound_set (record b { rows = map unshared b.rows; cursor = None }) Run 2 refl refl (sound_cursor (record b { rows = map unshared b.rows }) None let_go)
sound_unshared (Some fault) k b s =
    let test : Row → Bool = λ r. shared_state r.state && is_before (slice_get (shared_rows every_row b) k) r in
    sound_set (record b { rows = change_rows test unshared b.rows }) Run 0 refl refl
    (sound_changed b test unshared (λ r. grind arith) (λ r home. home) s)

-- where there is no dup, any knob may be set
sound_reset : (b : BookState) (knobs : Knobs) → AreKnobs knobs → b.dups ≡ [] → NoneWaitsTwice knobs b.rows → IsSound b → IsSound (record b { knobs = knobs })
sound_reset b knobs are_knobs empty alone s =
    let items : All (HasDup knobs b.dups) b.rows = λ k d lt number merged. absurd (grind (arith, (s.items k d lt number merged).1.stands)) in
    let trees : All (λ d. knobs.merge_across_nodes ≡ 1 → d.tree ≡ 0) b.dups = rw empty (λ k d lt. absurd (omega arith)) in
    let limit : All (λ d. item_count b.rows d ≤ knobs.max_page_sharing) b.dups = rw empty (λ k d lt. absurd (omega arith)) in
    assumption

-- where a knob may get another value than it has, no dup has items
pub none_shared : (b : BookState) (same : Bool) → (not same && nat_lt 0 (shared_count b.rows b.dups)) ≡ false
    → same ≡ false
    → shared_count b.rows b.dups ≡ 0
none_shared b same accepted other = grind (arith, nat_tests)

-- `set merge_across_nodes` keeps the state sound
pub sound_set_across : (b : BookState) (v : ℕ) (reply : Reply) → refusal b (SetAcross v) ≡ None → IsSound b
    → IsSound (effect b (SetAcross v) reply)
sound_set_across b v reply accepted s =
    let knobs : Knobs = record b.knobs { merge_across_nodes = v } in
    cond_both (v == b.knobs.merge_across_nodes) b (record (with_none_waiting (without_stale b)) { knobs = knobs }) IsSound (λ _. s)
    (λ other.
    sound_reset (with_none_waiting (without_stale b)) knobs (are_with MergeAcrossNodes v b.knobs (grind arith) s.knobs)
    (no_dup_lives b (none_shared b (v == b.knobs.merge_across_nodes) (grind arith) other))
    (All-map (WaitsAlone knobs (map settled b.rows)) settled b.rows (λ k d lt waits. grind arith))
    (sound_none_waiting (without_stale b) (sound_without_stale b s)))

-- `set max_page_sharing` keeps the state sound
pub sound_set_limit : (b : BookState) (v : ℕ) (reply : Reply) → refusal b (SetLimit v) ≡ None → IsSound b
    → IsSound (effect b (SetLimit v) reply)
sound_set_limit b v reply accepted s =
    let knobs : Knobs = record b.knobs { max_page_sharing = v } in
    cond_both (v == b.knobs.max_page_sharing) b (record (without_stale b) { knobs = knobs }) IsSound (λ _. s)
    (λ other.
    sound_reset (without_stale b) knobs (are_with MaxPageSharing v b.knobs (grind arith) s.knobs)
    (no_dup_lives b (none_shared b (v == b.knobs.max_page_sharing) (grind arith) other)) s.waiting (sound_without_stale b s))
