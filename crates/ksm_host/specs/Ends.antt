-- How the program ends, by its words, its input and its output (own).
use Rattle.std.specs.Prelude.{◌≡◌, ◌⊎◌, ℕ, List, [], Option, Some, None, Ok, Err, replicate}
use Rattle.std.specs.Io.KnownBytes.{append_known}
use Rattle.clap.specs.Words.{Text}
use Rattle.ksm_base.specs.State.{opening}
use Rattle.frame_table.specs.Named.{ClosedView}
use Rattle.frame_table.specs.Seats.{new_pass}
use Rattle.ksm_shared.specs.Named.{PartsId}
use Rattle.ksm_shared.specs.Locked.{EndsLawfully}
use Rattle.ksm_options.specs.Settings.{Given}
use Rattle.ksm_options.specs.Told.{IsToldBy, Tells}
use Rattle.ksm_script.specs.State.{ScriptState}
use Rattle.ksm_script.specs.Script.{Runs, Streams}
use Rattle.ksm_script.specs.Dialogue.{Dialogue, HasReplied, RunTalks}
use Rattle.ksm_script.specs.Texts.{AppendsPart}
use Rattle.ksm_script.specs.declared.pass_state.PassState.TheVariants.{Idle}
use Rattle.ksm_script.specs.declared.script.End.{End}
use Rattle.ksm_script.specs.declared.script.End.TheVariants.{AllRead, BadLine}
use Rattle.ksm_script.specs.declared.script.RunFault.{RunFault}
use Rattle.ksm_host.specs.Sent.{Replies}
use Rattle.ksm_host.specs.declared.status.Status.{Status}
use Rattle.ksm_host.specs.declared.status.Status.TheVariants.{Done, NotUnderstood, Broken, NoMemory}

-- a session on these parts before its first line: no page, an empty journal, and passes that hold nothing
abbrev pub IsFresh : PartsId → ScriptState → Type 0
IsFresh parts s = (s.book ≡ opening parts.frames.shape) × (s.journal ≡ [])
    × (s.passes ≡ replicate parts.frames.shape.passes (Idle (new_pass parts.frames)))

-- what a session came to, by the status: at *done* all was read and each reply sent; at a bad line the replies up to
-- its own are sent; else a read or a write failed, and what is sent, with what waited behind it, is a beginning of the
-- replies
abbrev pub Serves : Streams → ScriptState → Status → Type 0
Serves io from Done = (to : ScriptState) × Runs io from to (Ok AllRead)
Serves io from NotUnderstood = (to : ScriptState) × (number : ℕ) × Runs io from to (Ok (BadLine number))
Serves io from Broken =
    (to : ScriptState) × (text : List ℕ) × (waiting : List ℕ) × Replies io.unread io.left from to text
    × AppendsPart io.begun (append_known io.written waiting) text
Serves io from NoMemory = ⊥

-- what is sent does not wait in the buffer of a writer
abbrev pub Empties : {W : Type 0} → (W → Type 0) → (W → List ℕ) → Type 0
Empties {W} is_sent buffer = (writer : W) → is_sent writer → buffer writer ≡ []

-- The dialogue of a session, by its status: told as broken, a wait failed, or the last call on the writer, or 2^64 - 2
-- lines were read
abbrev pub HasTalked : {R W : Type 0} → (R → R → List ℕ → Type 0) → (W → R → R → Option (List ℕ) → Type 0)
    → (W → Type 0) → (W → Type 0) → (W → Option (List ℕ)) → R → R → W → Status → ScriptState → Type 0
HasTalked {R} {W} takes waits fails is_sent contents first last begun Broken from = (fault : RunFault) × (writer : W)
    × RunTalks {A = End} takes waits fails is_sent contents from first last begun writer (Err fault)
HasTalked takes waits fails is_sent contents first last begun status from =
    (bytes : List ℕ) × Dialogue takes waits (HasReplied is_sent contents (contents begun) from) first last bytes

-- a session on these parts was served to its end, by such a dialogue, and its table closed; or memory was refused
-- before it
abbrev pub EndsOn : PartsId → Streams → (Status → ScriptState → Type 0) → Status → Option ClosedView → Type 0
EndsOn parts io HasTalked status None = status ≡ NoMemory
EndsOn parts io HasTalked status (Some table) = (table.shape ≡ parts.frames.shape) × EndsLawfully parts table
    × (from : ScriptState) × IsFresh parts from × Serves io from status × HasTalked status from

-- the session was on a table of the shape that the words tell; or there was none, for want of memory or as the words
-- tell no shape
abbrev pub EndsBy : List Text → Streams → (Status → ScriptState → Type 0) → Status → Option ClosedView → Type 0
EndsBy words io HasTalked status None =
    (status ≡ NoMemory) ⊎ ((status ≡ NotUnderstood) × ((given : List Given) → Tells words given → ⊥))
EndsBy words io HasTalked status (Some table) =
    (parts : PartsId) × IsToldBy words parts.frames.shape × EndsOn parts io HasTalked status (Some table)
