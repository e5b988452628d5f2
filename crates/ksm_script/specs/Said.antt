-- What becomes of a reply (own).
use Rattle.std.specs.Prelude.{◌≡◌, ◌≤◌, ◌<◌, ℕ, ◌⊎◌, List, length, take, Option, Some, None, Result, Ok, Err, OnOk, IfErr}
use Rattle.std.specs.Io.KnownBytes.{Appends, Keeps}
use Rattle.ksm_script.specs.declared.reply.LineReply.{LineReply}
use Rattle.ksm_script.specs.declared.script.RunFault.{RunFault}
use Rattle.ksm_script.specs.declared.script.RunFault.TheVariants.{Write}
use Rattle.ksm_script.specs.Replies.{text_of}
use Rattle.ksm_script.specs.Seen.{SessionView}
use Rattle.ksm_script.specs.State.{ScriptState}
use Rattle.ksm_script.specs.Texts.{AppendsPart}

-- what a writer took of a text, where no byte of some is a failure; or the call on it failed, and it has what it had
abbrev pub Puts : {W : Type 0} → (W → Option (List ℕ)) → (W → Type 0) → W → W → List ℕ → Result ℕ RunFault → Type 0
Puts contents fails old new text (Ok count) = (count ≤ length text) × (count < length text → count ≡ 0 → fails new)
    × Appends (contents old) (contents new) (take count text)
Puts contents fails old new text (Err fault) = (fault ≡ Write) × fails new × Keeps (contents old) (contents new)

-- a text is broken off: the last call on the writer failed, and it has a beginning of the text
abbrev pub BreaksText : {W : Type 0} → (W → Option (List ℕ)) → (W → Type 0) → W → W → List ℕ → RunFault → Type 0
BreaksText contents fails old new text fault =
    (fault ≡ Write) × fails new × AppendsPart (contents old) (contents new) text

-- a text was written, or broken off
abbrev pub WritesText : {W : Type 0} → (W → Option (List ℕ)) → (W → Type 0) → W → W → List ℕ
    → Result (Unit {0}) RunFault → Type 0
WritesText contents fails old new text result =
    OnOk result (Appends (contents old) (contents new) text) × IfErr result (BreaksText contents fails old new text)

-- a reply was written so
abbrev pub WritesReply : {W : Type 0} → (W → Option (List ℕ)) → (W → Type 0) → W → W → LineReply
    → Result (Unit {0}) RunFault → Type 0
WritesReply contents fails old new reply = WritesText contents fails old new (text_of reply)

-- it was returned to the caller
abbrev pub ReturnsReply : Option LineReply → Option LineReply → LineReply → Result (Unit {0}) RunFault → Type 0
ReturnsReply old new reply result = (new ≡ Some reply) × (result ≡ Ok tt)

-- What was done, as `Does` says it of the session, had a reply, which was handed over so; or it had none.
abbrev pub IsSaid : {S : Type 0} → (S → S → LineReply → Result (Unit {0}) RunFault → Type 0)
    → (ScriptState → Option LineReply → ScriptState → Type 0) → SessionView → SessionView → S → S
    → Result (Unit {0}) RunFault → Type 0
IsSaid Takes Does from to old new result =
    ((reply : LineReply) × Does from.state (Some reply) to.state × Takes old new reply result)
    ⊎ (Does from.state None to.state × (new ≡ old) × (result ≡ Ok tt))
