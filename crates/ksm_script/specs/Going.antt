-- How a run goes on by a line (own).
use Rattle.std.specs.Prelude.{◌≡◌, ◌≢◌, ◌⊎◌, ℕ, ◌+◌, List, [], ◌∷◌, ◌++◌, Option, Some, None, Result, Ok, Err, Bool, true, false}
use Rattle.std.specs.Io.KnownBytes.{Appends, Consumes}
use Rattle.ksm_script.specs.declared.script.End.{End}
use Rattle.ksm_script.specs.declared.script.RunFault.{RunFault}
use Rattle.ksm_script.specs.LastLine.{EndsBad}
use Rattle.ksm_script.specs.declared.script.RunFault.TheVariants.{Write}
use Rattle.ksm_script.specs.Script.{Answered, AnsweredOne, AnsweredPart, Goes, streams}
use Rattle.ksm_script.specs.Answering.{Answers}
use Rattle.ksm_script.specs.Seen.{SessionView}
use Rattle.ksm_script.specs.declared.input.LineEnd.{LineEnd}
use Rattle.ksm_script.specs.declared.input.LineEnd.TheVariants.{Input, TooLong}
use Rattle.ksm_script.specs.declared.reply.LineReply.{LineReply}
use Rattle.ksm_script.specs.declared.reply.LineReply.TheVariants.{BadLine as bad_line}
use Rattle.ksm_script.specs.declared.script.End.TheVariants.{AllRead, BadLine}
use Rattle.ksm_lines.specs.declared.line.Line.{Line}
use Rattle.ksm_lines.specs.Grammar.{Writes, IsNoLine}
use Rattle.ksm_script.specs.State.{ScriptState}

-- A line was taken and answered at once, or nothing was done, by what was told; at a fault the last call on the writer
-- failed, which has a beginning of the reply. A reader with a writer and a session stands before and after.
abbrev pub AtOnce : {R W : Type 0} → (R → Option (List ℕ)) → (R → R → List ℕ → Type 0) → (W → Option (List ℕ))
    → (W → Type 0) → (R × W × SessionView) → (R × W × SessionView) → Result Bool RunFault → Type 0
AtOnce remaining takes contents fails old new (Ok true) = (one : AnsweredOne
    (streams (remaining old.0) (remaining new.0) (contents old.1) (contents new.1)) old.2.state new.2.state)
    × takes old.0 new.0 (one.0 ++ 10 ∷ [])
AtOnce remaining takes contents fails old new (Ok false) = (new.0 ≡ old.0) × (new.1 ≡ old.1) × (new.2 ≡ old.2)
AtOnce remaining takes contents fails old new (Err fault) = (fault ≡ Write) × fails new.1 × (one : AnsweredPart
    (streams (remaining old.0) (remaining new.0) (contents old.1) (contents new.1)) old.2.state new.2.state)
    × takes old.0 new.0 (one.0 ++ 10 ∷ [])

-- what a run read (these lines), did and wrote before the line of a number
pub record IsSoFar (lines : List ℕ) (first now : Option (List ℕ)) (begun written : Option (List ℕ))
    (from state : ScriptState) (number : ℕ) : Type 0 where
  pub text : List ℕ
  pub count : ℕ
  pub counted : count + 1 ≡ number
  pub answered : Answered from lines text count state
  pub consumed : Consumes first now lines
  pub appended : Appends begun written text

-- What it read, did and wrote with that line: it goes on behind it, whose bytes were read so, or ends there
abbrev pub GoesOn : (List ℕ → Type 0) → List ℕ → Option (List ℕ) → Option (List ℕ) → Option (List ℕ)
    → Option (List ℕ) → ScriptState → SessionView → ℕ → Result (Option End) RunFault → Type 0
GoesOn IsRead lines first now begun written from session number (Ok None) =
    (bytes : List ℕ) × IsSoFar (lines ++ bytes) first now begun written from session.state (number + 1) × IsRead bytes
GoesOn IsRead lines first now begun written from session number (Ok (Some end)) =
    Goes (streams first now begun written) from session.state (Ok end) × EndsBad first now session.line (Ok end)
    × (bytes : List ℕ) × IsRead bytes
GoesOn IsRead lines first now begun written from session number (Err fault) =
    Goes (streams first now begun written) from session.state (Err fault)

-- a line that was read, and so ended, is carried out with this reply
pub record IsDone (state next : ScriptState) (line : List ℕ) (end : LineEnd) (reply : Option LineReply) : Type 0 where
  pub form : Line
  pub short : end ≢ TooLong
  pub written : Writes form line
  pub answers : Answers form state reply next

-- how a run ends with a line that is carried out, if it does
abbrev pub end_at : LineEnd → Option End
end_at Input = Some AllRead
end_at _ = None

-- the line of this number, which was read last, is carried out, or it is bad
abbrev pub IsReplied : LineEnd → ℕ → SessionView → SessionView → Option LineReply → Option End → Type 0
IsReplied end number old new reply ended =
    (IsDone old.state new.state old.line end reply × (ended ≡ end_at end))
    ⊎ ((end ≢ TooLong → IsNoLine old.line) × (reply ≡ Some (bad_line number)) × (ended ≡ Some (BadLine number)) × (new ≡ old))
