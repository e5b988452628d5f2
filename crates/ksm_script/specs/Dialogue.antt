-- The dialogue of a run: what was taken from its reader, and what was sent when it waited for more (own).
use Rattle.std.specs.Prelude.{◌≡◌, ◌⊎◌, ◌+◌, ◌^◌, ℕ, List, [], ◌++◌, Option, Some, None, Result, Ok, Err, option_to_list}
use Rattle.std.specs.Io.KnownBytes.{Appends, Consumes, Keeps}
use Rattle.ksm_script.specs.declared.script.RunFault.{RunFault}
use Rattle.ksm_script.specs.declared.script.RunFault.TheVariants.{Read, Write}
use Rattle.ksm_script.specs.Input.{IsPlain}
use Rattle.ksm_script.specs.Script.{Answered}
use Rattle.ksm_script.specs.State.{ScriptState}

-- The calls on a reader from its first state to its last, and the bytes that they took: such as were at hand, and such
-- as were waited for. It waits only where it `May`, by the bytes taken before and by the writer at that moment.
pub data Dialogue {R W : Type 0} (takes : R → R → List ℕ → Type 0) (waits : W → R → R → Option (List ℕ) → Type 0)
    (May : List ℕ → W → Type 0) (first : R) : R → List ℕ → Type 0 where
  silent : Dialogue takes waits May first first []
  took : {now next : R} {before : List ℕ} → Dialogue takes waits May first now before → (bytes : List ℕ)
      → takes now next bytes → Dialogue takes waits May first next (before ++ bytes)
  waited : {now next : R} {before : List ℕ} → Dialogue takes waits May first now before → (writer : W)
      → May before writer → (bytes : List ℕ) → waits writer now next (Some bytes)
      → Dialogue takes waits May first next (before ++ bytes)

-- such a dialogue, behind which a wait failed
abbrev pub FailedWait : {R W : Type 0} → (R → R → List ℕ → Type 0) → (W → R → R → Option (List ℕ) → Type 0)
    → (List ℕ → W → Type 0) → R → R → Type 0
FailedWait {R} {W} takes waits May first last =
    (bytes : List ℕ) × (now : R) × (writer : W) × Dialogue takes waits May first now bytes × May bytes writer
    × waits writer now last None

-- How a dialogue broke off: a wait failed behind it, which is a failed read; or the last call on the writer failed
abbrev pub BreaksOff : {R W : Type 0} → (R → R → List ℕ → Type 0) → (W → R → R → Option (List ℕ) → Type 0)
    → (W → Type 0) → (List ℕ → W → Type 0) → R → R → W → RunFault → Type 0
BreaksOff takes waits fails May first last writer Write =
    fails writer × (bytes : List ℕ) × Dialogue takes waits May first last bytes
BreaksOff takes waits fails May first last writer Read = FailedWait takes waits May first last
    ⊎ (fails writer × (bytes : List ℕ) × Dialogue takes waits May first last bytes)

-- a dialogue, by how it ended
abbrev pub Talks : {R W A : Type 0} → (R → R → List ℕ → Type 0) → (W → R → R → Option (List ℕ) → Type 0)
    → (W → Type 0) → (List ℕ → W → Type 0) → R → R → W → Result A RunFault → Type 0
Talks takes waits fails May first last writer (Ok x) = (bytes : List ℕ) × Dialogue takes waits May first last bytes
Talks takes waits fails May first last writer (Err fault) = BreaksOff takes waits fails May first last writer fault

-- the replies to all whole lines of these bytes are written and sent
abbrev pub HasReplied : {W : Type 0} → (W → Type 0) → (W → Option (List ℕ)) → Option (List ℕ) → ScriptState → List ℕ
    → W → Type 0
HasReplied is_sent contents begun from bytes writer =
    (lines : List ℕ) × (rest : List ℕ) × (text : List ℕ) × (count : ℕ) × (now : ScriptState)
    × (bytes ≡ lines ++ rest) × IsPlain rest × Answered from lines text count now
    × Appends begun (contents writer) text × is_sent writer

-- the bytes are of one line, and nothing is written since its beginning, nor unsent
abbrev pub IsWithin : {W : Type 0} → (W → Type 0) → (W → Option (List ℕ)) → W → List ℕ → W → Type 0
IsWithin is_sent contents old bytes writer = IsPlain bytes × Keeps (contents old) (contents writer) × is_sent writer

-- what a wait gave: bytes, none at the end of the input; or it failed
abbrev pub given : Result (Option ℕ) RunFault → Option (List ℕ)
given (Ok byte) = Some (option_to_list byte)
given (Err fault) = None

-- what it did to the bytes that are left, where these are known
abbrev pub Gives : Option (List ℕ) → Option (List ℕ) → Option (List ℕ) → Type 0
Gives old new (Some bytes) = Consumes old new bytes
Gives old new None = Keeps old new

-- The dialogue of a run: where its reader waits, the replies to all whole lines read are sent. It may end with a fault
-- that was none after 2^64 - 2 lines
abbrev pub RunTalks : {R W A : Type 0} → (R → R → List ℕ → Type 0) → (W → R → R → Option (List ℕ) → Type 0)
    → (W → Type 0) → (W → Type 0) → (W → Option (List ℕ)) → ScriptState → R → R → W → W → Result A RunFault → Type 0
RunTalks takes waits fails is_sent contents from first last begun writer result =
    Talks takes waits fails (HasReplied is_sent contents (contents begun) from) first last writer result
    ⊎ ((lines : List ℕ) × (text : List ℕ) × (count : ℕ) × (to : ScriptState) × (count + 2 ≡ 2 ^ 64)
    × Answered from lines text count to
    × Dialogue takes waits (HasReplied is_sent contents (contents begun) from) first last lines)
