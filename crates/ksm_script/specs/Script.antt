-- What a run reads and writes (own).
use Rattle.std.specs.Prelude.{◌≡◌, ◌≢◌, ℕ, ◌+◌, ◌≤◌, List, [], ◌∷◌, ◌++◌, length, Option, Some, ◌⊎◌, Result, Ok, Err}
use Rattle.std.specs.Io.KnownBytes.{Appends, Consumes, IsAtEnd}
use Rattle.ksm_lines.specs.declared.line.Line.{Line}
use Rattle.ksm_lines.specs.declared.line.LineFault.{LineFault}
use Rattle.ksm_script.specs.declared.reply.LineReply.{LineReply}
use Rattle.ksm_script.specs.declared.reply.LineReply.TheVariants.{BadLine as Bad}
use Rattle.ksm_script.specs.declared.script.End.{End}
use Rattle.ksm_script.specs.declared.script.End.TheVariants.{AllRead, BadLine}
use Rattle.ksm_script.specs.declared.script.RunFault.{RunFault}
use Rattle.ksm_script.specs.declared.script.RunFault.TheVariants.{Read, Write}
use Rattle.ksm_script.specs.declared.input.LineEnd.{LineEnd}
use Rattle.ksm_script.specs.declared.input.LineEnd.TheVariants.{Newline, Input, TooLong}
use Rattle.ksm_lines.specs.Grammar.{Writes, IsNoLine}
use Rattle.ksm_script.specs.Input.{EndsAs, IsPlain}
use Rattle.ksm_script.specs.State.{ScriptState}
use Rattle.ksm_script.specs.Answering.{Answers, AllGivenBack, reply_text}
use Rattle.ksm_script.specs.Replies.{text_of}
use Rattle.ksm_script.specs.Texts.{AppendsBroken, AppendsPart}

-- a line was carried out: it writes a form, which is answered so
pub record CarriesOut (now : ScriptState) (line : List ℕ) (reply : Option LineReply) (next : ScriptState) : Type 0 where
  pub form : Line
  pub plain : IsPlain line
  pub short : length line ≤ 256
  pub written : Writes form line
  pub answers : Answers form now reply next

-- Lines in order from one state to another: their bytes, the text of their replies, and how many they are.
pub data Answered : ScriptState → List ℕ → List ℕ → ℕ → ScriptState → Type 0 where
  none : {s : ScriptState} → Answered s [] [] 0 s
  more : {s now : ScriptState} {bytes text : List ℕ} {count : ℕ} → Answered s bytes text count now
      → (line : List ℕ) (reply : Option LineReply) (next : ScriptState) → CarriesOut now line reply next
      → Answered s (bytes ++ (line ++ 10 ∷ [])) (text ++ reply_text reply) (count + 1) next

-- what was read of these lines: all of it, or all but the newline that the last line of the input lacks
abbrev pub ReadFor : List ℕ → List ℕ → Option (List ℕ) → Type 0
ReadFor lines bytes left = (bytes ≡ lines) ⊎ ((bytes ++ 10 ∷ [] ≡ lines) × IsAtEnd left)

-- whole lines were read, and answered with a text
abbrev pub AnsweredAll : Option (List ℕ) → Option (List ℕ) → ScriptState → ScriptState → List ℕ → Type 0
AnsweredAll old new from to text =
    (lines : List ℕ) × (bytes : List ℕ) × (count : ℕ) × Answered from lines text count to × ReadFor lines bytes new
    × Consumes old new bytes

-- whole lines were read, and answered with a text; then one more was read, and carried out with this reply
abbrev pub AnsweredLast : Option (List ℕ) → Option (List ℕ) → ScriptState → ScriptState → List ℕ → LineReply → Type 0
AnsweredLast old new from to text reply =
    (lines : List ℕ) × (line : List ℕ) × (bytes : List ℕ) × (count : ℕ) × (now : ScriptState)
    × Answered from lines text count now
    × CarriesOut now line (Some reply) to × ReadFor (lines ++ (line ++ 10 ∷ [])) bytes new × Consumes old new bytes

-- so many whole lines were read and answered with a text, and some bytes were read behind them
abbrev pub AnsweredBefore : Option (List ℕ) → Option (List ℕ) → ScriptState → ScriptState → List ℕ → ℕ → List ℕ → Type 0
AnsweredBefore old new from to text count bytes =
    (lines : List ℕ) × Answered from lines text count to × Consumes old new (lines ++ bytes)

-- a bad line, by how it ended: none of the forms, or more bytes than a line may have
abbrev pub IsBad : LineEnd → List ℕ → Option (List ℕ) → Type 0
IsBad Newline line left = IsNoLine line
IsBad Input line left = IsNoLine line × IsAtEnd left
IsBad TooLong line left = Unit {0}

-- what a line that ended so is read as: a form that it writes, unless it is too long, and else bad
abbrev pub IsReadAs : Result Line LineFault → LineEnd → List ℕ → Type 0
IsReadAs (Ok form) end line = (end ≢ TooLong) × Writes form line
IsReadAs (Err fault) end line = end ≢ TooLong → IsNoLine line

-- so many whole lines were read and answered with a text, and then a bad line was read
abbrev pub AnsweredToBad : Option (List ℕ) → Option (List ℕ) → ScriptState → ScriptState → List ℕ → ℕ → Type 0
AnsweredToBad old new from to text count =
    (line : List ℕ) × (bytes : List ℕ) × (end : LineEnd) × AnsweredBefore old new from to text count bytes
    × IsPlain line × EndsAs end line bytes × IsBad end line new

-- what the reader still gives and what stands in the writer, at the beginning and at the end of a run
pub record Streams : Type 0 where
  pub unread : Option (List ℕ)
  pub left : Option (List ℕ)
  pub begun : Option (List ℕ)
  pub written : Option (List ℕ)

abbrev pub streams : Option (List ℕ) → Option (List ℕ) → Option (List ℕ) → Option (List ℕ) → Streams
streams unread left begun written = record { unread = unread; left = left; begun = begun; written = written }

-- one whole line was read, carried out and answered
abbrev pub AnsweredOne : Streams → ScriptState → ScriptState → Type 0
AnsweredOne io from to =
    (line : List ℕ) × (reply : Option LineReply) × CarriesOut from line reply to
    × Consumes io.unread io.left (line ++ 10 ∷ [])
    × Appends io.begun io.written (reply_text reply)

-- one whole line was read and carried out, and a beginning of its reply is written
abbrev pub AnsweredPart : Streams → ScriptState → ScriptState → Type 0
AnsweredPart io from to =
    (line : List ℕ) × (reply : LineReply) × CarriesOut from line (Some reply) to
    × Consumes io.unread io.left (line ++ 10 ∷ [])
    × AppendsPart io.begun io.written (text_of reply)

-- What was read, done and written, by how it ended. At a failed write a beginning of one reply stands behind those
-- before it: that of the line read last, or of a bad line
abbrev pub Goes : Streams → ScriptState → ScriptState → Result End RunFault → Type 0
Goes io from to (Ok AllRead) =
    (text : List ℕ) × AnsweredAll io.unread io.left from to text × Appends io.begun io.written text × IsAtEnd io.left
Goes io from to (Ok (BadLine number)) =
    (text : List ℕ) × (count : ℕ) × (number ≡ count + 1) × AnsweredToBad io.unread io.left from to text count
    × Appends io.begun io.written (text ++ text_of (Bad number))
Goes io from to (Err Read) =
    (text : List ℕ) × (count : ℕ) × (rest : List ℕ) × IsPlain rest × (length rest ≤ 256)
    × AnsweredBefore io.unread io.left from to text count rest × Appends io.begun io.written text
Goes io from to (Err Write) =
    ((text : List ℕ) × (reply : LineReply) × AnsweredLast io.unread io.left from to text reply
    × AppendsBroken io.begun io.written text (text_of reply))
    ⊎ ((text : List ℕ) × (count : ℕ) × AnsweredToBad io.unread io.left from to text count
    × AppendsBroken io.begun io.written text (text_of (Bad (count + 1))))

-- a run, at whose end all holds were given back
pub record Runs (io : Streams) (from to : ScriptState) (ended : Result End RunFault) : Type 0 where
  pub last : ScriptState
  pub goes : Goes io from last ended
  pub given : AllGivenBack last to
