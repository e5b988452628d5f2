-- The replies of a run that broke off (own).
use Rattle.std.specs.Prelude.{◌≡◌, ◌+◌, ◌++◌, ◌⊎◌, ℕ, List, Option}
use Rattle.ksm_script.specs.State.{ScriptState}
use Rattle.ksm_script.specs.declared.reply.LineReply.TheVariants.{BadLine}
use Rattle.ksm_script.specs.Answering.{AllGivenBack}
use Rattle.ksm_script.specs.Replies.{text_of}
use Rattle.ksm_script.specs.Script.{AnsweredAll, AnsweredBefore, AnsweredToBad}

-- the replies to what was read: to whole lines, to lines and a bad one, or to the lines before one that is not whole
abbrev pub RepliesTo : Option (List ℕ) → Option (List ℕ) → ScriptState → ScriptState → List ℕ → Type 0
RepliesTo old new from to text =
    AnsweredAll old new from to text
    ⊎ (((before : List ℕ) × (count : ℕ) × AnsweredToBad old new from to before count
    × (text ≡ before ++ text_of (BadLine (count + 1))))
    ⊎ ((count : ℕ) × (rest : List ℕ) × AnsweredBefore old new from to text count rest))

-- the same, where all holds were given back then
abbrev pub Replies : Option (List ℕ) → Option (List ℕ) → ScriptState → ScriptState → List ℕ → Type 0
Replies old new from to text = (last : ScriptState) × RepliesTo old new from last text × AllGivenBack last to
