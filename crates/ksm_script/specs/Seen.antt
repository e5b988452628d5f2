-- What contracts see of a session.
use Rattle.std.specs.Prelude.{ℕ, List}
use Rattle.ksm_shared.specs.declared.seen.Caller.{Caller}
use Rattle.ksm_shared.specs.Locked.{state_seen}
use Rattle.ksm_shared.specs.Named.{PartsId}
use Rattle.ksm_shared.specs.Seen.{entries}
use Rattle.ksm_script.specs.declared.pass_state.PassState.{PassState}
use Rattle.ksm_script.specs.State.{ScriptState}

pub record SessionView : Type 0 where
  pub state : ScriptState
  -- the bytes of the line that was read last
  pub line : List ℕ

-- the journal that the one share has seen, the book state to which it leads, and the passes
abbrev pub script_of : PartsId → Caller → List PassState → ScriptState
script_of parts share passes = record { book = state_seen parts share; journal = entries share.seen; passes = passes }
