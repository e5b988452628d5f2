-- The state of a script (own).
use Rattle.std.specs.Prelude.{List}
use Rattle.ksm_base.specs.Journal.{Entry}
use Rattle.ksm_base.specs.State.{BookState}
use Rattle.ksm_script.specs.declared.pass_state.PassState.{PassState}

-- the book with its journal, and the passes in the order of their numbers: each with its log, and with the frame that
-- it holds if it holds one
pub record ScriptState : Type 0 where
  pub book : BookState
  pub journal : List Entry
  pub passes : List PassState
