-- The exit statuses of the program (own).
use Rattle.std.specs.Prelude.{◌≡◌, ◌⊎◌, ℕ, Bool, true, false, Result, Ok, Err}
use Rattle.clap.specs.declared.error.kind.ErrorKind.{ErrorKind}
use Rattle.clap.specs.declared.error.kind.ErrorKind.TheVariants.{OutOfMemory}
use Rattle.clap.specs.declared.error.Error.{Error}
use Rattle.clap.specs.Words.{kind_of}
use Rattle.ksm_base.specs.declared.shape.Shape.{Shape}
use Rattle.ksm_script.specs.declared.script.End.{End}
use Rattle.ksm_script.specs.declared.script.End.TheVariants.{AllRead, BadLine}
use Rattle.ksm_script.specs.declared.script.RunFault.{RunFault}
use Rattle.ksm_host.specs.declared.status.Status.{Status}
use Rattle.ksm_host.specs.declared.status.Status.TheVariants.{Done, NotUnderstood, Broken, NoMemory}

-- the number of a status
abbrev pub code_of : Status → ℕ
code_of Done = 0
code_of NotUnderstood = 2
code_of Broken = 3
code_of NoMemory = 4

-- the status after a run, whose last replies are sent or not
abbrev pub status_after : Result End RunFault → Bool → Status
status_after (Err fault) sent = Broken
status_after (Ok end) false = Broken
status_after (Ok AllRead) true = Done
status_after (Ok (BadLine line)) true = NotUnderstood

-- the status where clap answers something else than a parse: want of memory, or else the words are no options
abbrev pub status_at_options : ErrorKind → Status
status_at_options OutOfMemory = NoMemory
status_at_options _ = NotUnderstood

-- the shape that the options tell, or the status that the program ends with
abbrev pub told_of : Result Shape Error → Result Shape Status
told_of (Ok shape) = Ok shape
told_of (Err error) = Err (status_at_options (kind_of error))

-- a status of a program that ends before its first line
abbrev pub IsBeforeRun : Status → Type 0
IsBeforeRun status = (status ≡ NoMemory) ⊎ (status ≡ NotUnderstood)
