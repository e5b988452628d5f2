-- Commands and replies as C has them (own).
use Rattle.std.specs.Prelude.{◌≡◌, ◌≢◌, ℕ, ◌-◌, ◌==◌, nat_lt, Option, Some, None, option_map, Result, Ok, Err, if◌then◌else◌}
use Rattle.ksm_base.specs.declared.command.Command.{Command}
use Rattle.ksm_base.specs.declared.command.Command.TheVariants.{Register, Drop, Store, Scan, Prune, Unmerge, Mergeable, MovePage, MoveDup}
use Rattle.ksm_base.specs.declared.fault.Fault.{Fault}
use Rattle.ksm_base.specs.declared.fault.Fault.TheVariants as fault
use Rattle.ksm_base.specs.declared.page.GuestPage.{GuestPage}
use Rattle.ksm_base.specs.declared.reply.Reply.{Reply}
use Rattle.ksm_base.specs.declared.reply.Reply.TheVariants.{Done, Scanned, Pruned, Unmerged}
use Rattle.ksm_base.specs.Knobs.{knob_numbered, setting}
use Rattle.ksm_ffi.specs.Answers.{number_of}
use Rattle.ksm_ffi.specs.declared.answer.Answer.{Answer}
use Rattle.ksm_ffi.specs.declared.answer.Answer.TheVariants as answer
use Rattle.ksm_ffi.specs.declared.request.Request.{Request}
use Rattle.ksm_ffi.specs.declared.request.Made.{Made}

-- the page that is meant
abbrev pub page_in : Request → GuestPage
page_in r = record { guest = r.guest; page = r.page }

-- the command, if there is one of this kind
abbrev pub commanded : Request → Option Command
commanded r =
    if r.kind == 1 then Some (Register (page_in r) r.node r.bytes)
    else if r.kind == 2 then Some (Drop (page_in r))
    else if r.kind == 3 then Some (Store (page_in r) r.bytes)
    else if r.kind == 4 then Some (Scan r.visits)
    else if r.kind == 5 then Some Prune
    else if r.kind == 6 then Some (Unmerge r.guest)
    else if r.kind == 7 then Some (Mergeable r.guest)
    else if r.kind == 8 then Some (MovePage (page_in r) r.node)
    else if r.kind == 9 then Some (MoveDup r.value r.node)
    else if nat_lt r.kind 10 then None
    else option_map (λ knob. setting knob r.value) (knob_numbered (r.kind - 10))

-- how a fault is answered
abbrev pub fault_answer : Fault → Answer
fault_answer fault.Memory = answer.Memory
fault_answer fault.UnknownPage = answer.UnknownPage
fault_answer fault.AlreadyRegistered = answer.AlreadyRegistered
fault_answer (fault.NoFrame node) = answer.NoFrame
fault_answer fault.NotRunning = answer.NotRunning
fault_answer fault.SharedPages = answer.SharedPages
fault_answer fault.BadValue = answer.BadValue
fault_answer fault.InUse = answer.InUse
fault_answer fault.CrossesNodes = answer.CrossesNodes
fault_answer fault.UnknownPlace = answer.UnknownPlace
fault_answer fault.BadNode = answer.BadNode

-- the node of which no frame was free, or 0
abbrev pub node_of : Fault → ℕ
node_of (fault.NoFrame node) = node
node_of f = 0

-- how a command is answered
abbrev pub answered : Result Reply Fault → Answer
answered (Ok reply) = answer.Done
answered (Err f) = fault_answer f

-- so many, and the fault at which it stopped
abbrev pub IsMade : ℕ → Option Fault → Made → Type 0
IsMade count None m = m ≡ record { count = count; stop = 0; node = 0 }
IsMade count (Some f) m = m ≡ record { count = count; stop = number_of (fault_answer f); node = node_of f }

-- what is told of a refusal: the node of which no frame was free
abbrev pub TellsFault : Fault → Made → Type 0
TellsFault f m = (node : ℕ) → f ≡ fault.NoFrame node → m ≡ record { count = 0; stop = 0; node = node }

-- what is told of a reply, or of a refusal
abbrev pub TellsMade : Result Reply Fault → Made → Type 0
TellsMade (Ok Done) m = IsMade 0 None m
TellsMade (Ok (Scanned visits stop)) m = IsMade visits stop m
TellsMade (Ok (Pruned count)) m = IsMade count None m
TellsMade (Ok (Unmerged pages stop)) m = IsMade pages stop m
TellsMade (Err f) m = TellsFault f m

-- where a command was not done, and no frame was wanting, nothing is told
abbrev pub LeavesMade : Answer → Made → Made → Type 0
LeavesMade a before m = a ≢ answer.Done → a ≢ answer.NoFrame → m ≡ before
