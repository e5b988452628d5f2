-- Worked lines, by which the definitions of the script are tried: what a line is answered in a state, and what never
-- (own).
use Rattle.std.specs.Prelude.{◌≡◌, ℕ, ◌*◌, ◌^◌, List, [], ◌∷◌, ◌++◌, length, Option, None, Some, Ok, Err}
use Rattle.std.specs.Global.{Vec}
use Rattle.std.specs.List.{repeat}
use Rattle.ksm_base.specs.declared.page.GuestPage.{GuestPage}
use Rattle.ksm_base.specs.declared.page.TheConstants.{PAGE_WORDS}
use Rattle.ksm_base.specs.declared.shape.Shape.{Shape}
use Rattle.ksm_base.specs.declared.command.Command.{Command}
use Rattle.ksm_base.specs.declared.command.Command.TheVariants as commands
use Rattle.ksm_base.specs.declared.knobs.Knob.TheVariants.{Run}
use Rattle.ksm_base.specs.declared.reply.Reply.TheVariants as replies
use Rattle.ksm_base.specs.declared.fault.Fault.{Fault}
use Rattle.ksm_base.specs.declared.fault.Fault.TheVariants.{Memory, UnknownPage, NotRunning, BadValue, UnknownPlace, BadNode}
use Rattle.ksm_base.specs.State.{opening}
use Rattle.frame_table.specs.declared.pass.Why.TheVariants.{Vacant}
use Rattle.frame_table.specs.Named.{TableName, PassView, HeldView}
use Rattle.frame_table.specs.Lookup.{ReaderLog, IsVacant}
use Rattle.frame_table.specs.Seats.{new_pass}
use Rattle.ksm_audit.specs.declared.report.Row.{Row}
use Rattle.ksm_audit.specs.Lookups.{word_loads}
use Rattle.ksm_lines.specs.declared.knob.Shown.TheVariants.{Knob as OfKnob}
use Rattle.ksm_lines.specs.declared.line.Line.{Line}
use Rattle.ksm_lines.specs.declared.line.Line.TheVariants as lines
use Rattle.ksm_lines.specs.declared.line.PageLine.TheVariants as pages
use Rattle.ksm_lines.specs.declared.line.RareLine.TheVariants as rares
use Rattle.ksm_lines.specs.declared.line.ShortLine.TheVariants as shorts
use Rattle.ksm_script.specs.declared.pass_state.PassState.TheVariants.{Idle, Holding}
use Rattle.ksm_script.specs.declared.refusal.Refusal.TheVariants.{Book, NoPass, NotHolding, Holding as PassHolds}
use Rattle.ksm_script.specs.declared.reply.LineReply.{LineReply}
use Rattle.ksm_script.specs.declared.reply.LineReply.TheVariants as told
use Rattle.ksm_script.specs.State.{ScriptState}
use Rattle.ksm_script.specs.Answering.{Answers, commanded}

-- a shape of so many nodes and frames a node
abbrev pub shape : ℕ → ℕ → Shape
shape nodes frames = record { nodes = nodes; frames_per_node = frames; passes = 2; last_generation = 2 ^ 40; tries = 8 }

-- a page by its guest and number
abbrev pub at : ℕ → ℕ → GuestPage
at guest page = record { guest = guest; page = page }

-- bytes that are all equal
abbrev pub full : ℕ → List ℕ
full byte = repeat PAGE_WORDS (byte * 0x0101010101010101 ∷ [])

-- the line may be answered so, and then leaves this state and no other
abbrev pub Leads : ScriptState → Line → Option LineReply → ScriptState → Type 0
Leads s line reply next = Answers line s reply next × ((n : ScriptState) → Answers line s reply n → n ≡ next)

-- the line is never answered so
abbrev pub Never : ScriptState → Line → Option LineReply → Type 0
Never s line reply = (n : ScriptState) → ¬ (Answers line s reply n)

-- a refusal is noted in the journal, and nothing else changes
abbrev pub noted : ScriptState → Command → Fault → ScriptState
noted s command fault = record s { journal = s.journal ++ (command, Err fault) ∷ [] }

-- four frames and two passes, with no page
abbrev pub start : TableName → ScriptState
start t = record { book = opening (shape 1 4); journal = []; passes = Idle (new_pass t) ∷ Idle (new_pass t) ∷ [] }

abbrev pub register : ℕ → Command
register page = commands.Register (at 0 page) 0 (full 0xaa)

-- two equal pages are merged
abbrev pub merged : TableName → ScriptState
merged t = commanded (commanded (commanded (commanded (start t) (register 0) (Ok replies.Done)) (register 1)
    (Ok replies.Done)) (commands.SetRun 1) (Ok replies.Done)) (commands.Scan 4) (Ok (replies.Scanned 4 None))

-- Lines that are commands
pub record CommandLines (t : TableName) : Type 0 where
  pub registered : Leads (start t) (lines.Page (pages.Register (at 0 0) 0) (full 0xaa)) (Some told.Done)
      (commanded (start t) (register 0) (Ok replies.Done))
  pub no_memory : Leads (start t) (lines.Page (pages.Register (at 0 0) 0) (full 0xaa)) (Some (told.Refused (Book Memory)))
      (start t)
  pub not_unknown : Never (start t) (lines.Page (pages.Register (at 0 0) 0) (full 0xaa))
      (Some (told.Refused (Book UnknownPage)))
  pub no_page : Leads (start t) (lines.Rare (rares.Drop (at 0 0))) (Some (told.Refused (Book UnknownPage)))
      (noted (start t) (commands.Drop (at 0 0)) UnknownPage)
  pub not_dropped : Never (start t) (lines.Rare (rares.Drop (at 0 0))) (Some told.Done)
  pub stored : Leads (merged t) (lines.Page (pages.Store (at 0 0)) (full 0xbb)) (Some told.Done)
      (commanded (merged t) (commands.Store (at 0 0) (full 0xbb)) (Ok replies.Done))
  pub not_stored : Never (start t) (lines.Page (pages.Store (at 0 0)) (full 0xbb)) (Some told.Done)
  pub scanned : Leads (merged t) (lines.Short (shorts.Scan 2)) (Some (told.Scanned 2 None))
      (commanded (merged t) (commands.Scan 2) (Ok (replies.Scanned 2 None)))
  pub not_more : Never (merged t) (lines.Short (shorts.Scan 2)) (Some (told.Scanned 3 None))
  pub scanned_by_knob : Leads (merged t) (lines.Rare rares.ScanPages) (Some (told.Scanned 100 None))
      (commanded (merged t) (commands.Scan 100) (Ok (replies.Scanned 100 None)))
  pub not_by_knob : Never (merged t) (lines.Rare rares.ScanPages) (Some (told.Scanned 4 None))
  pub not_running : Leads (start t) (lines.Short (shorts.Scan 2)) (Some (told.Refused (Book NotRunning)))
      (noted (start t) (commands.Scan 2) NotRunning)
  pub pruned : Leads (merged t) (lines.Rare rares.Prune) (Some (told.Pruned 0))
      (commanded (merged t) commands.Prune (Ok (replies.Pruned 0)))
  pub not_pruned : Never (merged t) (lines.Rare rares.Prune) (Some (told.Pruned 1))
  pub unmerged : Leads (merged t) (lines.Rare (rares.Unmerge 0)) (Some (told.Unmerged 2 None))
      (commanded (merged t) (commands.Unmerge 0) (Ok (replies.Unmerged 2 None)))
  pub not_one : Never (merged t) (lines.Rare (rares.Unmerge 0)) (Some (told.Unmerged 1 None))
  pub mergeable : Leads (merged t) (lines.Rare (rares.Mergeable 0)) (Some told.Done)
      (commanded (merged t) (commands.Mergeable 0) (Ok replies.Done))
  pub not_mergeable : Never (merged t) (lines.Rare (rares.Mergeable 7)) (Some told.Done)
  pub no_node : Leads (merged t) (lines.Rare (rares.MovePage (at 0 0) 9)) (Some (told.Refused (Book BadNode)))
      (noted (merged t) (commands.MovePage (at 0 0) 9) BadNode)
  pub not_moved : Never (merged t) (lines.Rare (rares.MovePage (at 0 0) 9)) (Some told.Done)
  pub no_dup : Leads (merged t) (lines.Rare (rares.MoveDup 3 0)) (Some (told.Refused (Book UnknownPlace)))
      (noted (merged t) (commands.MoveDup 3 0) UnknownPlace)
  pub not_moved_dup : Never (merged t) (lines.Rare (rares.MoveDup 3 0)) (Some told.Done)
  pub bad_value : Leads (merged t) (lines.Rare (rares.Set Run 3)) (Some (told.Refused (Book BadValue)))
      (noted (merged t) (commands.SetRun 3) BadValue)
  pub not_set : Never (merged t) (lines.Rare (rares.Set Run 3)) (Some told.Done)

-- Lines that read the book
pub record ReadingLines (t : TableName) : Type 0 where
  pub nothing : Leads (merged t) lines.Empty None (merged t)
  pub not_done : Never (merged t) lines.Empty (Some told.Done)
  pub content : Leads (merged t) (lines.Short (shorts.Get (at 0 0))) (Some (told.Content (full 0xaa))) (merged t)
  pub not_another : Never (merged t) (lines.Short (shorts.Get (at 0 0))) (Some (told.Content (full 0xbb)))
  pub no_page : Leads (merged t) (lines.Short (shorts.Get (at 7 0))) (Some (told.Refused (Book UnknownPage))) (merged t)
  pub place : Leads (merged t) (lines.Short (shorts.Ticket (at 0 1))) (Some (told.Place 0)) (merged t)
  pub not_private : Never (merged t) (lines.Short (shorts.Ticket (at 0 1))) (Some told.Private)
  pub mappers : (pages : Vec GuestPage) → pages.items ≡ at 0 0 ∷ at 0 1 ∷ []
      → Leads (merged t) (lines.Rare (rares.Mappers 0)) (Some (told.Mappers pages)) (merged t)
  pub not_fewer : (pages : Vec GuestPage) → pages.items ≡ at 0 0 ∷ []
      → Never (merged t) (lines.Rare (rares.Mappers 0)) (Some (told.Mappers pages))
  pub not_without : Never (merged t) (lines.Rare (rares.Mappers 0)) (Some (told.Refused (Book UnknownPlace)))
  pub no_memory : Leads (merged t) (lines.Rare (rares.Mappers 0)) (Some (told.Refused (Book Memory))) (merged t)
  pub not_for_memory : Never (merged t) (lines.Rare (rares.Mappers 1)) (Some (told.Refused (Book Memory)))
  pub no_mappers : Leads (merged t) (lines.Rare (rares.Mappers 1)) (Some (told.Refused (Book UnknownPlace))) (merged t)
  pub not_empty : (pages : Vec GuestPage) → Never (merged t) (lines.Rare (rares.Mappers 1)) (Some (told.Mappers pages))
  pub value : Leads (merged t) (lines.Short (shorts.Show (OfKnob Run))) (Some (told.Value 1)) (merged t)
  pub not_zero : Never (merged t) (lines.Short (shorts.Show (OfKnob Run))) (Some (told.Value 0))

-- the pass 0 holds nothing, and the pass 1 a frame
abbrev pub one_holds : PassView → HeldView → ScriptState
one_holds v h = record { book = opening (shape 1 4); journal = []; passes = Idle v ∷ Holding h ∷ [] }

-- both hold
abbrev pub both_hold : HeldView → HeldView → ScriptState
both_hold h k = record { book = opening (shape 1 4); journal = []; passes = Holding h ∷ Holding k ∷ [] }

-- Lines of the passes, on four places
pub record LookupLines (v : PassView) (h k : HeldView) : Type 0 where
  pub no_pass : Leads (one_holds v h) (lines.Short (shorts.Find 2 9)) (Some (told.Refused NoPass)) (one_holds v h)
  pub holds : Leads (one_holds v h) (lines.Short (shorts.Find 1 9)) (Some (told.Refused PassHolds)) (one_holds v h)
  pub no_place : Leads (one_holds v h) (lines.Short (shorts.Find 0 4)) (Some (told.Refused (Book UnknownPlace)))
      (one_holds v h)
  pub not_busy : Never (one_holds v h) (lines.Short (shorts.Find 0 4)) (Some told.Busy)
  pub not_refused : Never (one_holds v h) (lines.Short (shorts.Find 0 3)) (Some (told.Refused (Book UnknownPlace)))
  pub not_while_held : Never (one_holds v h) (lines.Short (shorts.Find 1 3)) (Some told.Busy)
  pub vacant : (log : ReaderLog) → IsVacant 3 log
      → Leads (one_holds v h) (lines.Short (shorts.Find 0 3)) (Some (told.Gone Vacant))
      (one_holds (record v { log = v.log ++ log }) h)
  pub held : (frame generation : ℕ) (n : ScriptState) → Answers (lines.Short (shorts.Find 0 3)) (one_holds v h)
      (Some (told.Held frame generation)) n → (x : HeldView) × (n ≡ both_hold x h) × (x.place ≡ 3) × (x.frame ≡ frame)
  pub equal_no_pass : (page : List ℕ)
      → Leads (one_holds v h) (lines.Page (pages.Equal 2 9) page) (Some (told.Refused NoPass)) (one_holds v h)
  pub equal_holds : (page : List ℕ)
      → Leads (one_holds v h) (lines.Page (pages.Equal 1 9) page) (Some (told.Refused PassHolds)) (one_holds v h)
  pub equal_no_place : (page : List ℕ)
      → Leads (one_holds v h) (lines.Page (pages.Equal 0 4) page) (Some (told.Refused (Book UnknownPlace)))
      (one_holds v h)
  pub look_no_pass : Leads (one_holds v h) (lines.Short (shorts.Look 2)) (Some (told.Refused NoPass)) (one_holds v h)
  pub look_idle : Leads (one_holds v h) (lines.Short (shorts.Look 0)) (Some (told.Refused NotHolding)) (one_holds v h)
  pub not_looked : (bytes : List ℕ) → Never (one_holds v h) (lines.Short (shorts.Look 0)) (Some (told.Content bytes))
  pub looked : (bytes : List ℕ) (n : ScriptState) → Answers (lines.Short (shorts.Look 1)) (one_holds v h)
      (Some (told.Content bytes)) n
      → (x : HeldView) × (n ≡ one_holds v x) × (x.log ≡ h.log ++ word_loads 0 bytes)
  pub leave_no_pass : Leads (one_holds v h) (lines.Short (shorts.Leave 2)) (Some (told.Refused NoPass)) (one_holds v h)
  pub leave_idle : Leads (one_holds v h) (lines.Short (shorts.Leave 0)) (Some (told.Refused NotHolding)) (one_holds v h)
  pub not_left : Never (one_holds v h) (lines.Short (shorts.Leave 0)) (Some told.Done)
  pub left : (n : ScriptState) → Answers (lines.Short (shorts.Leave 1)) (one_holds v h) (Some told.Done) n
      → (w : PassView)
      × (n ≡ record { book = opening (shape 1 4); journal = []; passes = Idle v ∷ Idle w ∷ [] })
  pub audit_holds : Leads (both_hold h k) (lines.Rare rares.Audit) (Some (told.Refused PassHolds)) (both_hold h k)
  pub audit_not_held : Never (one_holds v h) (lines.Rare rares.Audit) (Some (told.Refused PassHolds))
  pub audit_memory : Leads (one_holds v h) (lines.Rare rares.Audit) (Some (told.Refused (Book Memory))) (one_holds v h)
  pub audited : (rows : List Row) (n : ScriptState) → Answers (lines.Rare rares.Audit) (one_holds v h)
      (Some (told.Audit rows)) n
      → (w : PassView) × (n ≡ one_holds w h) × (length rows ≡ 4)
  pub not_audited : (rows : List Row) → Never (both_hold h k) (lines.Rare rares.Audit) (Some (told.Audit rows))
