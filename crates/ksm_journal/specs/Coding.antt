-- How a journal keeps its entries: a command in eight bytes, an answer in one, and beside them what these have no room
-- for. Own.
use Rattle.std.specs.Prelude.{ℕ, ◌*◌, ◌<◌, Bool, true, false, not, ◌&&◌, List, [], ◌∷◌, slice_index_or, None, option_map, unwrap_or, Ok, Err, MatchBool, if◌then◌else◌}
use Rattle.std.specs.List.{repeat}
use Rattle.ksm_base.specs.declared.page.GuestPage.{GuestPage}
use Rattle.ksm_base.specs.declared.page.TheConstants.{PAGE_WORDS}
use Rattle.ksm_base.specs.declared.command.Command.{Command}
use Rattle.ksm_base.specs.declared.command.Command.TheVariants.{Register, Drop, Store, Scan, Prune, Unmerge, Mergeable, MovePage, MoveDup, SetRun}
use Rattle.ksm_base.specs.declared.reply.Reply.TheVariants.{Done, Scanned, Pruned, Unmerged}
use Rattle.ksm_base.specs.declared.fault.Fault.TheVariants.{UnknownPage, AlreadyRegistered, NoFrame, NotRunning, SharedPages, BadValue, InUse, CrossesNodes, UnknownPlace, BadNode}
use Rattle.ksm_base.specs.Answers.{Answer}
use Rattle.ksm_base.specs.Journal.{Entry}
use Rattle.ksm_base.specs.Knobs.{knob_numbered, setting}
use Rattle.ksm_journal.specs.declared.code.CommandKind.{CommandKind}
use Rattle.ksm_journal.specs.declared.code.CommandKind.TheVariants.{Storing, Registering0, Registering1, Registering2, Registering3, Dropping, Scanning, Unmerging, MakingMergeable, MovingPage}
use Rattle.ksm_journal.specs.declared.code.CommandKind.TheVariants.{MovingDup, SettingRun, Setting, StoringPage, RegisteringPage, Whole}
use Rattle.ksm_journal.specs.declared.code.CommandCode.{CommandCode}
use Rattle.ksm_journal.specs.declared.code.AnswerCode.{AnswerCode}
use Rattle.ksm_journal.specs.declared.code.AnswerCode.TheVariants.{AllDone, PageUnknown, PageKnown, FrameMissing0, FrameMissing1, FrameMissing2, FrameMissing3, ScanStands, PagesShared}
use Rattle.ksm_journal.specs.declared.code.AnswerCode.TheVariants.{ValueOutOfRange, DupInUse, NodesCrossed, PlaceUnknown, NodeUnknown, NumberScanned, NoneScanned, NumberPruned, NumberUnmerged}
use Rattle.ksm_journal.specs.declared.code.StoredPage.{StoredPage}

-- a page full of one byte
abbrev pub full : ℕ → List ℕ
full byte = repeat PAGE_WORDS (byte * 0x0101010101010101 ∷ [])

-- the page of a code
abbrev pub page_of : CommandCode → GuestPage
page_of c = record { guest = c.guest; page = c.number }

-- command and answer of a code of this kind are a row of the whole entries
abbrev pub is_whole : CommandKind → Bool
is_whole Whole = true
is_whole kind = false

-- the page and the bytes of a code of this kind are a row of the pages
abbrev pub is_beside : CommandKind → Bool
is_beside StoringPage = true
is_beside RegisteringPage = true
is_beside kind = false

-- a code of this kind has all parts of its command
abbrev pub tells_all : CommandKind → Bool
tells_all kind = not (is_whole kind) && not (is_beside kind)

-- rows that no code names
abbrev pub no_page : StoredPage
no_page = record { page = record { guest = 0; page = 0 }; bytes = full 0 }

abbrev pub no_entry : Entry
no_entry = (Prune, Ok Done)

-- the command that a code has all parts of
abbrev pub command_of : CommandKind → CommandCode → Command
command_of Storing c = Store (page_of c) (full c.byte)
command_of Registering0 c = Register (page_of c) 0 (full c.byte)
command_of Registering1 c = Register (page_of c) 1 (full c.byte)
command_of Registering2 c = Register (page_of c) 2 (full c.byte)
command_of Registering3 c = Register (page_of c) 3 (full c.byte)
command_of Dropping c = Drop (page_of c)
command_of Scanning c = Scan c.number
command_of Unmerging c = Unmerge c.guest
command_of MakingMergeable c = Mergeable c.guest
command_of MovingPage c = MovePage (page_of c) c.byte
command_of MovingDup c = MoveDup c.number c.byte
command_of SettingRun c = SetRun c.byte
command_of Setting c = unwrap_or (option_map (λ knob. setting knob c.number) (knob_numbered c.byte)) Prune
command_of kind c = Prune

-- the answer that a code tells beside a number
abbrev pub answer_of : AnswerCode → ℕ → Answer
answer_of AllDone number = Ok Done
answer_of PageUnknown number = Err UnknownPage
answer_of PageKnown number = Err AlreadyRegistered
answer_of FrameMissing0 number = Err (NoFrame 0)
answer_of FrameMissing1 number = Err (NoFrame 1)
answer_of FrameMissing2 number = Err (NoFrame 2)
answer_of FrameMissing3 number = Err (NoFrame 3)
answer_of ScanStands number = Err NotRunning
answer_of PagesShared number = Err SharedPages
answer_of ValueOutOfRange number = Err BadValue
answer_of DupInUse number = Err InUse
answer_of NodesCrossed number = Err CrossesNodes
answer_of PlaceUnknown number = Err UnknownPlace
answer_of NodeUnknown number = Err BadNode
answer_of NumberScanned number = Ok (Scanned number None)
answer_of NoneScanned number = Ok (Scanned 0 None)
answer_of NumberPruned number = Ok (Pruned number)
answer_of NumberUnmerged number = Ok (Unmerged number None)

-- the row of a code stands in the lists of so many pages and whole entries
abbrev pub IsInside : ℕ → ℕ → CommandKind → ℕ → Type 0
IsInside pages wholes kind row =
    MatchBool (is_whole kind) (row < wholes) (MatchBool (is_beside kind) (row < pages) (Unit {0}))

-- the command whose page and bytes stand in a row of the pages
abbrev pub command_beside : CommandKind → CommandCode → StoredPage → Command
command_beside StoringPage c p = Store p.page p.bytes
command_beside kind c p = Register p.page c.byte p.bytes

-- the entry of a code, with the lists beside it
abbrev pub entry_of : List StoredPage → List Entry → CommandKind → CommandCode → AnswerCode → Entry
entry_of pages wholes kind c answer =
    if is_whole kind then slice_index_or wholes c.number no_entry
    else (
      if is_beside kind then command_beside kind c (slice_index_or pages c.number no_page) else command_of kind c,
      answer_of answer c.number,
    )

-- the entries of the codes, in order
abbrev pub entries_of : List StoredPage → List Entry → List CommandCode → List AnswerCode → List Entry
entries_of pages wholes [] answers = []
entries_of pages wholes (c ∷ cs) [] = []
entries_of pages wholes (c ∷ cs) (t ∷ ts) = entry_of pages wholes c.kind c t ∷ entries_of pages wholes cs ts

-- what contracts see of the kept entries: which they are, and whether there is memory for one more
pub record KeptView : Type 0 where
  pub entries : List Entry
  pub has_room : Bool
