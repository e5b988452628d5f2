-- What the lines for lookups do with the passes (own).
use Rattle.std.specs.Prelude.{◌≡◌, ℕ, ◌⊎◌, ◌<◌, ◌≤◌, List, [], ◌∷◌, Option, Some, None, slice_get, slice_set}
use Rattle.std.specs.List.{AllZip}
use Rattle.ksm_base.specs.declared.fault.Fault.TheVariants.{Memory, UnknownPlace}
use Rattle.ksm_base.specs.Values.{frames_of}
use Rattle.frame_table.specs.declared.pass.Found.TheVariants as found
use Rattle.frame_table.specs.declared.equal.FoundEqual.TheVariants as compared
use Rattle.frame_table.specs.Named.{TableName, PassView}
use Rattle.frame_table.specs.Lookup.{LooksUp, Leaves}
use Rattle.frame_table.specs.Equal.{LooksUpEqual}
use Rattle.ksm_audit.specs.Lookups.{ReadsPage}
use Rattle.ksm_audit.specs.Answered.{Audited}
use Rattle.ksm_script.specs.declared.pass_state.PassState.{PassState}
use Rattle.ksm_script.specs.declared.pass_state.PassState.TheVariants.{Idle, Holding}
use Rattle.ksm_script.specs.declared.pass_state.Act.{Act}
use Rattle.ksm_script.specs.declared.pass_state.Act.TheVariants.{Find, Equal, Look, Leave}
use Rattle.ksm_script.specs.declared.refusal.Refusal.TheVariants.{Book, NoPass, NotHolding, Holding as PassHolds}
use Rattle.ksm_script.specs.declared.reply.LineReply.{LineReply}
use Rattle.ksm_script.specs.declared.reply.LineReply.TheVariants as told

-- the table of a pass
abbrev pub table_of : PassState → TableName
table_of (Idle v) = v.table
table_of (Holding h) = h.table

-- the reply tells how a lookup ended, and the pass holds what it found
abbrev pub Found : PassView → ℕ → LineReply → PassState → Type 0
Found v place (told.Held frame generation) (Holding h) =
    LooksUp v place (found.Held h) × (frame ≡ h.frame) × (generation ≡ h.generation)
Found v place (told.Gone why) (Idle w) = LooksUp v place (found.Gone w why)
Found v place told.Busy (Idle w) = LooksUp v place (found.Busy w)
Found v place _ _ = ⊥

-- the same of a lookup that compares the content with a page: it is held also where it differs
abbrev pub Compared : PassView → ℕ → List ℕ → LineReply → PassState → Type 0
Compared v place page (told.Held frame generation) (Holding h) =
    LooksUpEqual v place page (compared.Held h) × (frame ≡ h.frame) × (generation ≡ h.generation)
Compared v place page (told.Differs frame generation) (Holding h) =
    LooksUpEqual v place page (compared.Differs h) × (frame ≡ h.frame) × (generation ≡ h.generation)
Compared v place page (told.Gone why) (Idle w) = LooksUpEqual v place page (compared.Gone w why)
Compared v place page told.Busy (Idle w) = LooksUpEqual v place page (compared.Busy w)
Compared v place page _ _ = ⊥

-- what is refused leaves the pass as it is
abbrev pub IsRefused : LineReply → PassState → LineReply → PassState → Type 0
IsRefused refusal state reply next = (reply ≡ refusal) × (next ≡ state)

-- a lookup is refused where the pass holds, and then where there is no such place
abbrev pub RefusesLookup : ℕ → PassState → LineReply → Type 0
RefusesLookup place (Holding h) reply = reply ≡ told.Refused PassHolds
RefusesLookup place (Idle v) reply = (frames_of v.table.shape ≤ place) × (reply ≡ told.Refused (Book UnknownPlace))

-- refused, a lookup leaves the pass as it is
abbrev pub LooksUpBy : (PassView → LineReply → PassState → Type 0) → ℕ → PassState → LineReply → PassState → Type 0
LooksUpBy Looks place (Holding h) reply next = IsRefused (told.Refused PassHolds) (Holding h) reply next
LooksUpBy Looks place (Idle v) reply next =
    ((place < frames_of v.table.shape) × Looks v reply next)
    ⊎ ((frames_of v.table.shape ≤ place) × IsRefused (told.Refused (Book UnknownPlace)) (Idle v) reply next)

-- `find`
abbrev pub Finds : ℕ → PassState → LineReply → PassState → Type 0
Finds place = LooksUpBy (λ v. Found v place) place

-- `equal`
abbrev pub Equals : ℕ → List ℕ → PassState → LineReply → PassState → Type 0
Equals place page = LooksUpBy (λ v. Compared v place page) place

-- `look`: each word of the page is read in this hold
abbrev pub LooksAt : PassState → LineReply → PassState → Type 0
LooksAt (Idle v) reply next = IsRefused (told.Refused NotHolding) (Idle v) reply next
LooksAt (Holding h) (told.Content bytes) (Holding w) = ReadsPage h bytes w
LooksAt (Holding h) _ _ = ⊥

-- `leave`
abbrev pub GivesUp : PassState → LineReply → PassState → Type 0
GivesUp (Idle v) reply next = IsRefused (told.Refused NotHolding) (Idle v) reply next
GivesUp (Holding h) told.Done (Idle w) = Leaves h w
GivesUp (Holding h) _ _ = ⊥

-- what a line asks of one pass
abbrev pub Acts : Act → PassState → LineReply → PassState → Type 0
Acts (Find place) = Finds place
Acts (Equal place page) = Equals place page
Acts Look = LooksAt
Acts Leave = GivesUp

-- the pass of a number does this, and no other does anything; refused where there is none
abbrev pub DoesAt : (PassState → LineReply → PassState → Type 0) → Option PassState → ℕ → List PassState → LineReply
    → List PassState → Type 0
DoesAt Does None number passes reply next = (reply ≡ told.Refused NoPass) × (next ≡ passes)
DoesAt Does (Some state) number passes reply next =
    (after : PassState) × Does state reply after × (next ≡ slice_set passes number after)

abbrev pub AtPass : ℕ → (PassState → LineReply → PassState → Type 0) → List PassState → LineReply → List PassState
    → Type 0
AtPass number Does passes reply next = DoesAt Does (slice_get passes number) number passes reply next

-- the passes that hold nothing, in order
abbrev pub idle_of : List PassState → List PassView
idle_of [] = []
idle_of (Idle v ∷ passes) = v ∷ idle_of passes
idle_of (Holding h ∷ passes) = idle_of passes

-- what holds nothing still does, and a hold is as it was
abbrev pub HoldsStill : PassState → PassState → Type 0
HoldsStill (Holding h) next = next ≡ Holding h
HoldsStill (Idle v) (Idle w) = Unit {0}
HoldsStill (Idle v) (Holding h) = ⊥

-- what an audit by these passes replies, and how they come back: where memory is refused, as they were
abbrev pub AuditedBy : List PassView → LineReply → List PassView → Type 0
AuditedBy [] reply back = (reply ≡ told.Refused PassHolds) × (back ≡ [])
AuditedBy (v ∷ vs) (told.Audit rows) back = Audited v.table.shape (v ∷ vs) rows back
AuditedBy (v ∷ vs) (told.Refused (Book Memory)) back = back ≡ v ∷ vs
AuditedBy (v ∷ vs) _ back = ⊥

-- `audit`: by the passes that hold nothing
abbrev pub Audits : List PassState → LineReply → List PassState → Type 0
Audits passes reply next = AuditedBy (idle_of passes) reply (idle_of next) × AllZip HoldsStill passes next

-- the pass, whose hold was given back if it had one
abbrev pub IsGivenBack : PassState → PassView → Type 0
IsGivenBack (Idle v) w = w ≡ v
IsGivenBack (Holding h) w = Leaves h w

-- at the end of a run the pass holds nothing
abbrev pub EndsIdle : PassState → PassState → Type 0
EndsIdle state (Idle w) = IsGivenBack state w
EndsIdle state (Holding h) = ⊥

-- the pass holds nothing
abbrev pub IsIdle : PassState → Type 0
IsIdle (Idle v) = Unit {0}
IsIdle (Holding h) = ⊥
