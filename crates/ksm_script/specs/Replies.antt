-- The reply lines (own).
use Rattle.std.specs.Prelude.{ℕ, List, [], ◌∷◌, Option, Some, None, codes, decimal}
use Rattle.std.specs.List.{concat, flat_map}
use Rattle.ksm_base.specs.declared.page.GuestPage.{GuestPage}
use Rattle.ksm_base.specs.declared.counters.Counters.{Counters}
use Rattle.ksm_base.specs.declared.fault.Fault.{Fault}
use Rattle.ksm_base.specs.Values.{fault_number}
use Rattle.ksm_script.specs.declared.reply.LineReply.{LineReply}
use Rattle.ksm_script.specs.declared.reply.LineReply.TheVariants as told
use Rattle.frame_table.specs.Gone.{why_number}
use Rattle.ksm_audit.specs.declared.report.Row.{Row}
use Rattle.ksm_audit.specs.declared.report.Row.TheVariants as rows
use Rattle.ksm_script.specs.Texts.{content_text, refusal_number}

-- the content of a page
abbrev pub content_line : List ℕ → List ℕ
content_line content = concat (content_text content ∷ codes "\n" ∷ [])

-- a name and a number
abbrev pub counted_text : List ℕ → ℕ → List ℕ
counted_text name count = concat (name ∷ decimal count ∷ codes "\n" ∷ [])

-- a name, a number, and the refusal that stopped the command, if one did
abbrev pub stopped_text : List ℕ → ℕ → Option Fault → List ℕ
stopped_text name count None = counted_text name count
stopped_text name count (Some fault) =
    concat (name ∷ decimal count ∷ codes " refused " ∷ decimal (fault_number fault) ∷ codes "\n" ∷ [])

-- the counters, each behind its name
abbrev pub counters_text : Counters → List ℕ
counters_text c =
    concat (
    codes "stat shared=" ∷ decimal c.shared ∷ codes " sharing=" ∷ decimal c.sharing
    ∷ codes " unshared=" ∷ decimal c.unshared ∷ codes " volatile=" ∷ decimal c.volatile
    ∷ codes " chains=" ∷ decimal c.chains ∷ codes " dups=" ∷ decimal c.dups
    ∷ codes " full_scans=" ∷ decimal c.full_scans ∷ codes "\n" ∷ [])

-- a page that is merged into a dup
abbrev pub mapper_text : GuestPage → List ℕ
mapper_text page = concat (codes " " ∷ decimal page.guest ∷ codes ":" ∷ decimal page.page ∷ [])

-- the pages that are merged into a dup
abbrev pub mappers_text : List GuestPage → List ℕ
mappers_text pages = concat (codes "rmap" ∷ flat_map mapper_text pages ∷ codes "\n" ∷ [])

-- a name, and the frame that is held in a life
abbrev pub held_text : List ℕ → ℕ → ℕ → List ℕ
held_text name frame generation = concat (name ∷ decimal frame ∷ codes " " ∷ decimal generation ∷ codes "\n" ∷ [])

-- how the lookup of a place ended
abbrev pub row_text : Row → List ℕ
row_text (rows.Found generation bytes) =
    concat (codes " found:" ∷ decimal generation ∷ codes ":" ∷ content_text bytes ∷ [])
row_text (rows.Gone why) = concat (codes " gone:" ∷ decimal (why_number why) ∷ [])
row_text rows.Busy = codes " busy"

-- the rows of an audit
abbrev pub audit_text : List Row → List ℕ
audit_text rows = concat (codes "audit" ∷ flat_map row_text rows ∷ codes "\n" ∷ [])

-- the line of a reply
abbrev pub text_of : LineReply → List ℕ
text_of told.Done = codes "ok\n"
text_of (told.Content content) = content_line content
text_of (told.Place place) = counted_text (codes "place ") place
text_of told.Private = codes "private\n"
text_of (told.Mappers pages) = mappers_text pages.items
text_of (told.Scanned visits stop) = stopped_text (codes "scanned ") visits stop
text_of (told.Pruned count) = counted_text (codes "pruned ") count
text_of (told.Unmerged pages stop) = stopped_text (codes "unmerged ") pages stop
text_of (told.Value value) = counted_text [] value
text_of (told.Counters counters) = counters_text counters
text_of (told.Held frame generation) = held_text (codes "held ") frame generation
text_of (told.Differs frame generation) = held_text (codes "differs ") frame generation
text_of (told.Gone why) = counted_text (codes "gone ") (why_number why)
text_of told.Busy = codes "busy\n"
text_of (told.Audit rows) = audit_text rows
text_of (told.Refused refusal) = counted_text (codes "refused ") (refusal_number refusal)
text_of (told.BadLine number) = counted_text (codes "bad line ") number
