-- The refusals that the state decides, in the order in which they are tested. Own, where nothing else is said.
use Rattle.std.specs.Prelude.{ℕ, Bool, false, not, ◌&&◌, ◌==◌, nat_lt, nat_le, find, Option, Some, None, is_some, is_none, if◌then◌else◌}
use Rattle.std.specs.List.{list_any}
use Rattle.ksm_base.specs.declared.page.GuestPage.{GuestPage}
use Rattle.ksm_base.specs.declared.row.Row.{Row}
use Rattle.ksm_base.specs.declared.row.DupRow.{DupRow}
use Rattle.ksm_base.specs.declared.command.Command.{Command}
use Rattle.ksm_base.specs.declared.command.Command.TheVariants.{Register, Drop, Store, Scan, Unmerge, Mergeable, MovePage, MoveDup}
use Rattle.ksm_base.specs.declared.fault.Fault.{Fault}
use Rattle.ksm_base.specs.declared.fault.Fault.TheVariants.{UnknownPage, AlreadyRegistered, NotRunning, SharedPages, BadValue, CrossesNodes, UnknownPlace, BadNode}
use Rattle.ksm_base.specs.declared.knobs.Knob.{Knob}
use Rattle.ksm_base.specs.Knobs.{is_in_range, set_by, traits, value_in}
use Rattle.ksm_base.specs.Rows.{row_at, has_items}
use Rattle.ksm_base.specs.State.{BookState}
use Rattle.ksm_base.specs.Counting.{shared_count}

-- this fault where the test holds, else what the later tests find
abbrev pub refused_if : Bool → Fault → Option Fault → Option Fault
refused_if test fault later = if test then Some fault else later

-- the page has a row
abbrev pub is_known : BookState → GuestPage → Bool
is_known b page = is_some (row_at page b.rows)

-- the row is a page of this guest
abbrev pub is_of : ℕ → Row → Bool
is_of guest r = r.page.guest == guest

-- the guest has a row
abbrev pub has_guest : BookState → ℕ → Bool
has_guest b guest = list_any (is_of guest) b.rows

-- the node isn't there
abbrev pub is_no_node : BookState → ℕ → Bool
is_no_node b node = nat_le b.shape.nodes node

-- the dup with items at a place, if one stands there
abbrev pub live_dup_at : BookState → ℕ → Option DupRow
live_dup_at b place = find (λ d. d.place == place && has_items b.rows d) b.dups

-- a move of a dup to a node that isn't its tree, while each node has trees of its own
abbrev pub crosses : BookState → ℕ → Option DupRow → Bool
crosses b node None = false
crosses b node (Some d) = b.knobs.merge_across_nodes == 0 && not (d.tree == node)

-- a knob gets another value while pages are shared (admin-guide/mm/ksm for merge_across_nodes, own for max_page_sharing)
abbrev pub changes_while_shared : BookState → ℕ → ℕ → Bool
changes_while_shared b knob v = not (v == knob) && nat_lt 0 (shared_count b.rows b.dups)

-- the refusal of a command that sets a knob
abbrev pub setting_refusal : BookState → Option (Knob × ℕ) → Option Fault
setting_refusal b None = None
setting_refusal b (Some (knob, v)) =
    refused_if (not (is_in_range knob v)) BadValue (
    refused_if ((traits knob).fixed_while_shared && changes_while_shared b (value_in knob b.knobs) v) SharedPages None)

-- the refusal of a command; none where it is up to the frames
abbrev pub refusal : BookState → Command → Option Fault
refusal b (Register page node bytes) = refused_if (is_no_node b node) BadNode (refused_if (is_known b page) AlreadyRegistered None)
refusal b (Drop page) = refused_if (not (is_known b page)) UnknownPage None
refusal b (Store page bytes) = refused_if (not (is_known b page)) UnknownPage None
refusal b (Scan n) = refused_if (not (b.knobs.run == 1)) NotRunning None
refusal b (Unmerge guest) = refused_if (not (has_guest b guest)) UnknownPage None
refusal b (Mergeable guest) = refused_if (not (has_guest b guest)) UnknownPage None
refusal b (MovePage page node) = refused_if (is_no_node b node) BadNode (refused_if (not (is_known b page)) UnknownPage None)
refusal b (MoveDup place node) =
    refused_if (is_no_node b node) BadNode (
    refused_if (is_none (live_dup_at b place)) UnknownPlace (
    refused_if (crosses b node (live_dup_at b place)) CrossesNodes None))
refusal b command = setting_refusal b (set_by command)
