-- Worked scripts of knobs, refusals and unmerging. Own.
use Rattle.std.specs.Prelude.{List, [], ◌∷◌, ◌++◌, None, Ok}
use Rattle.ksm_base.specs.declared.command.Command.TheVariants.{Register, Store, Scan, Unmerge, Mergeable, SetRun, SetPagesToScan, SetAcross, SetLimit}
use Rattle.ksm_base.specs.declared.reply.Reply.TheVariants.{Scanned, Unmerged}
use Rattle.ksm_base.specs.declared.fault.Fault.TheVariants.{UnknownPage, AlreadyRegistered, NotRunning, SharedPages, BadValue, BadNode}
use Rattle.ksm_worked.specs.Scripts.{Line, gives, shows, at, full, ok, refused, reg, scan, unmerge, stat, merged}

-- with merge_across_nodes 0 each node has trees of its own
abbrev pub nodes_kept_apart : List Line
nodes_kept_apart =
    ok (SetAcross 0) ∷ reg 0 0 0 0xaa ∷ reg 1 0 1 0xaa ∷ ok (SetRun 1) ∷ scan 4 ∷ stat 0 0 2 0 0 0 2 ∷ []

-- merge_across_nodes changes only without shared pages
abbrev pub knob_waits_for_unmerging : List Line
knob_waits_for_unmerging =
    merged ++ refused SharedPages (SetAcross 0) ∷ gives (SetRun 2) (Ok (Unmerged 2 None)) ∷ ok (SetAcross 0)
    ∷ shows (λ k. k.merge_across_nodes) 0 ∷ stat 0 0 0 2 0 0 2 ∷ []

-- commands that are refused, one refusal after the other
abbrev pub refusals_of_commands : List Line
refusals_of_commands =
    refused BadValue (SetLimit 1) ∷ refused NotRunning (Scan 1) ∷ refused UnknownPage (Store (at 5 5) (full 0xaa))
    ∷ refused BadNode (Register (at 0 0) 1 (full 0xaa)) ∷ reg 0 0 0 0xaa
    ∷ refused AlreadyRegistered (Register (at 0 0) 0 (full 0xbb)) ∷ []

-- an unmerged guest isn't scanned until it is mergeable again
abbrev pub mergeable_again : List Line
mergeable_again =
    merged ++ unmerge 0 2 ∷ gives (Scan 2) (Ok (Scanned 0 None)) ∷ ok (Mergeable 0) ∷ scan 4 ∷ stat 1 1 0 0 1 2 4
    ∷ refused UnknownPage (Mergeable 7) ∷ refused UnknownPage (Unmerge 7) ∷ []

-- a scan of pages_to_scan visits
abbrev pub scan_of_pages_to_scan : List Line
scan_of_pages_to_scan =
    merged ++ refused BadValue (SetPagesToScan 0) ∷ ok (SetPagesToScan 3) ∷ scan 3 ∷ shows (λ k. k.pages_to_scan) 3
    ∷ stat 1 1 0 0 0 0 3 ∷ []
