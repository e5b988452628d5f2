-- Worked scripts at the edges of the rules, one for each clause that the others leave untried. Own.
use Rattle.std.specs.Prelude.{List, [], ◌∷◌, ◌++◌, None, Some, Ok, Err}
use Rattle.ksm_base.specs.declared.command.Command.TheVariants.{Register, Drop, Store, Scan, Prune, Unmerge, Mergeable, MovePage, MoveDup, SetRun, SetAcross, SetLimit}
use Rattle.ksm_base.specs.declared.reply.Reply.TheVariants.{Done, Scanned, Pruned, Unmerged}
use Rattle.ksm_base.specs.declared.fault.Fault.TheVariants.{Memory, NoFrame, InUse}
use Rattle.ksm_worked.specs.Scripts.{Line, gives, never, shows, maps, at, full, ok, reg, put, drop, scan, prune, unmerge, stopped, stat, ticket, merged}

-- of two dups with as many items a page joins the one made first, wherever it stands
abbrev pub tie_goes_to_the_dup_made_first : List Line
tie_goes_to_the_dup_made_first =
    ok (SetLimit 2) ∷ reg 0 0 0 0xaa ∷ reg 0 1 0 0xaa ∷ reg 0 2 0 0xaa ∷ reg 0 3 0 0xaa ∷ ok (SetRun 1) ∷ scan 8
    ∷ drop 0 0 ∷ drop 0 1 ∷ prune 1 ∷ reg 0 4 0 0xaa ∷ reg 0 5 0 0xaa ∷ scan 8 ∷ ticket 0 2 1 ∷ ticket 0 4 0
    ∷ drop 0 2 ∷ drop 0 4 ∷ reg 0 6 0 0xaa ∷ scan 3 ∷ maps 0 (Some (at 0 5 ∷ [])) ∷ maps 1 (Some (at 0 3 ∷ at 0 6 ∷ [])) ∷ []

-- waiting ends as a pass begins
abbrev pub waiting_ends_as_a_pass_begins : List Line
waiting_ends_as_a_pass_begins =
    reg 0 0 0 0xaa ∷ reg 0 1 0 0xbb ∷ ok (SetRun 1) ∷ scan 4 ∷ stat 0 0 2 0 0 0 2 ∷ scan 1 ∷ stat 0 0 1 1 0 0 2 ∷ []

-- a pass ends before the next visit where the pages that it had left are gone
abbrev pub pass_ends_where_the_rest_is_gone : List Line
pass_ends_where_the_rest_is_gone =
    reg 0 0 0 0xaa ∷ reg 0 1 0 0xaa ∷ ok (SetRun 1) ∷ scan 1 ∷ drop 0 1 ∷ stat 0 0 0 1 0 0 0 ∷ scan 1 ∷ stat 0 0 1 0 0 0 2 ∷ []

-- a scan that is refused memory for a visit has begun it, and no more
abbrev pub scan_stops_for_memory : List Line
scan_stops_for_memory =
    reg 0 0 0 0xaa ∷ reg 0 1 0 0xbb ∷ ok (SetRun 1) ∷ scan 4 ∷ gives (Scan 2) (Ok (Scanned 0 (Some Memory)))
    ∷ stat 0 0 0 2 0 0 2 ∷ shows (λ k. k.merge_across_nodes) 1 ∷ scan 2 ∷ stat 0 0 2 0 0 0 3 ∷ []

-- pages are ordered by guest, then by page
abbrev pub guests_come_first : List Line
guests_come_first =
    reg 1 0 0 0xaa ∷ reg 0 5 0 0xaa ∷ ok (SetRun 1) ∷ scan 4 ∷ maps 0 (Some (at 0 5 ∷ at 1 0 ∷ [])) ∷ []

-- a page that moves stays unchanged, so one pass more merges it
abbrev pub move_keeps_unchanged : List Line
move_keeps_unchanged =
    reg 0 0 0 0xaa ∷ reg 0 1 0 0xaa ∷ ok (SetRun 1) ∷ scan 2 ∷ ok (MovePage (at 0 0) 1) ∷ scan 2 ∷ stat 1 1 0 0 0 0 2 ∷ []

-- a page that moves merges with pages of its new home
abbrev pub moved_page_merges_at_its_new_home : List Line
moved_page_merges_at_its_new_home =
    ok (SetAcross 0) ∷ reg 0 0 0 0xaa ∷ reg 0 1 1 0xaa ∷ ok (MovePage (at 0 0) 1) ∷ ok (SetRun 1) ∷ scan 4
    ∷ stat 1 1 0 0 0 0 2 ∷ []

-- a merged page that moves to its home stays merged
abbrev pub move_to_its_home_changes_nothing : List Line
move_to_its_home_changes_nothing = merged ++ ok (MovePage (at 0 0) 0) ∷ ticket 0 0 0 ∷ stat 1 1 0 0 0 0 2 ∷ []

-- a store of other bytes clears unchanged, so the page needs a pass more
abbrev pub store_clears_unchanged : List Line
store_clears_unchanged =
    reg 0 0 0 0xaa ∷ reg 0 1 0 0xbb ∷ ok (SetRun 1) ∷ scan 2 ∷ put 0 1 0xaa ∷ scan 2 ∷ stat 0 0 1 1 0 0 2
    ∷ scan 2 ∷ stat 1 1 0 0 0 0 3 ∷ []

-- a run of 2 clears unchanged, and starts the scan at the first page without counting a pass
abbrev pub run_of_two_starts_the_scan_anew : List Line
run_of_two_starts_the_scan_anew =
    reg 0 0 0 0xaa ∷ reg 0 1 0 0xaa ∷ ok (SetRun 1) ∷ scan 3 ∷ stat 0 0 1 1 0 0 1 ∷ gives (SetRun 2) (Ok (Unmerged 0 None))
    ∷ stat 0 0 0 2 0 0 1 ∷ shows (λ k. k.run) 2 ∷ ok (SetRun 1) ∷ scan 1 ∷ stat 0 0 0 2 0 0 1 ∷ scan 1 ∷ stat 0 0 0 2 0 0 2 ∷ []

-- a run of 2 that finds no frame has taken the merged pages before, and leaves all others, those that wait too
abbrev pub run_of_two_stops_part_way : List Line
run_of_two_stops_part_way =
    reg 0 1 0 0xaa ∷ reg 0 2 0 0xaa ∷ ok (SetRun 1) ∷ scan 4 ∷ reg 0 0 0 0xbb ∷ reg 0 3 0 0xcc ∷ scan 8 ∷ stat 1 1 2 0 0 0 4
    ∷ stopped (SetRun 2) 1 0 ∷ stat 1 0 2 1 0 0 4 ∷ ticket 0 2 0 ∷ shows (λ k. k.run) 0 ∷ []

-- unmerging takes one guest, whose pages the scan leaves out from then on; making it mergeable again takes that guest alone
abbrev pub unmerging_takes_one_guest : List Line
unmerging_takes_one_guest =
    reg 0 0 0 0xaa ∷ reg 1 0 0 0xaa ∷ reg 2 0 0 0xaa ∷ ok (SetRun 1) ∷ scan 6 ∷ stat 1 2 0 0 0 0 2
    ∷ unmerge 0 1 ∷ unmerge 1 1 ∷ stat 1 0 0 0 0 0 2 ∷ ticket 2 0 0 ∷ scan 2 ∷ stat 1 0 0 0 0 0 4 ∷ ok (Mergeable 0)
    ∷ stat 1 0 0 1 0 0 4 ∷ []

-- pages that were unmerged are not unchanged, so they need two passes more
abbrev pub unmerged_pages_start_anew : List Line
unmerged_pages_start_anew = merged ++ unmerge 0 2 ∷ ok (Mergeable 0) ∷ scan 2 ∷ stat 0 0 0 2 0 0 3 ∷ []

-- another value of merge_across_nodes ends all waiting, and pages of two nodes may merge from then on
abbrev pub other_trees_end_the_waiting : List Line
other_trees_end_the_waiting =
    ok (SetAcross 0) ∷ reg 0 0 0 0xaa ∷ reg 0 1 1 0xaa ∷ ok (SetRun 1) ∷ scan 4 ∷ stat 0 0 2 0 0 0 2
    ∷ ok (SetAcross 1) ∷ stat 0 0 0 2 0 0 2 ∷ scan 2 ∷ stat 1 1 0 0 0 0 3 ∷ []

-- a page whose bytes are merged on another node waits, with merge_across_nodes 0
abbrev pub page_of_another_node_waits : List Line
page_of_another_node_waits = ok (SetAcross 0) ∷ merged ++ reg 1 0 1 0xaa ∷ scan 6 ∷ stat 1 1 1 0 0 0 4 ∷ []

-- another value of either knob drops the stale dups
abbrev pub other_values_drop_stale_dups : List Line
other_values_drop_stale_dups =
    merged ++ put 0 0 0xbb ∷ put 0 1 0xbb ∷ ok (SetLimit 3) ∷ prune 0 ∷ scan 4 ∷ put 0 0 0xcc ∷ put 0 1 0xdd ∷ ok (SetAcross 0)
    ∷ prune 0 ∷ []

-- a knob may be set to the value that it has while pages are shared, and then drops no stale dup
abbrev pub own_values_change_nothing : List Line
own_values_change_nothing =
    merged ++ ok (SetLimit 256) ∷ ok (SetAcross 1) ∷ put 0 0 0xbb ∷ put 0 1 0xcc ∷ ok (SetLimit 256) ∷ ok (SetAcross 1) ∷ prune 1 ∷ []

-- answers that never come: a frame missed where none is needed, or on another node; visits left out; a wrong count
abbrev pub answers_that_never_come : List Line
answers_that_never_come =
    reg 0 0 0 0xaa ∷ never (Store (at 0 0) (full 0xbb)) (Err (NoFrame 0)) ∷ never (MovePage (at 0 0) 0) (Err (NoFrame 0))
    ∷ never (MovePage (at 0 0) 1) (Err (NoFrame 0)) ∷ never (Register (at 0 1) 0 (full 0)) (Err (NoFrame 1))
    ∷ never (Register (at 0 0) 0 (full 0)) (Ok Done) ∷ never (Drop (at 0 0)) (Err (NoFrame 0)) ∷ never (Scan 1) (Ok (Scanned 1 None))
    ∷ ok (SetRun 1) ∷ never (Scan 2) (Ok (Scanned 1 None)) ∷ never (Scan 2) (Ok (Scanned 2 (Some Memory)))
    ∷ never Prune (Ok (Pruned 1)) ∷ never (MoveDup 0 0) (Err InUse) ∷ reg 0 1 0 0xaa ∷ scan 4
    ∷ never (Store (at 0 0) (full 0xbb)) (Err (NoFrame 1)) ∷ never (SetRun 2) (Ok Done) ∷ never (SetRun 2) (Ok (Unmerged 1 None))
    ∷ never (SetRun 2) (Ok (Unmerged 2 (Some (NoFrame 0)))) ∷ never (Unmerge 0) (Ok (Unmerged 1 (Some (NoFrame 1))))
    ∷ unmerge 0 2 ∷ never (Scan 2) (Ok (Scanned 2 None)) ∷ never (Scan 2) (Ok (Scanned 0 (Some Memory))) ∷ []
