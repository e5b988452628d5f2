-- Worked scripts of passes: the cursor, the pages that wait, and how many passes have ended. Own.
use Rattle.std.specs.Prelude.{ℕ, List, [], ◌∷◌, ◌++◌, None, Some, Ok, true, false}
use Rattle.ksm_base.specs.declared.row.PageState.TheVariants.{Private, Waiting, Merged}
use Rattle.ksm_base.specs.declared.command.Command.TheVariants.{Scan, Mergeable, MovePage, MoveDup, SetRun, SetPagesToScan, SetAcross, SetLimit}
use Rattle.ksm_base.specs.declared.reply.Reply.TheVariants.{Scanned, Unmerged}
use Rattle.ksm_base.specs.declared.fault.Fault.TheVariants.{Memory}
use Rattle.ksm_worked.specs.Scripts.{Line, gives, shows, stands, lies_at, at, dup, lies, ok, reg, put, drop, scan, prune, unmerge, stopped, stat}

-- a pass goes on where it was after other knobs and after an unmerging
abbrev pub pass_goes_on_behind_knobs : List Line
pass_goes_on_behind_knobs =
    reg 0 0 0 0xaa ∷ reg 0 1 0 0xbb ∷ reg 0 2 0 0xcc ∷ reg 1 0 0 0xdd ∷ ok (SetRun 1) ∷ scan 1 ∷ ok (SetRun 0) ∷ ok (SetRun 1)
    ∷ ok (SetLimit 3) ∷ ok (SetAcross 0) ∷ unmerge 1 0 ∷ scan 2 ∷ stat 0 0 0 3 0 0 1 ∷ []

-- a pass goes on behind the page visited last, where that was dropped
abbrev pub pass_goes_on_behind_a_dropped_page : List Line
pass_goes_on_behind_a_dropped_page =
    reg 0 0 0 0xaa ∷ reg 0 1 0 0xbb ∷ reg 0 2 0 0xcc ∷ ok (SetRun 1) ∷ scan 2 ∷ drop 0 1 ∷ scan 1 ∷ stat 0 0 0 2 0 0 1 ∷ []

-- a pass visits the pages behind its cursor alone, also those that came late
abbrev pub pages_that_come_late : List Line
pages_that_come_late =
    reg 0 1 0 0xaa ∷ reg 0 5 0 0xbb ∷ ok (SetRun 1) ∷ scan 1 ∷ reg 0 0 0 0xcc ∷ reg 0 3 0 0xdd ∷ scan 2 ∷ stat 0 0 0 4 0 0 1
    ∷ lies 0 0 0 0xcc true false Private ∷ lies 0 3 0 0xdd true true Private ∷ lies 0 5 0 0xbb true true Private ∷ []

-- a pass that ends before a visit ends the waiting too
abbrev pub pass_that_ends_early_ends_the_waiting : List Line
pass_that_ends_early_ends_the_waiting =
    reg 0 0 0 0xaa ∷ reg 0 1 0 0xbb ∷ reg 0 2 0 0xcc ∷ ok (SetRun 1) ∷ scan 5 ∷ drop 0 2 ∷ stat 0 0 2 0 0 0 1 ∷ scan 1
    ∷ stat 0 0 1 1 0 0 2 ∷ []

-- another limit, a run of 0 and the unmerging of another guest leave the waiting pages
abbrev pub knobs_leave_the_waiting : List Line
knobs_leave_the_waiting =
    reg 0 0 0 0xaa ∷ reg 0 1 0 0xbb ∷ ok (SetRun 1) ∷ scan 3 ∷ reg 1 0 0 0xcc ∷ ok (SetLimit 3) ∷ ok (SetRun 0) ∷ unmerge 1 0
    ∷ stat 0 0 1 1 0 0 1 ∷ lies_at (at 0 0) None ∷ []

-- a run of 2 that stops keeps the cursor, the flags and the pages that wait; the pages that it took are not unchanged
abbrev pub stopped_run_of_two_keeps_the_cursor : List Line
stopped_run_of_two_keeps_the_cursor =
    reg 0 1 0 0xaa ∷ reg 0 2 0 0xaa ∷ ok (SetRun 1) ∷ scan 4 ∷ reg 0 0 0 0xbb ∷ reg 0 3 0 0xcc ∷ scan 9
    ∷ stopped (SetRun 2) 1 0 ∷ lies 0 0 0 0xbb true true Waiting ∷ lies 0 1 0 0xaa true false Private
    ∷ lies 0 2 0 0xaa true true (Merged 0) ∷ lies 0 3 0 0xcc true true Private
    ∷ shows (λ k. k.merge_across_nodes) 1 ∷ shows (λ k. k.max_page_sharing) 256
    ∷ drop 0 2 ∷ ok (SetRun 1) ∷ scan 2 ∷ stat 0 0 2 1 0 0 5 ∷ []

-- how many passes have ended is counted up to the greatest number of 64 bits, and stays there
abbrev pub passes_stay_at_the_greatest_number : List Line
passes_stay_at_the_greatest_number =
    reg 0 0 0 0xaa ∷ ok (SetRun 1) ∷ scan 1 ∷ stat 0 0 0 1 0 0 0xffffffffffffffff ∷ scan 1
    ∷ stat 0 0 1 0 0 0 0xffffffffffffffff ∷ []

-- where no page is mergeable a scan makes no visit: the pass doesn't end, and pages that are registered later are visited in it
abbrev pub scan_of_nothing_ends_no_pass : List Line
scan_of_nothing_ends_no_pass =
    ok (SetRun 1) ∷ gives (Scan 3) (Ok (Scanned 0 None)) ∷ stat 0 0 0 0 0 0 0 ∷ reg 0 0 0 0xaa ∷ reg 0 1 0 0xbb ∷ scan 1
    ∷ unmerge 0 0 ∷ gives (Scan 3) (Ok (Scanned 0 None)) ∷ stat 0 0 0 0 0 0 0 ∷ ok (Mergeable 0) ∷ scan 1
    ∷ lies 0 0 0 0xaa true false Private ∷ lies 0 1 0 0xbb true true Private ∷ stat 0 0 0 2 0 0 1 ∷ []

-- in the middle of a pass: two pages are merged, one waits, one is unchanged, one is left out of the scan, and a dup is stale
abbrev pub middle_of_a_pass : List Line
middle_of_a_pass =
    ok (SetPagesToScan 7) ∷ ok (SetAcross 0) ∷ ok (SetLimit 3) ∷ reg 0 0 1 0xaa ∷ reg 0 1 1 0xaa ∷ reg 0 2 1 0xbb ∷ reg 0 3 1 0xbb
    ∷ reg 1 0 1 0xee ∷ unmerge 1 0 ∷ ok (SetRun 1) ∷ scan 8 ∷ put 0 2 0xcc ∷ put 0 3 0xdd ∷ scan 7 ∷ []

-- the settings there, with this run
abbrev pub settings_there : ℕ → List Line
settings_there run =
    shows (λ k. k.run) run ∷ shows (λ k. k.pages_to_scan) 7 ∷ shows (λ k. k.merge_across_nodes) 0
    ∷ shows (λ k. k.max_page_sharing) 3 ∷ []

-- the rows there
abbrev pub rows_there : List Line
rows_there =
    lies 0 0 1 0xaa true true (Merged 0) ∷ lies 0 1 1 0xaa true true (Merged 0) ∷ lies 0 2 1 0xcc true true Waiting
    ∷ lies 0 3 1 0xdd true true Private ∷ lies 1 0 1 0xee false false Private ∷ []

-- all that is seen there
abbrev pub all_there : List Line
all_there = rows_there ++ settings_there 1 ++ stands (dup 0 0 1 0xaa ∷ dup 1 1 1 0xbb ∷ []) ∷ stat 1 1 1 1 0 0 3 ∷ []

-- settings, a move to a page's home, a move of a dup, and a guest made mergeable that was so change nothing else
abbrev pub settings_change_nothing_else : List Line
settings_change_nothing_else =
    middle_of_a_pass ++ ok (SetRun 0) ∷ ok (SetPagesToScan 9) ∷ ok (SetPagesToScan 7) ∷ ok (SetAcross 0) ∷ ok (SetLimit 3)
    ∷ settings_there 0 ++ ok (SetRun 1) ∷ ok (MovePage (at 0 0) 1) ∷ ok (MovePage (at 0 2) 1) ∷ ok (MoveDup 0 1)
    ∷ ok (Mergeable 0) ∷ all_there

-- what is done to one page changes no other page, no dup, no setting, and not the pass
abbrev pub other_pages_stay : List Line
other_pages_stay =
    middle_of_a_pass ++ reg 2 0 0 0xff ∷ lies 2 0 0 0xff true false Private ∷ put 2 0 0xfe ∷ ok (MovePage (at 2 0) 1)
    ∷ lies 2 0 1 0xfe true false Private ∷ unmerge 2 0 ∷ lies 2 0 1 0xfe false false Private ∷ ok (Mergeable 2)
    ∷ lies 2 0 1 0xfe true false Private ∷ drop 2 0 ∷ all_there

-- pruning drops the stale dups alone; the pass goes on, and the next dup has the next number
abbrev pub pruning_drops_stale_dups_alone : List Line
pruning_drops_stale_dups_alone =
    middle_of_a_pass ++ prune 1 ∷ rows_there ++ settings_there 1 ++ stands (dup 0 0 1 0xaa ∷ []) ∷ scan 1
    ∷ lies 0 3 1 0xdd true true Waiting ∷ stat 1 1 2 0 0 0 4 ∷ put 0 3 0xcc ∷ scan 8
    ∷ stands (dup 0 0 1 0xaa ∷ dup 2 1 1 0xcc ∷ []) ∷ stat 2 2 0 0 0 0 6 ∷ []

-- a visit changes its own page alone: one waits, and one joins a dup
abbrev pub visits_change_their_pages_alone : List Line
visits_change_their_pages_alone =
    middle_of_a_pass ++ reg 2 0 1 0xaa ∷ scan 1 ∷ lies 0 3 1 0xdd true true Waiting ∷ stat 1 1 2 1 0 0 3 ∷ scan 1
    ∷ lies 0 0 1 0xaa true true (Merged 0) ∷ lies 0 1 1 0xaa true true (Merged 0) ∷ lies 0 2 1 0xcc true true Waiting
    ∷ lies 0 3 1 0xdd true true Waiting ∷ lies 1 0 1 0xee false false Private ∷ lies 2 0 1 0xaa true false (Merged 0)
    ∷ settings_there 1 ++ stands (dup 0 0 1 0xaa ∷ dup 1 1 1 0xbb ∷ []) ∷ stat 1 2 2 0 0 0 4 ∷ []

-- the visit that makes a dup changes its two pages alone
abbrev pub new_dup_takes_two_pages_alone : List Line
new_dup_takes_two_pages_alone =
    middle_of_a_pass ++ reg 2 0 1 0xcc ∷ scan 7
    ∷ lies 0 0 1 0xaa true true (Merged 0) ∷ lies 0 1 1 0xaa true true (Merged 0) ∷ lies 0 2 1 0xcc true true (Merged 2)
    ∷ lies 0 3 1 0xdd true true Waiting ∷ lies 1 0 1 0xee false false Private ∷ lies 2 0 1 0xcc true true (Merged 2)
    ∷ settings_there 1 ++ stands (dup 0 0 1 0xaa ∷ dup 1 1 1 0xbb ∷ dup 2 2 1 0xcc ∷ []) ∷ stat 2 2 1 0 0 0 5 ∷ []

-- a scan that stops for memory has ended the waiting where a pass begins, and changed nothing else
abbrev pub stopped_scan_changes_nothing_else : List Line
stopped_scan_changes_nothing_else =
    middle_of_a_pass ++ gives (Scan 3) (Ok (Scanned 0 (Some Memory))) ∷ all_there ++ gives (Scan 3) (Ok (Scanned 1 (Some Memory)))
    ∷ lies 0 0 1 0xaa true true (Merged 0) ∷ lies 0 1 1 0xaa true true (Merged 0) ∷ lies 0 2 1 0xcc true true Private
    ∷ lies 0 3 1 0xdd true true Private ∷ lies 1 0 1 0xee false false Private ∷ settings_there 1
    ++ stands (dup 0 0 1 0xaa ∷ dup 1 1 1 0xbb ∷ []) ∷ stat 1 1 0 2 0 0 4 ∷ put 0 3 0xcc ∷ scan 8
    ∷ stands (dup 0 0 1 0xaa ∷ dup 1 1 1 0xbb ∷ dup 2 2 1 0xcc ∷ []) ∷ stat 2 2 0 0 0 0 6 ∷ []

-- an unmerging leaves dups, settings and cursor; another limit then drops the stale dups, and nothing else
abbrev pub unmerging_leaves_the_dups : List Line
unmerging_leaves_the_dups =
    middle_of_a_pass ++ unmerge 0 2 ∷ lies 0 0 1 0xaa false false Private ∷ lies 0 1 1 0xaa false false Private
    ∷ lies 0 2 1 0xcc false false Private ∷ lies 0 3 1 0xdd false false Private ∷ settings_there 1
    ++ stands (dup 0 0 1 0xaa ∷ dup 1 1 1 0xbb ∷ []) ∷ stat 0 0 0 0 0 0 3 ∷ ok (Mergeable 0)
    ∷ lies 0 2 1 0xcc true false Private ∷ lies 1 0 1 0xee false false Private ∷ ok (SetRun 0) ∷ ok (SetLimit 4) ∷ stands []
    ∷ shows (λ k. k.run) 0 ∷ shows (λ k. k.pages_to_scan) 7 ∷ shows (λ k. k.merge_across_nodes) 0 ∷ ok (SetAcross 1)
    ∷ shows (λ k. k.run) 0 ∷ shows (λ k. k.pages_to_scan) 7 ∷ shows (λ k. k.max_page_sharing) 4 ∷ ok (SetRun 1) ∷ scan 1
    ∷ lies 0 2 1 0xcc true false Private ∷ lies 0 3 1 0xdd true true Private ∷ stat 0 0 0 4 0 0 4 ∷ scan 8
    ∷ stands (dup 2 0 0 0xaa ∷ []) ∷ stat 1 1 2 0 0 0 6 ∷ []

-- a run of 2 leaves dups and other settings, and the next dups have the next numbers
abbrev pub run_of_two_leaves_the_dups : List Line
run_of_two_leaves_the_dups =
    middle_of_a_pass ++ gives (SetRun 2) (Ok (Unmerged 2 None)) ∷ lies 0 0 1 0xaa true false Private
    ∷ lies 0 1 1 0xaa true false Private ∷ lies 0 2 1 0xcc true false Private ∷ lies 0 3 1 0xdd true false Private
    ∷ lies 1 0 1 0xee false false Private ∷ settings_there 2 ++ stands (dup 0 0 1 0xaa ∷ dup 1 1 1 0xbb ∷ []) ∷ stat 0 0 0 4 0 0 3
    ∷ ok (SetRun 1) ∷ put 0 3 0xcc ∷ scan 8 ∷ stands (dup 0 0 1 0xaa ∷ dup 1 1 1 0xbb ∷ dup 2 2 1 0xaa ∷ dup 3 3 1 0xcc ∷ [])
    ∷ stat 2 2 0 0 1 2 5 ∷ []

-- a run of 2 that stops has taken the pages before, set run to 0, and changed nothing else
abbrev pub stopped_run_of_two_changes_nothing_else : List Line
stopped_run_of_two_changes_nothing_else =
    middle_of_a_pass ++ reg 3 0 1 0xf0 ∷ reg 3 1 1 0xf1 ∷ reg 3 2 1 0xf2 ∷ stopped (SetRun 2) 1 1
    ∷ lies 0 0 1 0xaa true false Private ∷ lies 0 1 1 0xaa true true (Merged 0) ∷ lies 0 2 1 0xcc true true Waiting
    ∷ lies 0 3 1 0xdd true true Private ∷ lies 1 0 1 0xee false false Private ∷ lies 3 0 1 0xf0 true false Private
    ∷ settings_there 0 ++ stands (dup 0 0 1 0xaa ∷ dup 1 1 1 0xbb ∷ []) ∷ stat 1 0 1 5 0 0 3
    ∷ drop 3 0 ∷ drop 3 1 ∷ drop 3 2 ∷ ok (SetRun 1) ∷ put 0 3 0xcc ∷ scan 1 ∷ stat 1 0 1 2 0 0 4 ∷ scan 4
    ∷ stands (dup 0 0 1 0xaa ∷ dup 1 1 1 0xbb ∷ dup 2 2 1 0xcc ∷ []) ∷ stat 2 2 0 0 0 0 5 ∷ []
