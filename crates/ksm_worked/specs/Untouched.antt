-- Worked scripts of what a command leaves as it is: every row, the settings, the pass. Own.
use Rattle.std.specs.Prelude.{List, [], ◌∷◌, ◌++◌, true, false}
use Rattle.ksm_base.specs.declared.row.PageState.TheVariants.{Private, Waiting, Zero}
use Rattle.ksm_base.specs.declared.command.Command.TheVariants.{Mergeable, MovePage, MoveDup, SetRun, SetPagesToScan, SetAcross, SetLimit, SetZeroPages}
use Rattle.ksm_worked.specs.Scripts.{Line, shows, stands, at, dup, lies, ok, reg, put, drop, scan, prune, unmerge, stat}

-- a page in each state in the middle of a pass, one left out of the scan, and settings that are not those of the opening
abbrev pub all_states : List Line
all_states =
    ok (SetZeroPages 1) ∷ ok (SetPagesToScan 7) ∷ reg 0 0 0 0 ∷ reg 0 1 0 0xaa ∷ reg 0 2 0 0xaa ∷ reg 0 3 0 0xbb ∷ reg 0 4 0 0xee ∷ reg 1 0 0 0xcc
    ∷ unmerge 1 0 ∷ ok (SetRun 1) ∷ scan 9 ∷ []

-- what is left of it: the settings, each row, the pass
abbrev pub all_left : List Line
all_left =
    shows (λ k. k.use_zero_pages) 1 ∷ shows (λ k. k.run) 1 ∷ shows (λ k. k.max_page_sharing) 256 ∷ lies 0 0 0 0 true true Zero
    ∷ lies 0 3 0 0xbb true true Waiting ∷ scan 1 ∷ lies 0 4 0 0xee true true Waiting ∷ lies 0 3 0 0xbb true true Waiting ∷ []

-- a page that moves changes no other page, no setting and not the pass; the next dup has the next number and place
abbrev pub move_changes_nothing_else : List Line
move_changes_nothing_else =
    all_states ++ ok (MovePage (at 1 0) 1) ∷ lies 1 0 1 0xcc false false Private ∷ shows (λ k. k.pages_to_scan) 7 ∷ all_left
    ++ ok (Mergeable 1) ∷ put 0 3 0xcc ∷ scan 14 ∷ stands (dup 0 0 0 0xaa ∷ dup 1 1 0 0xcc ∷ []) ∷ []

-- a dup that moves changes no page, no setting and not the pass
abbrev pub dup_move_changes_nothing_else : List Line
dup_move_changes_nothing_else =
    all_states ++ ok (MoveDup 0 1) ∷ shows (λ k. k.pages_to_scan) 7 ∷ lies 1 0 0 0xcc false false Private ∷ all_left

-- another pages_to_scan changes no page, no other setting and not the pass
abbrev pub pages_to_scan_changes_nothing_else : List Line
pages_to_scan_changes_nothing_else =
    all_states ++ ok (SetPagesToScan 9) ∷ shows (λ k. k.pages_to_scan) 9 ∷ lies 1 0 0 0xcc false false Private ∷ all_left

-- pruning without a stale dup, and a page dropped and registered again, change no other page, no setting and not the pass
abbrev pub prune_changes_nothing_else : List Line
prune_changes_nothing_else =
    all_states ++ prune 0 ∷ drop 1 0 ∷ reg 1 0 0 0xcc ∷ unmerge 1 0 ∷ shows (λ k. k.pages_to_scan) 7 ∷ lies 1 0 0 0xcc false false Private ∷ all_left

-- the knob of the zero page with a stale dup, pages of two trees, and settings that are not those of the opening
abbrev pub zero_knob_changes_nothing_else : List Line
zero_knob_changes_nothing_else =
    ok (SetPagesToScan 7) ∷ ok (SetLimit 9) ∷ ok (SetAcross 0) ∷ reg 0 0 0 0xaa ∷ reg 0 1 0 0xaa ∷ reg 0 2 0 0xbb ∷ reg 1 0 1 0xcc ∷ unmerge 1 0
    ∷ ok (SetRun 1) ∷ scan 6 ∷ put 0 0 0xdd ∷ put 0 1 0xdd ∷ scan 2 ∷ ok (SetZeroPages 1) ∷ shows (λ k. k.pages_to_scan) 7
    ∷ shows (λ k. k.max_page_sharing) 9 ∷ shows (λ k. k.merge_across_nodes) 0 ∷ shows (λ k. k.run) 1 ∷ lies 1 0 1 0xcc false false Private
    ∷ stands (dup 0 0 0 0xaa ∷ []) ∷ scan 4 ∷ stands (dup 0 0 0 0xaa ∷ dup 1 1 0 0xdd ∷ []) ∷ stat 1 1 1 0 0 0 4 ∷ []
