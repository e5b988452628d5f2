-- Worked scripts of refusals: which comes first, where a range ends, and what is refused for nothing. Own.
use Rattle.std.specs.Prelude.{List, [], ◌∷◌, ◌++◌, None, Ok, Err}
use Rattle.ksm_base.specs.declared.command.Command.TheVariants.{Register, Drop, Store, Scan, Unmerge, Mergeable, MovePage, MoveDup, SetRun, SetPagesToScan, SetAcross, SetLimit}
use Rattle.ksm_base.specs.declared.reply.Reply.TheVariants.{Unmerged}
use Rattle.ksm_base.specs.declared.fault.Fault.TheVariants.{UnknownPage, NotRunning, SharedPages, BadValue, UnknownPlace, BadNode}
use Rattle.ksm_worked.specs.Scripts.{Line, gives, never, shows, at, full, ok, refused, reg, put, drop, scan, prune, unmerge, stat, merged}

-- the settings at the start
abbrev pub settings_at_opening : List Line
settings_at_opening =
    shows (λ k. k.run) 0 ∷ shows (λ k. k.pages_to_scan) 100 ∷ shows (λ k. k.merge_across_nodes) 1
    ∷ shows (λ k. k.max_page_sharing) 256 ∷ []

-- of two refusals that a command meets the first in order is given
abbrev pub the_first_of_two_refusals : List Line
the_first_of_two_refusals =
    merged ++ refused BadNode (Register (at 0 0) 1 (full 0xaa)) ∷ refused BadNode (MovePage (at 5 5) 1)
    ∷ refused BadNode (MoveDup 3 1) ∷ refused BadValue (SetAcross 2) ∷ refused BadValue (SetLimit 1)
    ∷ refused BadValue (SetLimit 1025) ∷ []

-- each setting may have the least and the greatest value of its range, and none beside it
abbrev pub ranges_have_both_ends : List Line
ranges_have_both_ends =
    refused BadValue (SetPagesToScan 0) ∷ ok (SetPagesToScan 1) ∷ shows (λ k. k.pages_to_scan) 1
    ∷ ok (SetPagesToScan 1000000) ∷ shows (λ k. k.pages_to_scan) 1000000 ∷ refused BadValue (SetPagesToScan 1000001)
    ∷ refused BadValue (SetLimit 1) ∷ ok (SetLimit 2) ∷ shows (λ k. k.max_page_sharing) 2 ∷ ok (SetLimit 1024)
    ∷ shows (λ k. k.max_page_sharing) 1024 ∷ refused BadValue (SetLimit 1025)
    ∷ ok (SetAcross 0) ∷ shows (λ k. k.merge_across_nodes) 0 ∷ ok (SetAcross 1) ∷ shows (λ k. k.merge_across_nodes) 1
    ∷ refused BadValue (SetAcross 2) ∷ ok (SetRun 1) ∷ shows (λ k. k.run) 1 ∷ ok (SetRun 0) ∷ shows (λ k. k.run) 0
    ∷ gives (SetRun 2) (Ok (Unmerged 0 None)) ∷ shows (λ k. k.run) 2 ∷ refused BadValue (SetRun 3) ∷ []

-- neither knob of sharing changes while pages are shared, whether the scan runs or not, to a higher or a lower value
abbrev pub shared_pages_hold_both_knobs : List Line
shared_pages_hold_both_knobs =
    merged ++ refused SharedPages (SetAcross 0) ∷ refused SharedPages (SetLimit 255) ∷ refused SharedPages (SetLimit 1024)
    ∷ ok (SetRun 0) ∷ refused SharedPages (SetAcross 0) ∷ refused SharedPages (SetLimit 2) ∷ ok (SetAcross 1) ∷ ok (SetLimit 256)
    ∷ put 0 0 0xbb ∷ refused SharedPages (SetAcross 0) ∷ refused SharedPages (SetLimit 2) ∷ put 0 1 0xcc ∷ ok (SetLimit 300)
    ∷ ok (SetAcross 0) ∷ shows (λ k. k.max_page_sharing) 300 ∷ shows (λ k. k.merge_across_nodes) 0 ∷ []

-- a page that has no row, and a guest that has none, are refused beside others that have some
abbrev pub pages_and_guests_without_rows : List Line
pages_and_guests_without_rows =
    reg 1 1 0 0xaa ∷ refused UnknownPage (Drop (at 1 0)) ∷ refused UnknownPage (Drop (at 0 1))
    ∷ refused UnknownPage (Store (at 1 2) (full 0xbb)) ∷ refused UnknownPage (Store (at 0 1) (full 0xbb))
    ∷ refused UnknownPage (MovePage (at 2 1) 0) ∷ refused UnknownPage (MovePage (at 1 0) 0) ∷ refused UnknownPage (Unmerge 0)
    ∷ refused UnknownPage (Mergeable 2) ∷ drop 1 1 ∷ refused UnknownPage (Drop (at 1 1)) ∷ refused UnknownPage (Unmerge 1) ∷ []

-- no scan runs with run 0, and none with run 2
abbrev pub no_scan_but_with_run_one : List Line
no_scan_but_with_run_one =
    reg 0 0 0 0xaa ∷ refused NotRunning (Scan 1) ∷ gives (SetRun 2) (Ok (Unmerged 0 None)) ∷ refused NotRunning (Scan 1)
    ∷ ok (SetRun 1) ∷ scan 1 ∷ ok (SetRun 0) ∷ refused NotRunning (Scan 0) ∷ []

-- all but the scan is done whether it runs or not
abbrev pub all_but_the_scan_goes_on : List Line
all_but_the_scan_goes_on =
    merged ++ ok (SetRun 0) ∷ reg 1 0 0 0xbb ∷ put 1 0 0xcc ∷ put 0 0 0xdd ∷ ok (MovePage (at 0 1) 0) ∷ ok (MoveDup 0 0)
    ∷ ok (Mergeable 0) ∷ ok (SetPagesToScan 7) ∷ drop 1 0
    ∷ shows (λ k. k.merge_across_nodes) 1 ∷ shows (λ k. k.pages_to_scan) 7 ∷ unmerge 0 1 ∷ prune 1 ∷ ok (SetAcross 0) ∷ ok (SetLimit 3)
    ∷ shows (λ k. k.run) 0 ∷ gives (SetRun 2) (Ok (Unmerged 0 None)) ∷ reg 1 0 0 0xbb ∷ put 1 0 0xcc ∷ ok (MovePage (at 1 0) 0) ∷ ok (Mergeable 1)
    ∷ ok (SetPagesToScan 8) ∷ unmerge 1 0 ∷ prune 0 ∷ ok (SetAcross 1) ∷ ok (SetLimit 4) ∷ drop 1 0
    ∷ refused UnknownPlace (MoveDup 0 0) ∷ shows (λ k. k.run) 2 ∷ stat 0 0 0 0 0 0 2 ∷ []

-- a run of 0 or 1 is done, and answers nothing else; a run of 2 that lets no page go tells so
abbrev pub answers_of_a_run : List Line
answers_of_a_run =
    never (SetRun 0) (Ok (Unmerged 0 None)) ∷ never (SetRun 1) (Ok (Unmerged 0 None)) ∷ never (SetRun 1) (Err NotRunning)
    ∷ never (SetRun 2) (Ok (Unmerged 1 None)) ∷ gives (SetRun 2) (Ok (Unmerged 0 None)) ∷ []
