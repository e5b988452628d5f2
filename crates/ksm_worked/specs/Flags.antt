-- Worked scripts of what is kept of a row: home, bytes, mergeable, unchanged and state. Own.
use Rattle.std.specs.Prelude.{List, [], ◌∷◌, ◌++◌, None, Ok, true, false}
use Rattle.ksm_base.specs.declared.row.PageState.TheVariants.{Private, Waiting, Merged}
use Rattle.ksm_base.specs.declared.command.Command.TheVariants.{Store, Scan, Mergeable, MovePage, SetRun, SetAcross, SetLimit}
use Rattle.ksm_base.specs.declared.reply.Reply.TheVariants.{Scanned, Unmerged}
use Rattle.ksm_base.specs.declared.fault.Fault.TheVariants.{UnknownPage}
use Rattle.ksm_worked.specs.Scripts.{Line, gives, shows, rows_at, reads, lies, at, full, ok, refused, reg, put, drop, scan, unmerge, stat, get, merged}

-- pages of two guests are two pages, though they have one number
abbrev pub pages_of_two_guests : List Line
pages_of_two_guests =
    reg 1 0 0 0xaa ∷ refused UnknownPage (Store (at 0 0) (full 0xff)) ∷ reg 0 0 0 0xbb ∷ reg 2 0 0 0xcc ∷ put 1 0 0xdd
    ∷ get 0 0 0xbb ∷ get 1 0 0xdd ∷ get 2 0 0xcc ∷ put 0 0 0xee ∷ get 1 0 0xdd ∷ drop 1 0 ∷ get 0 0 0xee ∷ reads (at 1 0) None
    ∷ get 2 0 0xcc ∷ []

-- what a row has from its registering to its unmerging
abbrev pub life_of_a_row : List Line
life_of_a_row =
    reg 0 0 1 0xaa ∷ lies 0 0 1 0xaa true false Private ∷ reg 0 1 0 0xaa ∷ ok (SetRun 1) ∷ scan 1
    ∷ lies 0 0 1 0xaa true true Private ∷ scan 2 ∷ lies 0 0 1 0xaa true true Waiting ∷ scan 1
    ∷ lies 0 0 1 0xaa true true (Merged 0) ∷ lies 0 1 0 0xaa true true (Merged 0) ∷ put 0 1 0xaa
    ∷ lies 0 1 0 0xaa true true Private ∷ scan 2 ∷ lies 0 1 0 0xaa true true (Merged 0) ∷ put 0 1 0xbb
    ∷ lies 0 1 0 0xbb true false Private ∷ unmerge 0 1 ∷ lies 0 0 1 0xaa false false Private ∷ lies 0 1 0 0xbb false false Private
    ∷ ok (Mergeable 0) ∷ lies 0 0 1 0xaa true false Private ∷ rows_at (at 1 1) None ∷ []

-- a store to a waiting page ends its waiting, and it keeps unchanged exactly where the bytes are equal
abbrev pub store_ends_the_waiting : List Line
store_ends_the_waiting =
    reg 0 0 0 0xaa ∷ reg 0 1 0 0xbb ∷ ok (SetRun 1) ∷ scan 4 ∷ lies 0 0 0 0xaa true true Waiting ∷ put 0 0 0xaa
    ∷ lies 0 0 0 0xaa true true Private ∷ put 0 1 0xcc ∷ lies 0 1 0 0xcc true false Private ∷ []

-- a page that moves leaves its dup or ends its waiting, and keeps both flags; a move to its home changes nothing
abbrev pub move_keeps_both_flags : List Line
move_keeps_both_flags =
    reg 0 0 0 0xaa ∷ reg 0 1 0 0xaa ∷ reg 0 2 1 0xbb ∷ ok (SetRun 1) ∷ scan 6 ∷ ok (MovePage (at 0 0) 1)
    ∷ lies 0 0 1 0xaa true true Private ∷ ok (MovePage (at 0 1) 0) ∷ lies 0 1 0 0xaa true true (Merged 0)
    ∷ lies 0 2 1 0xbb true true Waiting ∷ ok (MovePage (at 0 2) 1) ∷ lies 0 2 1 0xbb true true Waiting
    ∷ ok (MovePage (at 0 2) 0) ∷ lies 0 2 0 0xbb true true Private ∷ unmerge 0 1 ∷ ok (MovePage (at 0 2) 1)
    ∷ lies 0 2 1 0xbb false false Private ∷ []

-- a page that was left out of the scan is not taken in again by a store, a move or a run of 2; unmerging takes pages that are not merged too
abbrev pub unmerged_page_stays_left_out : List Line
unmerged_page_stays_left_out =
    reg 0 0 0 0xaa ∷ unmerge 0 0 ∷ ok (SetRun 1) ∷ gives (Scan 1) (Ok (Scanned 0 None)) ∷ put 0 0 0xbb
    ∷ gives (Scan 1) (Ok (Scanned 0 None)) ∷ ok (MovePage (at 0 0) 1) ∷ gives (Scan 1) (Ok (Scanned 0 None))
    ∷ gives (SetRun 2) (Ok (Unmerged 0 None)) ∷ ok (SetRun 1) ∷ gives (Scan 1) (Ok (Scanned 0 None)) ∷ []

-- a store of equal bytes makes no page unchanged
abbrev pub equal_store_makes_no_page_unchanged : List Line
equal_store_makes_no_page_unchanged =
    reg 0 0 0 0xaa ∷ put 0 0 0xaa ∷ ok (SetRun 1) ∷ scan 1 ∷ stat 0 0 0 1 0 0 1 ∷ []

-- a page that joins a dup is not unchanged by that
abbrev pub joined_page_keeps_its_flag : List Line
joined_page_keeps_its_flag =
    merged ++ reg 0 2 0 0xaa ∷ scan 3 ∷ lies 0 2 0 0xaa true false (Merged 0)
    ∷ shows (λ k. k.merge_across_nodes) 1 ∷ put 0 0 0xbb ∷ put 0 1 0xcc ∷ put 0 2 0xaa
    ∷ scan 3 ∷ stat 0 0 0 3 0 0 4 ∷ []

-- a guest that is made mergeable keeps what is unchanged
abbrev pub mergeable_keeps_unchanged : List Line
mergeable_keeps_unchanged =
    reg 0 0 0 0xaa ∷ reg 0 1 0 0xaa ∷ ok (SetRun 1) ∷ scan 2 ∷ ok (Mergeable 0) ∷ scan 2 ∷ stat 1 1 0 0 0 0 2 ∷ []

-- other knobs of sharing keep both flags, homes and bytes
abbrev pub knobs_keep_both_flags : List Line
knobs_keep_both_flags =
    reg 0 0 1 0xaa ∷ reg 1 0 0 0xbb ∷ unmerge 1 0 ∷ ok (SetRun 1) ∷ scan 2 ∷ lies 0 0 1 0xaa true true Waiting ∷ ok (SetLimit 9)
    ∷ lies 0 0 1 0xaa true true Waiting ∷ ok (SetAcross 0) ∷ lies 0 0 1 0xaa true true Private
    ∷ lies 1 0 0 0xbb false false Private ∷ []

-- a run of 2 clears unchanged, of merged pages and of others, and keeps mergeable, homes and bytes
abbrev pub run_of_two_keeps_mergeable : List Line
run_of_two_keeps_mergeable =
    merged ++ reg 0 2 1 0xbb ∷ reg 1 0 1 0xcc ∷ unmerge 1 0 ∷ scan 5 ∷ lies 0 2 1 0xbb true true Private ∷ scan 1 ∷ lies 0 2 1 0xbb true true Waiting
    ∷ gives (SetRun 2) (Ok (Unmerged 2 None)) ∷ lies 0 0 0 0xaa true false Private ∷ lies 0 1 0 0xaa true false Private
    ∷ lies 0 2 1 0xbb true false Private ∷ lies 1 0 1 0xcc false false Private ∷ shows (λ k. k.merge_across_nodes) 1 ∷ stat 0 0 0 3 0 0 4 ∷ []
