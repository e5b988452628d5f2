-- Worked scripts of pages that are mapped from the zero page: when they become so, and what leaves it. Own.
use Rattle.std.specs.Prelude.{List, [], ◌∷◌, ◌++◌, None, Ok, Err, true, false}
use Rattle.ksm_base.specs.declared.row.PageState.TheVariants.{Private, Waiting, Merged, Zero}
use Rattle.ksm_base.specs.declared.command.Command.TheVariants.{Register, Drop, Store, Unmerge, Mergeable, MovePage, SetRun, SetAcross, SetLimit, SetZeroPages}
use Rattle.ksm_base.specs.declared.reply.Reply.TheVariants.{Unmerged}
use Rattle.ksm_base.specs.declared.fault.Fault.TheVariants.{NoFrame, BadValue}
use Rattle.ksm_worked.specs.Scripts.{Line, gives, never, shows, lies_at, maps, lies, at, full, one_at_the_end, ok, refused, reg, put, drop, scan, unmerge, stopped, stat, stat_beside, get, ticket}
use Rattle.ksm_worked.specs.Scripts.{merged}

-- empty pages become Zero; a store of zeroes takes one away until the next pass
abbrev pub empty_pages_become_zero : List Line
empty_pages_become_zero =
    ok (SetZeroPages 1) ∷ reg 0 0 0 0 ∷ reg 0 1 0 0 ∷ reg 0 2 0 0 ∷ ok (SetRun 1) ∷ scan 6 ∷ stat_beside 3 0 0 0 0 0 0 2
    ∷ put 0 1 0 ∷ stat_beside 2 0 0 0 1 0 0 2 ∷ scan 3 ∷ stat_beside 3 0 0 0 0 0 0 3 ∷ []

-- the frames of pages that became Zero are given again, and then none is left for a copy
abbrev pub zero_pages_and_no_frame : List Line
zero_pages_and_no_frame =
    ok (SetZeroPages 1) ∷ reg 0 0 0 0 ∷ reg 0 1 0 0 ∷ ok (SetRun 1) ∷ scan 4 ∷ reg 0 2 0 0x11 ∷ reg 0 3 0 0x22
    ∷ refused (NoFrame 0) (Store (at 0 0) (full 5)) ∷ get 0 0 0 ∷ stopped (Unmerge 0) 0 0 ∷ stopped (SetRun 2) 0 0
    ∷ shows (λ k. k.run) 0 ∷ refused BadValue (SetZeroPages 2) ∷ []

-- a page of zeroes joins an open dup of zeroes rather than the zero page
abbrev pub open_dup_before_zero_page : List Line
open_dup_before_zero_page =
    reg 0 0 0 0 ∷ reg 0 1 0 0 ∷ ok (SetRun 1) ∷ scan 4 ∷ ok (SetZeroPages 1) ∷ reg 0 2 0 0 ∷ scan 3
    ∷ stat_beside 0 1 2 0 0 0 0 3 ∷ []

-- two empty pages, with the knob at 1, scanned twice
abbrev pub emptied : List Line
emptied = ok (SetZeroPages 1) ∷ reg 0 0 0 0 ∷ reg 0 1 0 0 ∷ ok (SetRun 1) ∷ scan 4 ∷ []

-- a page becomes Zero only once it was found unchanged, and keeps home and flags
abbrev pub unchanged_before_zero : List Line
unchanged_before_zero =
    ok (SetZeroPages 1) ∷ reg 0 0 1 0 ∷ ok (SetRun 1) ∷ scan 1 ∷ lies 0 0 1 0 true true Private ∷ scan 1
    ∷ lies 0 0 1 0 true true Zero ∷ lies_at (at 0 0) None ∷ get 0 0 0 ∷ []

-- with the knob at 0 empty pages merge with each other
abbrev pub empty_pages_merge_at_zero : List Line
empty_pages_merge_at_zero =
    ok (SetZeroPages 1) ∷ ok (SetZeroPages 0) ∷ reg 0 0 0 0 ∷ reg 0 1 0 0 ∷ ok (SetRun 1) ∷ scan 4 ∷ stat 1 1 0 0 0 0 2
    ∷ ticket 0 0 0 ∷ ticket 0 1 0 ∷ []

-- a page with one byte that is not zero is no empty one
abbrev pub last_byte_counts : List Line
last_byte_counts =
    ok (SetZeroPages 1) ∷ ok (Register (at 0 0) 0 one_at_the_end) ∷ reg 0 1 0 0 ∷ ok (SetRun 1) ∷ scan 4
    ∷ stat_beside 1 0 0 1 0 0 0 2 ∷ []

-- the zero page comes before a page that waits
abbrev pub zero_page_before_a_waiting_one : List Line
zero_page_before_a_waiting_one =
    reg 0 0 0 0 ∷ reg 0 1 0 0 ∷ ok (SetRun 1) ∷ scan 3 ∷ ok (SetZeroPages 1) ∷ lies 0 0 0 0 true true Waiting ∷ scan 1
    ∷ lies 0 0 0 0 true true Waiting ∷ lies 0 1 0 0 true true Zero ∷ stat_beside 1 0 0 1 0 0 0 2 ∷ scan 1
    ∷ lies 0 0 0 0 true true Zero ∷ []

-- a page that finds the dup of zeroes full becomes Zero; a page joins it before it is unchanged
abbrev pub full_dup_of_zeroes : List Line
full_dup_of_zeroes =
    ok (SetLimit 2) ∷ reg 0 0 0 0 ∷ reg 0 1 0 0 ∷ reg 0 2 0 0 ∷ ok (SetRun 1) ∷ scan 6 ∷ stat 1 1 1 0 0 0 2
    ∷ ok (SetZeroPages 1) ∷ scan 3 ∷ stat_beside 1 1 1 0 0 0 0 3 ∷ lies 0 2 0 0 true true Zero ∷ []

-- a Zero page stays as it is in a visit: with the knob back at 0, and beside an open dup of zeroes
abbrev pub zero_page_stays : List Line
zero_page_stays =
    emptied ++ ok (SetZeroPages 0) ∷ lies 0 0 0 0 true true Zero ∷ scan 2 ∷ stat_beside 2 0 0 0 0 0 0 3 ∷ reg 1 0 0 0
    ∷ reg 1 1 0 0 ∷ scan 8 ∷ stat_beside 2 1 1 0 0 0 0 5 ∷ scan 4 ∷ stat_beside 2 1 1 0 0 0 0 6 ∷ []

-- a store to a Zero page changes that page alone; unchanged is kept where the bytes are equal
abbrev pub store_to_a_zero_page : List Line
store_to_a_zero_page =
    emptied ++ put 0 0 0xaa ∷ get 0 0 0xaa ∷ get 0 1 0 ∷ lies 0 0 0 0xaa true false Private ∷ lies 0 1 0 0 true true Zero
    ∷ put 0 1 0 ∷ lies 0 1 0 0 true true Private ∷ stat 0 0 0 2 0 0 2 ∷ []

-- a Zero page that goes needs no frame
abbrev pub zero_page_is_dropped : List Line
zero_page_is_dropped =
    emptied ++ never (Drop (at 0 0)) (Err (NoFrame 0)) ∷ drop 0 0 ∷ stat_beside 1 0 0 0 0 0 0 2 ∷ reg 0 0 0 0xaa
    ∷ get 0 0 0xaa ∷ []

-- a Zero page that moves to another node needs a frame there, and keeps both flags; a move to its home changes nothing
abbrev pub move_of_a_zero_page : List Line
move_of_a_zero_page =
    emptied ++ never (MovePage (at 0 0) 0) (Err (NoFrame 0)) ∷ ok (MovePage (at 0 0) 0) ∷ lies 0 0 0 0 true true Zero
    ∷ refused (NoFrame 1) (MovePage (at 0 0) 1) ∷ ok (MovePage (at 0 0) 1) ∷ lies 0 0 1 0 true true Private
    ∷ stat_beside 1 0 0 0 1 0 0 2 ∷ []

-- unmerging takes Zero pages as merged ones, and counts them
abbrev pub unmerging_takes_zero_pages : List Line
unmerging_takes_zero_pages =
    merged ++ ok (SetZeroPages 1) ∷ reg 0 2 0 0 ∷ reg 1 0 0 0 ∷ scan 8 ∷ stat_beside 2 1 1 0 0 0 0 4
    ∷ never (Unmerge 0) (Ok (Unmerged 2 None)) ∷ unmerge 0 3 ∷ lies 0 2 0 0 false false Private ∷ lies 1 0 0 0 true true Zero
    ∷ stat_beside 1 0 0 0 0 0 0 4 ∷ []

-- an unmerging that stops at a Zero page has let go those before it
abbrev pub unmerging_stops_at_a_zero_page : List Line
unmerging_stops_at_a_zero_page =
    emptied ++ stopped (Unmerge 0) 1 0 ∷ lies 0 0 0 0 false false Private ∷ lies 0 1 0 0 true true Zero
    ∷ stopped (SetRun 2) 0 0 ∷ shows (λ k. k.run) 0 ∷ lies 0 0 0 0 false false Private ∷ lies 0 1 0 0 true true Zero ∷ []

-- a run of 2 takes Zero pages as merged ones, and counts them; it leaves the knob
abbrev pub run_of_two_takes_zero_pages : List Line
run_of_two_takes_zero_pages =
    emptied ++ reg 1 0 0 0xbb ∷ never (SetRun 2) (Ok (Unmerged 0 None)) ∷ gives (SetRun 2) (Ok (Unmerged 2 None))
    ∷ lies 0 0 0 0 true false Private ∷ lies 0 1 0 0 true false Private ∷ shows (λ k. k.use_zero_pages) 1
    ∷ stat 0 0 0 3 0 0 2 ∷ []

-- a run of 2 that stops at the second of two Zero pages
abbrev pub run_of_two_stops_at_a_zero_page : List Line
run_of_two_stops_at_a_zero_page =
    emptied ++ stopped (SetRun 2) 1 0 ∷ lies 0 0 0 0 true false Private ∷ lies 0 1 0 0 true true Zero
    ∷ shows (λ k. k.use_zero_pages) 1 ∷ stat_beside 1 0 0 0 1 0 0 2 ∷ []

-- other knobs of sharing change no Zero page, and are not held by one; nor is the guest being mergeable
abbrev pub knobs_leave_zero_pages : List Line
knobs_leave_zero_pages =
    emptied ++ ok (SetAcross 0) ∷ lies 0 0 0 0 true true Zero ∷ ok (SetLimit 2) ∷ lies 0 0 0 0 true true Zero
    ∷ ok (Mergeable 0) ∷ stat_beside 2 0 0 0 0 0 0 2 ∷ shows (λ k. k.use_zero_pages) 1 ∷ ok (SetRun 0)
    ∷ stat_beside 2 0 0 0 0 0 0 2 ∷ maps 0 None ∷ []

-- the knob is 0 at the start, takes 0 and 1 at any time, and changes no row and no other knob
abbrev pub zero_knob_at_any_time : List Line
zero_knob_at_any_time =
    shows (λ k. k.use_zero_pages) 0 ∷ merged ++ ok (SetZeroPages 1) ∷ shows (λ k. k.use_zero_pages) 1 ∷ refused BadValue (SetZeroPages 2)
    ∷ shows (λ k. k.use_zero_pages) 1 ∷ lies 0 0 0 0xaa true true (Merged 0) ∷ shows (λ k. k.run) 1 ∷ shows (λ k. k.pages_to_scan) 100
    ∷ shows (λ k. k.merge_across_nodes) 1 ∷ shows (λ k. k.max_page_sharing) 256 ∷ ok (SetRun 0) ∷ ok (SetZeroPages 0)
    ∷ shows (λ k. k.use_zero_pages) 0 ∷ shows (λ k. k.run) 0 ∷ stat 1 1 0 0 0 0 2 ∷ []
