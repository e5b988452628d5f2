-- Worked scripts of commands that need frames: moves, copies, and what is answered where no frame is free. Own.
use Rattle.std.specs.Prelude.{List, [], ◌∷◌, ◌++◌, None, Some, Ok, Err, true, false}
use Rattle.ksm_base.specs.declared.command.Command.TheVariants.{Register, Store, Scan, Unmerge, MovePage, MoveDup, SetRun, SetAcross}
use Rattle.ksm_base.specs.declared.row.PageState.TheVariants.{Private}
use Rattle.ksm_base.specs.declared.reply.Reply.TheVariants.{Unmerged}
use Rattle.ksm_base.specs.declared.fault.Fault.TheVariants.{NoFrame, NotRunning, InUse, CrossesNodes, UnknownPlace, BadNode}
use Rattle.ksm_worked.specs.Scripts.{Line, never, lies_at, shows, at, full, lies, ok, refused, reg, put, drop, scan, prune, stopped, stat, get, ticket, merged}

-- a page that moves to another node gets a frame there and leaves its dup
abbrev pub moved_page_leaves_its_dup : List Line
moved_page_leaves_its_dup =
    merged ++ ok (MovePage (at 0 0) 1) ∷ lies_at (at 0 0) None ∷ ticket 0 1 0 ∷ stat 1 0 0 1 0 0 2 ∷ get 0 0 0xaa ∷ []

-- a frame is given so many times and never again
abbrev pub frame_retires : List Line
frame_retires =
    reg 0 0 0 0xaa ∷ drop 0 0 ∷ reg 0 0 0 0xaa ∷ drop 0 0 ∷ refused (NoFrame 0) (Register (at 0 0) 0 (full 0xaa)) ∷ []

-- unmerging stops where no frame is free
abbrev pub unmerging_runs_out_of_frames : List Line
unmerging_runs_out_of_frames =
    reg 0 0 0 0xaa ∷ reg 0 1 0 0xaa ∷ reg 0 2 0 0xaa ∷ ok (SetRun 1) ∷ scan 6 ∷ reg 0 3 0 0xbb ∷ stopped (Unmerge 0) 1 0
    ∷ stat 1 1 0 1 0 0 2 ∷ stopped (SetRun 2) 0 0 ∷ shows (λ k. k.run) 0 ∷ []

-- a dup moves once nobody holds its frame
abbrev pub held_dup_cannot_move : List Line
held_dup_cannot_move = merged ++ refused InUse (MoveDup 0 1) ∷ ok (MoveDup 0 1) ∷ ticket 0 0 0 ∷ get 0 0 0xaa ∷ []

-- a dup that moves keeps its place, its items and its bytes; with merge_across_nodes 0 it stays on its node
abbrev pub dup_moves_within_its_node : List Line
dup_moves_within_its_node =
    ok (SetAcross 0) ∷ merged ++ refused CrossesNodes (MoveDup 0 1) ∷ ok (MoveDup 0 0) ∷ ticket 0 0 0 ∷ get 0 0 0xaa
    ∷ refused UnknownPlace (MoveDup 3 0) ∷ refused BadNode (MoveDup 0 9) ∷ []

-- a refused move changes nothing
abbrev pub refused_moves_spend_no_life : List Line
refused_moves_spend_no_life =
    merged ++ refused InUse (MoveDup 0 0) ∷ refused InUse (MoveDup 0 0) ∷ ok (MoveDup 0 0) ∷ ok (MoveDup 0 0)
    ∷ refused (NoFrame 0) (MoveDup 0 0) ∷ stat 1 1 0 0 0 0 2 ∷ []

-- a dying frame that is held isn't given, so the copies leave no frame for a new page until it is left
abbrev pub stale_place_three_answers : List Line
stale_place_three_answers =
    merged ++ put 0 0 0xbb ∷ put 0 1 0xcc ∷ reg 0 2 0 0xdd ∷ refused (NoFrame 0) (Register (at 0 3) 0 (full 0xee))
    ∷ reg 0 3 0 0xee ∷ prune 1 ∷ []

-- a frame without pages stays while it is held
abbrev pub held_dying_frame_is_not_given : List Line
held_dying_frame_is_not_given =
    merged ++ drop 0 0 ∷ drop 0 1 ∷ reg 0 2 0 0xbb ∷ refused (NoFrame 0) (Register (at 0 3) 0 (full 0xcc)) ∷ reg 0 3 0 0xcc ∷ []

-- every command that needs a frame meets no free one
abbrev pub no_frame_everywhere : List Line
no_frame_everywhere =
    merged ++ reg 0 2 0 0xbb ∷ refused (NoFrame 0) (Store (at 0 0) (full 0xcc))
    ∷ refused (NoFrame 0) (Register (at 0 3) 0 (full 0xdd)) ∷ refused (NoFrame 0) (MoveDup 0 0) ∷ stopped (Unmerge 0) 0 0
    ∷ reg 1 0 1 0xee ∷ reg 1 1 1 0xee ∷ refused (NoFrame 1) (MovePage (at 0 2) 1) ∷ stopped (SetRun 2) 0 0
    ∷ stat 1 1 0 3 0 0 2 ∷ refused NotRunning (Scan 1) ∷ get 0 0 0xaa ∷ []

-- a copy wants a frame of its page's home, wherever the dup lies; a move wants one of the node it goes to
abbrev pub frame_is_missed_where_it_is_wanted : List Line
frame_is_missed_where_it_is_wanted =
    reg 0 0 0 0xaa ∷ reg 0 1 1 0xaa ∷ ok (SetRun 1) ∷ scan 4 ∷ reg 1 0 1 0xbb ∷ reg 1 1 1 0xcc
    ∷ refused (NoFrame 1) (Store (at 0 1) (full 0xdd)) ∷ refused (NoFrame 1) (MoveDup 0 1) ∷ never (MoveDup 0 1) (Err (NoFrame 0))
    ∷ refused (NoFrame 1) (MovePage (at 0 0) 1) ∷ never (MovePage (at 0 0) 1) (Err (NoFrame 0))
    ∷ never (Unmerge 0) (Ok (Unmerged 1 (Some (NoFrame 0)))) ∷ never (SetRun 2) (Ok (Unmerged 1 (Some (NoFrame 0))))
    ∷ stopped (Unmerge 0) 1 1 ∷ ticket 0 1 0 ∷ []

-- a page moves to a lower node as it moves to a higher one
abbrev pub page_moves_to_a_lower_node : List Line
page_moves_to_a_lower_node =
    reg 0 0 1 0xaa ∷ reg 0 1 0 0xbb ∷ refused (NoFrame 0) (MovePage (at 0 0) 0) ∷ lies 0 0 1 0xaa true false Private ∷ drop 0 1
    ∷ ok (MovePage (at 0 0) 0) ∷ lies 0 0 0 0xaa true false Private ∷ []

-- a page registered on the second node misses a frame there
abbrev pub registering_misses_a_frame_of_its_node : List Line
registering_misses_a_frame_of_its_node =
    reg 0 0 1 0xaa ∷ refused (NoFrame 1) (Register (at 0 1) 1 (full 0xbb)) ∷ never (Register (at 0 1) 1 (full 0xbb)) (Err (NoFrame 0)) ∷ []
