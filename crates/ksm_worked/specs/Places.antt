-- Worked scripts of dups: their numbers, places, trees and chains. Own.
use Rattle.std.specs.Prelude.{List, [], ◌∷◌, ◌++◌, None, Some, Ok}
use Rattle.ksm_base.specs.declared.command.Command.TheVariants.{MovePage, MoveDup, SetRun, SetAcross, SetLimit}
use Rattle.ksm_base.specs.declared.reply.Reply.TheVariants.{Unmerged}
use Rattle.ksm_base.specs.declared.fault.Fault.TheVariants.{CrossesNodes, UnknownPlace}
use Rattle.ksm_worked.specs.Scripts.{Line, gives, maps, stands, at, dup, ok, refused, reg, put, drop, scan, prune, stat, ticket, merged}

-- dups are numbered as they are made, and a new one takes the least empty place; the others stay, and each page joins its own
abbrev pub places_and_numbers_part : List Line
places_and_numbers_part =
    reg 0 0 0 0xaa ∷ reg 0 1 0 0xaa ∷ reg 0 2 0 0xbb ∷ reg 0 3 0 0xbb ∷ ok (SetRun 1) ∷ scan 8
    ∷ stands (dup 0 0 0 0xaa ∷ dup 1 1 0 0xbb ∷ [])
    ∷ put 0 0 0xcc ∷ put 0 1 0xcc ∷ prune 1 ∷ maps 0 None ∷ refused UnknownPlace (MoveDup 0 0) ∷ scan 8
    ∷ stands (dup 2 0 0 0xcc ∷ dup 1 1 0 0xbb ∷ [])
    ∷ put 0 0 0xdd ∷ put 0 1 0xdd ∷ prune 1 ∷ scan 8 ∷ reg 0 4 0 0xee ∷ reg 0 5 0 0xee ∷ scan 12
    ∷ stands (dup 3 0 0 0xdd ∷ dup 1 1 0 0xbb ∷ dup 4 2 0 0xee ∷ []) ∷ stat 3 3 0 0 0 0 8
    ∷ reg 0 6 0 0xdd ∷ scan 7 ∷ ticket 0 6 0 ∷ maps 0 (Some (at 0 0 ∷ at 0 1 ∷ at 0 6 ∷ [])) ∷ maps 1 (Some (at 0 2 ∷ at 0 3 ∷ []))
    ∷ ok (MoveDup 1 0) ∷ maps 2 (Some (at 0 4 ∷ at 0 5 ∷ [])) ∷ maps 3 None ∷ []

-- where every place is taken, the stale dup at the least place goes, whatever its number, and those with items stay
abbrev pub least_stale_place_is_taken : List Line
least_stale_place_is_taken =
    merged ++ put 0 0 0xbb ∷ put 0 1 0xbb ∷ prune 1 ∷ scan 4 ∷ reg 0 2 0 0xc1 ∷ reg 0 3 0 0xc1 ∷ scan 8
    ∷ put 0 2 0xc2 ∷ put 0 3 0xc2 ∷ scan 8 ∷ put 0 2 0xc3 ∷ put 0 3 0xc3 ∷ scan 8
    ∷ stands (dup 1 0 0 0xbb ∷ dup 2 1 0 0xc1 ∷ dup 3 2 0 0xc2 ∷ dup 4 3 0 0xc3 ∷ [])
    ∷ put 0 2 0xc4 ∷ put 0 3 0xc4 ∷ scan 8
    ∷ stands (dup 1 0 0 0xbb ∷ dup 5 1 0 0xc4 ∷ dup 3 2 0 0xc2 ∷ dup 4 3 0 0xc3 ∷ []) ∷ ticket 0 2 1 ∷ prune 2 ∷ []

-- two contents make two chains, each counted once, in whatever order its dups were made
abbrev pub two_chains : List Line
two_chains =
    ok (SetLimit 2) ∷ reg 0 0 0 0xaa ∷ reg 0 1 0 0xaa ∷ reg 0 2 0 0xaa ∷ reg 0 3 0 0xaa ∷ reg 0 4 0 0xbb ∷ reg 0 5 0 0xbb
    ∷ reg 0 6 0 0xbb ∷ reg 0 7 0 0xbb ∷ ok (SetRun 1) ∷ scan 16 ∷ stat 4 4 0 0 2 4 2
    ∷ drop 0 0 ∷ drop 0 1 ∷ prune 1 ∷ stat 3 3 0 0 1 2 2 ∷ reg 0 0 0 0xaa ∷ reg 0 1 0 0xaa ∷ scan 16
    ∷ stands (dup 4 0 0 0xaa ∷ dup 1 1 0 0xaa ∷ dup 2 2 0 0xbb ∷ dup 3 3 0 0xbb ∷ []) ∷ stat 4 4 0 0 2 4 4 ∷ []

-- with merge_across_nodes 0 equal dups of two nodes make no chain
abbrev pub each_node_has_chains_of_its_own : List Line
each_node_has_chains_of_its_own =
    ok (SetAcross 0) ∷ reg 0 0 0 0xaa ∷ reg 0 1 0 0xaa ∷ reg 0 2 1 0xaa ∷ reg 0 3 1 0xaa ∷ ok (SetRun 1) ∷ scan 8
    ∷ stat 2 2 0 0 0 0 2 ∷ stands (dup 0 0 0 0xaa ∷ dup 1 1 1 0xaa ∷ []) ∷ []

-- a dup of a node's tree stays on that node, and a page of a lower node doesn't join it
abbrev pub dup_of_a_higher_node : List Line
dup_of_a_higher_node =
    ok (SetAcross 0) ∷ reg 0 0 1 0xaa ∷ reg 0 1 1 0xaa ∷ ok (SetRun 1) ∷ scan 4 ∷ stands (dup 0 0 1 0xaa ∷ [])
    ∷ refused CrossesNodes (MoveDup 0 0) ∷ ok (MoveDup 0 1) ∷ reg 1 0 0 0xaa ∷ scan 6 ∷ stat 1 1 1 0 0 0 4
    ∷ reg 1 1 1 0xbb ∷ reg 1 2 1 0xbb ∷ scan 10 ∷ stands (dup 0 0 1 0xaa ∷ dup 1 1 1 0xbb ∷ []) ∷ stat 2 2 1 0 0 0 6 ∷ []

-- with merge_across_nodes 0 a page doesn't merge with one that waits on a higher node
abbrev pub page_of_a_higher_node_waits_alone : List Line
page_of_a_higher_node_waits_alone =
    ok (SetAcross 0) ∷ reg 0 0 1 0xaa ∷ reg 0 1 0 0xaa ∷ ok (SetRun 1) ∷ scan 4 ∷ stat 0 0 2 0 0 0 2 ∷ []

-- a stale dup has no items to show and does not move, and a run of 2 leaves it
abbrev pub stale_dup_is_at_no_place : List Line
stale_dup_is_at_no_place =
    merged ++ put 0 0 0xbb ∷ put 0 1 0xcc ∷ stands (dup 0 0 0 0xaa ∷ []) ∷ maps 0 None ∷ refused UnknownPlace (MoveDup 0 0)
    ∷ gives (SetRun 2) (Ok (Unmerged 0 None)) ∷ prune 1 ∷ stands [] ∷ []

-- a dup keeps its row where it moves, and where its items leave it
abbrev pub dup_keeps_its_row : List Line
dup_keeps_its_row =
    merged ++ ok (MoveDup 0 1) ∷ stands (dup 0 0 0 0xaa ∷ []) ∷ ok (MovePage (at 0 0) 1) ∷ put 0 1 0xbb
    ∷ stands (dup 0 0 0 0xaa ∷ []) ∷ []

-- there are as many places as frames of all nodes together
abbrev pub places_of_all_nodes : List Line
places_of_all_nodes =
    reg 0 0 0 0xaa ∷ reg 0 1 1 0xaa ∷ ok (SetRun 1) ∷ scan 4 ∷ reg 0 2 0 0xbb ∷ reg 0 3 1 0xbb ∷ scan 8 ∷ put 0 2 0xcc ∷ put 0 3 0xcc ∷ scan 8
    ∷ stands (dup 0 0 0 0xaa ∷ dup 1 1 0 0xbb ∷ dup 2 2 0 0xcc ∷ []) ∷ []
