-- Worked scripts of registering, storing, scanning and pruning. Own.
use Rattle.std.specs.Prelude.{List, [], ◌∷◌, ◌++◌, None, Some}
use Rattle.ksm_base.specs.declared.command.Command.TheVariants.{Register, SetRun, SetLimit}
use Rattle.ksm_worked.specs.Scripts.{Line, maps, at, one_at_the_end, ok, reg, put, drop, scan, prune, stat, get, ticket, merged}

-- all counters start at zero
abbrev pub counters_at_opening : List Line
counters_at_opening = stat 0 0 0 0 0 0 0 ∷ []

-- a page is registered, stored to, read and counted
abbrev pub first_run : List Line
first_run = reg 0 0 0 0xaa ∷ put 0 0 0xbb ∷ get 0 0 0xbb ∷ stat 0 0 0 1 0 0 0 ∷ []

-- the first pass only marks pages unchanged
abbrev pub one_pass_merges_nothing : List Line
one_pass_merges_nothing = reg 0 0 0 0xaa ∷ reg 0 1 0 0xaa ∷ ok (SetRun 1) ∷ scan 2 ∷ stat 0 0 0 2 0 0 1 ∷ []

-- the second pass merges two equal pages, and both still read their bytes
abbrev pub two_equal_pages_merge : List Line
two_equal_pages_merge = one_pass_merges_nothing ++ scan 2 ∷ stat 1 1 0 0 0 0 2 ∷ get 0 0 0xaa ∷ get 0 1 0xaa ∷ []

-- four equal pages at limit two, scanned twice
abbrev pub four_at_limit_two : List Line
four_at_limit_two =
    ok (SetLimit 2) ∷ reg 0 0 0 0xaa ∷ reg 0 1 0 0xaa ∷ reg 0 2 0 0xaa ∷ reg 0 3 0 0xaa ∷ ok (SetRun 1) ∷ scan 8 ∷ []

-- four equal pages at limit two make a chain of two full dups
abbrev pub limit_boundary : List Line
limit_boundary = four_at_limit_two ++ stat 2 2 0 0 1 2 2 ∷ []

-- a new dup needs two pages, so a fifth page waits
abbrev pub fifth_page_waits : List Line
fifth_page_waits =
    ok (SetLimit 2) ∷ reg 0 0 0 0xaa ∷ reg 0 1 0 0xaa ∷ reg 0 2 0 0xaa ∷ reg 0 3 0 0xaa ∷ reg 0 4 0 0xaa
    ∷ ok (SetRun 1) ∷ scan 10 ∷ stat 2 2 1 0 1 2 2 ∷ []

-- a stale dup stays in its chain until it is pruned
abbrev pub chain_after_two_writes : List Line
chain_after_two_writes =
    four_at_limit_two ++ put 0 0 0xbb ∷ put 0 1 0xcc ∷ stat 1 1 0 2 1 2 2 ∷ prune 1 ∷ stat 1 1 0 2 0 0 2 ∷ []

-- a store of equal bytes leaves the dup and keeps unchanged, so one pass merges again, beside the stale dup
abbrev pub equal_store_still_copies : List Line
equal_store_still_copies =
    merged ++ put 0 0 0xaa ∷ put 0 1 0xaa ∷ stat 0 0 0 2 0 0 2 ∷ scan 2 ∷ stat 1 1 0 0 1 2 3 ∷ ticket 0 0 1 ∷ []

-- a page joins the dup with the most items below the limit
abbrev pub fullest_dup_is_joined : List Line
fullest_dup_is_joined =
    ok (SetLimit 3) ∷ reg 0 0 0 0xaa ∷ reg 0 1 0 0xaa ∷ reg 0 2 0 0xaa ∷ reg 0 3 0 0xaa ∷ reg 0 4 0 0xaa ∷ reg 0 5 0 0xaa
    ∷ ok (SetRun 1) ∷ scan 12 ∷ drop 0 0 ∷ drop 0 1 ∷ drop 0 3 ∷ reg 0 9 0 0xaa ∷ scan 4
    ∷ ticket 0 9 1 ∷ stat 2 2 0 0 1 2 3
    ∷ maps 0 (Some (at 0 2 ∷ [])) ∷ maps 1 (Some (at 0 4 ∷ at 0 5 ∷ at 0 9 ∷ [])) ∷ maps 2 None ∷ []

-- where every place is taken, the stale dup at the lowest place goes
abbrev pub stale_dup_makes_room : List Line
stale_dup_makes_room =
    merged ++ put 0 0 0xa1 ∷ put 0 1 0xa1 ∷ scan 4 ∷ put 0 0 0xa2 ∷ put 0 1 0xa2 ∷ scan 4
    ∷ put 0 0 0xa3 ∷ put 0 1 0xa3 ∷ scan 4 ∷ stat 1 1 0 0 0 0 8 ∷ ticket 0 0 0 ∷ prune 2 ∷ []

-- all words count where pages are compared
abbrev pub pages_differ_in_the_last_byte : List Line
pages_differ_in_the_last_byte =
    reg 0 0 0 0 ∷ ok (Register (at 0 1) 0 one_at_the_end) ∷ ok (SetRun 1) ∷ scan 4 ∷ stat 0 0 2 0 0 0 2
    ∷ ok (Register (at 0 2) 0 one_at_the_end) ∷ scan 6 ∷ stat 1 1 1 0 0 0 4 ∷ []
