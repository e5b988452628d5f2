-- What the kernel's own tests of this feature check (tools/testing/selftests/mm, ksm_tests and ksm_functional_tests), as scripts.
use Rattle.std.specs.Prelude.{List, [], ◌∷◌, ◌++◌, None}
use Rattle.ksm_base.specs.declared.command.Command.TheVariants.{SetRun, SetAcross, SetLimit}
use Rattle.ksm_worked.specs.Scripts.{Line, lies_at, at, ok, reg, put, drop, scan, unmerge, stat}

-- ten pages of equal bytes, in two passes
abbrev pub ten_equal_pages : List Line
ten_equal_pages =
    reg 0 0 0 0x2a ∷ reg 0 1 0 0x2a ∷ reg 0 2 0 0x2a ∷ reg 0 3 0 0x2a ∷ reg 0 4 0 0x2a ∷ reg 0 5 0 0x2a ∷ reg 0 6 0 0x2a
    ∷ reg 0 7 0 0x2a ∷ reg 0 8 0 0x2a ∷ reg 0 9 0 0x2a ∷ ok (SetRun 1) ∷ scan 20 ∷ []

-- ten equal pages make one dup below the limit
abbrev pub ten_pages_make_one_dup : List Line
ten_pages_make_one_dup = ten_equal_pages ++ stat 1 9 0 0 0 0 2 ∷ []

-- ten equal pages at limit three make three full dups, and one page waits
abbrev pub ten_pages_at_limit_three : List Line
ten_pages_at_limit_three = ok (SetLimit 3) ∷ ten_equal_pages ++ stat 3 6 1 0 1 3 2 ∷ []

-- ten equal pages at limit four make two full dups and one of two
abbrev pub ten_pages_at_limit_four : List Line
ten_pages_at_limit_four = ok (SetLimit 4) ∷ ten_equal_pages ++ stat 3 7 0 0 1 3 2 ∷ []

-- two merged pages, each written with other bytes, share nothing
abbrev pub written_pages_share_nothing : List Line
written_pages_share_nothing =
    reg 0 0 0 0x2a ∷ reg 0 1 0 0x2a ∷ ok (SetRun 1) ∷ scan 4 ∷ stat 1 1 0 0 0 0 2 ∷ put 0 0 0x2b ∷ put 0 1 0x2d ∷ scan 2
    ∷ stat 0 0 0 2 0 0 3 ∷ []

-- equal pages of two nodes
abbrev pub pages_of_two_nodes : List Line
pages_of_two_nodes = reg 0 0 0 0x2a ∷ reg 0 1 1 0x2a ∷ ok (SetRun 1) ∷ scan 4 ∷ []

-- equal pages of two nodes merge with merge_across_nodes 1
abbrev pub two_nodes_merge : List Line
two_nodes_merge = pages_of_two_nodes ++ stat 1 1 0 0 0 0 2 ∷ []

-- equal pages of two nodes do not merge with merge_across_nodes 0
abbrev pub two_nodes_stay_apart : List Line
two_nodes_stay_apart = ok (SetAcross 0) ∷ pages_of_two_nodes ++ stat 0 0 2 0 0 0 2 ∷ []

-- four merged pages
abbrev pub four_merged_pages : List Line
four_merged_pages =
    reg 0 0 0 0x2a ∷ reg 0 1 0 0x2a ∷ reg 0 2 0 0x2a ∷ reg 0 3 0 0x2a ∷ ok (SetRun 1) ∷ scan 8 ∷ stat 1 3 0 0 0 0 2 ∷ []

-- unmerging leaves no page merged
abbrev pub unmerging_leaves_none_merged : List Line
unmerging_leaves_none_merged =
    four_merged_pages ++ unmerge 0 4 ∷ lies_at (at 0 0) None ∷ lies_at (at 0 1) None ∷ lies_at (at 0 2) None
    ∷ lies_at (at 0 3) None ∷ stat 0 0 0 0 0 0 2 ∷ []

-- unmerging takes the pages of a guest that are left after some were dropped
abbrev pub unmerging_after_discarding : List Line
unmerging_after_discarding =
    four_merged_pages ++ drop 0 0 ∷ drop 0 1 ∷ unmerge 0 2 ∷ stat 0 0 0 0 0 0 2 ∷ []
