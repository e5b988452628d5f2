-- The order of guest pages, and a list that is written back.
use Rattle.ksm_order.proofs.Names.{arith, comes_before, drop, length, List, nat_tests, refill, same_page, sym, take, take-append_seam, ◌++◌, ◌∙◌, ◌≡◌}
use Rattle.ksm_order.proofs.Ordered.{IsOrder}

-- pages have an order by guest and page
pub pages_ordered : IsOrder comes_before same_page
pages_ordered = grind (arith, nat_tests)

-- a list that is filled up from another by as many as that has is what came
pub refilled : {X : Type 0} (xs ws : List X) → length ws ≡ length xs → refill (length xs) xs ws ≡ ws
refilled xs ws same = (λ i. take (sym same i) (ws ++ drop (length ws) xs)) ∙ take-append_seam ws (drop (length ws) xs)
