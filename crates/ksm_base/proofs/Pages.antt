-- The order of pages.
use Rattle.std.proofs.Common.{◌≡◌, true, false, arith}
use Rattle.std.proofs.lemmas.Bool.Decides.{nat_tests}
use Rattle.ksm_base.specs.declared.page.GuestPage.{GuestPage}
use Rattle.ksm_base.specs.Rows.{comes_before, same_page}

-- a page tests as the same page as itself
pub same_page_refl : (p : GuestPage) → same_page p p ≡ true
same_page_refl p = grind (arith, nat_tests)

-- what is the first of two ordered pages is not the second
pub apart_second : (p q x : GuestPage) → comes_before p q ≡ true → same_page p x ≡ true → same_page q x ≡ false
apart_second p q x before same = grind (arith, nat_tests)

-- where p comes before q and q before x, p comes before x
pub before_trans : (p q x : GuestPage) → comes_before p q ≡ true → comes_before q x ≡ true → comes_before p x ≡ true
before_trans p q x first second = grind (arith, nat_tests)

-- no page comes before itself
pub before_irrefl : (p : GuestPage) → comes_before p p ≡ false
before_irrefl p = grind (arith, nat_tests)

-- of two pages only one comes before the other
pub not_both : (p q : GuestPage) → comes_before p q ≡ true → comes_before q p ≡ false
not_both p q before = grind (arith, nat_tests)

-- two pages are the same, or one comes before the other
pub one_before : (p q : GuestPage) → same_page p q ≡ false → comes_before p q ≡ false → comes_before q p ≡ true
one_before p q differ not_before = grind (arith, nat_tests)

-- pages that test as the same are equal
pub same_page_eq : (p q : GuestPage) → same_page p q ≡ true → p ≡ q
same_page_eq p q same = grind (arith, nat_tests)

-- two pages test as the same page in either order
pub same_page_sym : (p q : GuestPage) → same_page p q ≡ same_page q p
same_page_sym p q = grind (arith, nat_tests)

-- a page that comes behind another is not that page
pub before_differs : (p q : GuestPage) → comes_before p q ≡ true → same_page q p ≡ false
before_differs p q before = grind (arith, nat_tests)

-- a page that comes before another is not that page
pub after_differs : (p q : GuestPage) → comes_before p q ≡ true → same_page p q ≡ false
after_differs p q before = grind (arith, nat_tests)
