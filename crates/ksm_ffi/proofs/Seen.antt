-- A call that sees a book: what is known where the handle stands for one, and where it stands for something else.
use Rattle.std.proofs.Common.{◌≡◌, ℕ, refl, sym, subst, ap, ◌∙◌, Option, Some}
use Rattle.ksm_book.specs.Carried.{JournaledBook}
use Rattle.ksm_ffi.specs.declared.answer.Answer.{Answer}
use Rattle.ksm_ffi.specs.declared.answer.Answer.TheVariants as answer
use Rattle.ksm_ffi.specs.declared.thing.Thing.{Thing}
use Rattle.ksm_ffi.specs.declared.thing.Thing.TheVariants.{Table, Book, Home, Pass}
use Rattle.ksm_ffi.specs.Answers.{number_of}
use Rattle.ksm_ffi.specs.Things.{OnBook, SeesBook}

-- the handle stands for a book, and its answer is told
pub seen : (P : JournaledBook → Answer → Type 0) (b : JournaledBook) (h : ℕ) (before after : Option Thing) (x : Thing) (a : Answer) (n : ℕ) → before ≡ Some x → after ≡ Some x → x ≡ Book b h → n ≡ number_of a → P b a → OnBook (SeesBook P) before n after
seen P b h before after x a n was stays is number told =
    let some : Some x ≡ Some (Book b h) = ap (λ y. Some y) is in
    subst (λ t. OnBook (SeesBook P) t n after) (sym (was ∙ some)) (a, b, (told, refl), number, stays ∙ some)

-- a handle that stands for something else than a book is as it was
pub not_seen : (P : JournaledBook → Answer → Type 0) (before after : Option Thing) (x : Thing) (n : ℕ) → before ≡ Some x → after ≡ Some x → n ≡ number_of answer.Kind → ((b : JournaledBook) (h : ℕ) → x ≡ Book b h → ⊥) → OnBook (SeesBook P) before n after
not_seen P before after (Table v h) n was stays number not = subst (λ t. OnBook (SeesBook P) t n after) (sym was) (number, stays)
not_seen P before after (Home h) n was stays number not = subst (λ t. OnBook (SeesBook P) t n after) (sym was) (number, stays)
not_seen P before after (Pass v m) n was stays number not = subst (λ t. OnBook (SeesBook P) t n after) (sym was) (number, stays)
not_seen P before after (Book b h) n was stays number not = absurd (not b h refl)
