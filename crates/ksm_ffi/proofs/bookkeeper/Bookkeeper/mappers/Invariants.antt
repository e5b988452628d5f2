use Rattle.std.proofs.Common.{◌≡◌, take, drop, map, length}
use Rattle.ksm_ffi.specs.Books.{packed}
use Rattle.ksm_ffi.proofs.bookkeeper.Bookkeeper.mappers.Given as goal

-- the pages told so far
abbrev pub invariant-pages : goal.invariant-pages
invariant-pages l = record {
  told : take l.i l.pages ≡ map packed (take l.i l.found.items);
  behind : drop l.i l.pages ≡ drop l.i l.fn.pages;
  count : length l.pages ≡ length l.fn.pages;
}
