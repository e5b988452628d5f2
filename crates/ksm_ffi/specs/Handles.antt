-- What a handle owns: nothing at null, else the box at its pointer.
use base.Fml.{Fml, ftrue, fex}
use base.Stored.{Coded}
use denote.RawPtr.{Ptr, block_ptr, null_ptr}
use Rattle.std.specs.Coded.{coded_option}
use Rattle.std.specs.declared.option.Option.{Option}
use Rattle.std.specs.declared.option.Option.TheVariants.{None, Some}
use Rattle.std.specs.declared.alloc.Global.{Global}
use Rattle.std.specs.contracts.impls.GlobalAllocator.TheImpl.{ghosts}
use Rattle.std_alloc.specs.Box.Ownership.{box_owns}
use Rattle.ksm_ffi.specs.contracts.thing.Thing.{the_row}

abbrev pub handle_coded : Coded (Option the_row.Denot)
handle_coded = coded_option the_row.coded

abbrev pub boxed : Global → Ptr → the_row.Denot → Fml
boxed a = box_owns (ghosts.dealloc_token a) the_row

abbrev pub handle_owns : Global → Ptr → Option the_row.Denot → Fml
handle_owns a null_ptr None = ftrue
handle_owns a null_ptr (Some x) = fex ⊥ (λ _. ftrue)
handle_owns a (block_ptr b o) None = fex ⊥ (λ _. ftrue)
handle_owns a (block_ptr b o) (Some x) = boxed a (block_ptr b o) x
