-- What a handle stands for once what it lent is given back (own).
use Rattle.std.specs.Prelude.{Some, Option}
use Rattle.std.specs.Borrow.{LendsIf, MutBor, Fml}
use Rattle.ksm_ffi.specs.declared.handle.Handle.{Handle}
use Rattle.ksm_ffi.specs.declared.thing.Thing.{Thing}
use Rattle.ksm_ffi.specs.contracts.thing.Thing as thing
use Rattle.ksm_ffi.specs.contracts.handle.Handle as handle

-- the handle, standing for this
abbrev pub standing_for : Handle → Thing → Handle
standing_for h t = record h { thing = Some t }

-- it stands for what the borrower left; where it was not open, it is as it was
abbrev pub LendsInPlace : MutBor Handle → Option (MutBor Thing) → Fml
LendsInPlace h r = LendsIf handle.the_row thing.the_row h r (standing_for h.now) h.now
