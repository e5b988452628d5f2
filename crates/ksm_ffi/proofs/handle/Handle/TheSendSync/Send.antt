-- What a handle owns says the same to every thread: the box with what it stands for.
use mir.Raw.{raw}
use base.Shift.{Keyless}
use denote.Memory.{lone}
use denote.RawPtr.{Ptr, block_ptr, null_ptr}
use denote.Struct.Struct.{exits_of}
use denote.Struct.Owning.{shape, fields, to}
use denote.Param.Send.{IsSend, AllSend, owning_send, struct_send, sendable}
use Rattle.std.proofs.Crossing as heap
use Rattle.std_alloc.proofs.SendSync.{quiet, lies}
use Rattle.std.proofs.alloc.Global.TheSendSync as global
use Rattle.std.specs.declared.alloc.Global.{Global}
use Rattle.std.specs.declared.option.Option.{Option}
use Rattle.std.specs.declared.option.Option.TheVariants.{None, Some}
use Rattle.ksm_ffi.specs.Handles.{handle_owns}
use Rattle.ksm_ffi.specs.contracts.thing.Thing.{the_row as R}
use Rattle.ksm_ffi.proofs.thing.Thing.TheSendSync.{the_send as thing}
use Rattle.ksm_ffi.specs.contracts.handle.Handle.{the_row, the_type}

owned_keyless : (a : Global) (p : Ptr) (t : Option R.Denot) → Keyless (handle_owns a p t)
owned_keyless a null_ptr None = tt
owned_keyless a null_ptr (Some x) = λ e. absurd e
owned_keyless a (block_ptr b o) None = λ e. absurd e
owned_keyless a (block_ptr b o) (Some x) = (lies R thing (block_ptr b o) x, heap.frees.frees a (raw (lone R.mir)) (block_ptr b o))

-- a handle may be sent to another thread
pub send : IsSend the_row
send =
    let all : AllSend (fields the_type) = (search sendable, (global.the_field_send, tt)) in
    owning_send the_type all (λ d. owned_keyless d.alloc d.at d.thing)
    (λ k. quiet (to the_type) (exits_of k (fields the_type)) ((struct_send (shape the_type) all).leaving k))
