-- A handle may go to another thread: so may its session, and any thread may free its block.
use mir.Raw.{raw}
use denote.Memory.{lone}
use denote.Struct.Struct.{exits_of}
use denote.Struct.Owning.{shape, fields, to}
use denote.Param.Send.{IsSend, AllSend, owning_send, struct_send, sendable}
use Rattle.std.proofs.Crossing as heap
use Rattle.std_alloc.proofs.SendSync.{quiet, lies}
use Rattle.std_heap.proofs.Handle.{handle}
use Rattle.siploc_c.specs.contracts.embedded.Embedded as Embedded
use Rattle.siploc_c.proofs.embedded.Embedded.TheSendSync.{the_send as embedded}
use Rattle.siploc_c.specs.contracts.handle.Handle.{the_row, the_type}

pub send : IsSend the_row
send =
    let all : AllSend (fields the_type) = (search sendable, tt) in
    owning_send the_type all (λ d. (lies Embedded.the_row embedded d.at d.value, heap.frees.frees handle (raw (lone Embedded.the_row.mir)) d.at))
    (λ k. quiet (to the_type) (exits_of k (fields the_type)) ((struct_send (shape the_type) all).leaving k))
