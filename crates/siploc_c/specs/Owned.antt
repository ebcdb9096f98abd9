-- What an address that C keeps owns.
use Rattle.std.specs.Prelude.{Option, None, Some}
use base.Fml.{Fml, ftrue}
use denote.RawPtr.{Ptr}
use Rattle.libc.specs.Heap.{chunk}
use Rattle.std_alloc.specs.Box.Ownership.{box_owns}
use Rattle.siploc_c.specs.Embedded.{EmbeddedState}
use Rattle.siploc_c.specs.contracts.embedded.Embedded.{the_row}

-- a box of this session
abbrev pub owned : Ptr → EmbeddedState → Fml
owned at value = box_owns chunk the_row at value

-- a box of the session, where there is one
abbrev pub owned_if : Ptr → Option EmbeddedState → Fml
owned_if at None = ftrue
owned_if at (Some value) = owned at value
