-- A handle that lends the session that it owns.
use base.Fml.{Fml}
use denote.Ref.{MutBor}
use Rattle.std.specs.Borrow.{Lends}
use Rattle.siploc_c.specs.Embedded.{EmbeddedState}
use Rattle.siploc_c.specs.contracts.embedded.Embedded as embedded
use Rattle.siploc_c.specs.declared.handle.Handle.{Handle}
use Rattle.siploc_c.specs.contracts.handle.Handle as handle

-- a handle with another session
abbrev pub with_value : Handle → EmbeddedState → Handle
with_value held value = record held { value = value }

-- the handle ends with the session as it is last behind the result
abbrev pub LendsSession : MutBor Handle → MutBor EmbeddedState → Fml
LendsSession lender result =
    Lends handle.the_row embedded.the_row lender result (with_value lender.now)
