-- What one turn of serving does: a read, and the replies to the items that it gave.
use Rattle.std.specs.Prelude.{◌≡◌, ◌≢◌, Bool, true, false, [], ◌++◌, Option}
use Rattle.std.specs.Io.KnownBytes.{Keeps, Appends, Consumes, IsAtEnd}
use Rattle.sipl_names.specs.Labels.{Octets}
use Rattle.sipl_lines.specs.Protocol.{Protocol}
use Rattle.sipl_lines.specs.Replies.{Serves}
use Rattle.sipl_lines.specs.Machine.{items_from, pending_after, kept_prefix, read_items}
use Rattle.sipl_lines.specs.Streams.{ServesFirst}
use Rattle.sipl_lines.specs.declared.server.ServeFault.{ServeFault}
use Rattle.sipl_lines.specs.declared.server.ServeFault.TheVariants.{Read, Write, TooManyTurns, Memory}

-- a prefix of the text is appended
abbrev pub AppendsPrefix : Option Octets → Option Octets → Octets → Type 0
AppendsPrefix old new text =
    (sent : Octets) × (unsent : Octets) × (text ≡ sent ++ unsent) × Appends old new sent

-- a read returns octets where there may be more to read, and none at the end of the input
abbrev pub EndsWithNone : Bool → Octets → Option Octets → Type 0
EndsWithNone true got left = got ≢ []
EndsWithNone false got left = (got ≡ []) × IsAtEnd left

-- a turn reads once, and all items that the read gave are served and their replies written
pub record CompletesTurn (p : Protocol) (more : Bool) (before : p.State) (pending : Octets)
    (unread left old : Option Octets) (after : p.State) (kept : Octets) (new : Option Octets)
    : Type 0 where
  pub got : Octets
  pub text : Octets
  pub consumed : Consumes unread left got
  pub ends : EndsWithNone more got left
  pub serves : Serves p before (read_items pending got) text after
  pub appended : Appends old new text
  pub kept_is : got ≢ [] → kept ≡ kept_prefix (pending_after pending got)

-- a turn reads once, and is aborted with the first ones of the items served, and a prefix written
pub record AbortsTurn (p : Protocol) (before : p.State) (pending : Octets)
    (unread left old : Option Octets) (after : p.State) (new : Option Octets) : Type 0 where
  pub got : Octets
  pub consumed : Consumes unread left got
  pub at_end : got ≡ [] → IsAtEnd left
  pub first : ServesFirst p before (read_items pending got) old after new

-- a read fails: all is as it was
pub record KeepsAll (p : Protocol) (before : p.State) (unread left old : Option Octets)
    (after : p.State) (new : Option Octets) : Type 0 where
  pub reader : Keeps unread left
  pub state : after ≡ before
  pub writer : Keeps old new

-- a turn fails
abbrev pub FailsTurn : ServeFault → (p : Protocol) → p.State → Octets → Option Octets
    → Option Octets → Option Octets → p.State → Option Octets → Type 0
FailsTurn Read p before pending unread left old after new =
    KeepsAll p before unread left old after new
FailsTurn Write p before pending unread left old after new =
    AbortsTurn p before pending unread left old after new
FailsTurn TooManyTurns p before pending unread left old after new = ⊥
FailsTurn Memory p before pending unread left old after new =
    AbortsTurn p before pending unread left old after new

-- all that was read is served, and all replies written
pub record HasServed (p : Protocol) (before : p.State) (unread left old : Option Octets)
    (now : p.State) (kept : Octets) (new : Option Octets) : Type 0 where
  pub got : Octets
  pub text : Octets
  pub consumed : Consumes unread left got
  pub serves : Serves p before (items_from [] got) text now
  pub appended : Appends old new text
  pub kept_is : kept ≡ kept_prefix (pending_after [] got)
