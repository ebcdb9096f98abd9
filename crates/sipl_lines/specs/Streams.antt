-- What serving does between a reader and a writer whose octets are known.
use Rattle.std.specs.Prelude.{◌≡◌, List, ◌++◌, IfSome, Option}
use Rattle.std.specs.Io.KnownBytes.{Consumes, Appends}
use Rattle.sipl_names.specs.Labels.{Octets}
use Rattle.sipl_lines.specs.Items.{Item, items_of, complete_items}
use Rattle.sipl_lines.specs.Protocol.{Protocol}
use Rattle.sipl_lines.specs.Replies.{Serves}

-- all items of what the reader had left are served, and the writer has their replies
abbrev pub ServesAll : (p : Protocol) → p.State → Option Octets → Option Octets → p.State
    → Option Octets → Type 0
ServesAll p before unread old after new =
    IfSome unread
    (λ input. (text : Octets) × Serves p before (items_of input) text after × Appends old new text)

-- the first ones of the items are served, and the writer has a prefix of their replies
pub record ServesFirst (p : Protocol) (before : p.State) (items : List Item) (old : Option Octets)
    (after : p.State) (new : Option Octets) : Type 0 where
  pub done : List Item
  pub rest : List Item
  pub sent : Octets
  pub unsent : Octets
  pub split : items ≡ done ++ rest
  pub serves : Serves p before done (sent ++ unsent) after
  pub appended : Appends old new sent

-- the first ones of the items of what the reader had left are served
abbrev pub ServesPrefix : (p : Protocol) → p.State → Option Octets → Option Octets → p.State
    → Option Octets → Type 0
ServesPrefix p before unread old after new =
    IfSome unread (λ input. ServesFirst p before (items_of input) old after new)

-- all lines that were complete in what was read are served, no other, and their replies written
pub record ServesRead (p : Protocol) (before : p.State) (unread left old : Option Octets)
    (after : p.State) (new : Option Octets) : Type 0 where
  pub got : Octets
  pub text : Octets
  pub consumed : Consumes unread left got
  pub serves : Serves p before (complete_items got) text after
  pub appended : Appends old new text
