-- The replies to items, one after another.
use Rattle.std.specs.Prelude.{◌≡◌, List, [], ◌∷◌, ◌++◌}
use Rattle.sipl_names.specs.Labels.{Octets}
use Rattle.sipl_lines.specs.Items.{Item}
use Rattle.sipl_lines.specs.Protocol.{Protocol}

-- one pause after another, each of which leaves the next of these states; with none all is as it was
abbrev pub Pauses : (p : Protocol) → p.State → List p.State → p.State → Type 0
Pauses p before [] after = after ≡ before
Pauses p before (next ∷ others) after = p.MayPause before next × Pauses p next others after

-- no item comes for a time: there may be pauses
abbrev pub Waits : (p : Protocol) → p.State → p.State → Type 0
Waits p before after = (states : List p.State) × Pauses p before states after

-- there may be pauses, and then an item has its reply
abbrev pub WaitsAndReplies : (p : Protocol) → p.State → Item → Octets → p.State → Type 0
WaitsAndReplies p before item text after =
    (between : p.State) × Waits p before between × p.MayReply between item text after

-- an item has its reply, and the items after it have theirs
pub record RepliesInTurn (p : Protocol) (First : Octets → p.State → Type 0)
    (Others : p.State → Octets → Type 0) (text : Octets) : Type 0 where
  pub reply : Octets
  pub replies : Octets
  pub between : p.State
  pub first : First reply between
  pub others : Others between replies
  pub joined : text ≡ reply ++ replies

-- the items are served in turn, with pauses between them: this text is their replies, and this is the
-- state after them
abbrev pub Serves : (p : Protocol) → p.State → List Item → Octets → p.State → Type 0
Serves p before [] text after = (text ≡ []) × Waits p before after
Serves p before (item ∷ items) text after =
    RepliesInTurn p (λ reply between. WaitsAndReplies p before item reply between)
    (λ between replies. Serves p between items replies after) text

-- an item is served, and its reply appended
abbrev pub AppendsReply : (p : Protocol) → p.State → Item → Octets → p.State → Octets → Type 0
AppendsReply p before item old after new =
    (text : Octets) × p.MayReply before item text after × (new ≡ old ++ text)

-- the items are served, and their replies appended
abbrev pub AppendsReplies : (p : Protocol) → p.State → List Item → Octets → p.State → Octets
    → Type 0
AppendsReplies p before items old after new =
    (text : Octets) × Serves p before items text after × (new ≡ old ++ text)

-- the first ones of the items are served, and their replies appended
pub record AppendsFirstReplies (p : Protocol) (before : p.State) (items : List Item) (old : Octets)
    (after : p.State) (new : Octets) : Type 0 where
  pub done : List Item
  pub rest : List Item
  pub split : items ≡ done ++ rest
  pub replies : AppendsReplies p before done old after new
