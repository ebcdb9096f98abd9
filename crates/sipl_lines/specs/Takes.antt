-- What becomes of octets that come piece by piece.
use Rattle.std.specs.Prelude.{◌≡◌, ◌≢◌, ◌⊎◌, ℕ, ◌<◌, [], ◌∷◌, ◌++◌, length, take, drop}
use Rattle.sipl_names.specs.Labels.{Octets}
use Rattle.sipl_lines.specs.Items.{complete_items}
use Rattle.sipl_lines.specs.Machine.{items_from, pending_after, kept_prefix}
use Rattle.sipl_lines.specs.Protocol.{Protocol}
use Rattle.sipl_lines.specs.Replies.{AppendsReplies}

-- Octets are taken after those that are pending of a line, and other octets are pending then.
pub record Takes (p : Protocol) (before : p.State) (pending taken old : Octets) (after : p.State)
    (pending' new : Octets) : Type 0 where
  -- the lines that end in them are served, and their replies appended
  pub replies : AppendsReplies p before (items_from pending taken) old after new
  -- the octets after the last line end are pending
  pub pending_is : pending' ≡ kept_prefix (pending_after pending taken)
  -- where no line ends the state stays, and where there are no octets all is as it was
  pub same_state : items_from pending taken ≡ [] → after ≡ before
  pub same_pending : taken ≡ [] → pending' ≡ pending

-- the octets are none, or end with LF
abbrev pub EndAtLine : Octets → Type 0
EndAtLine octets = (octets ≡ []) ⊎ ((others : Octets) × (octets ≡ others ++ 10 ∷ []))

-- So many of the octets are taken, and no others: they are none or end with a line, and one more line
-- ends in the others.
pub record TakesFirst (p : Protocol) (count : ℕ) (before : p.State) (pending octets old : Octets)
    (after : p.State) (pending' new : Octets) : Type 0 where
  pub takes : Takes p before pending (take count octets) old after pending' new
  pub ends : EndAtLine (take count octets)
  pub line : items_from [] (drop count octets) ≢ []
  pub within : count < length octets

-- All octets of a talk are taken, whatever pieces they came in: the replies to the complete lines
-- among them follow the first octets, and what is after the last line end is pending.
pub record HasTaken (p : Protocol) (first : p.State) (octets old : Octets) (now : p.State)
    (pending new : Octets) : Type 0 where
  pub replies : AppendsReplies p first (complete_items octets) old now new
  pub pending_is : pending ≡ kept_prefix (pending_after [] octets)
