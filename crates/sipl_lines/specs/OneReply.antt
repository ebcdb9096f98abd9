-- How far the state of a session and an item determine the reply.
use Rattle.std.specs.Prelude.{◌≡◌, ◌⊎◌, ◌++◌, option_map, codes}
use Rattle.sipl_names.specs.Labels.{Octets}
use Rattle.sipl_lines.specs.Gathering.{lost}
use Rattle.sipl_lines.specs.ReplyText.{refusal_line}
use Rattle.sipl_lines.specs.Session.{SessionState, with_gathering}

-- the last line of a reply is `err Memory`: an allocation failed
abbrev pub EndsInMemory : Octets → Type 0
EndsInMemory text = (others : Octets) × (text ≡ others ++ refusal_line (codes "Memory"))

-- the state where the lines of the zone that is being taken are lost, if there is one: an allocation
-- failed, and `err Memory` is the reply once all lines are taken
abbrev pub with_lines_lost : {D : Type 0} → SessionState D → SessionState D
with_lines_lost state =
    with_gathering (option_map (λ gathering. lost gathering.left) state.gathering) state

-- the states are equal, but that one of them may have lost the lines of a zone
abbrev pub AreEqualOrLost : {D : Type 0} → SessionState D → SessionState D → Type 0
AreEqualOrLost a b = (a ≡ b) ⊎ (a ≡ with_lines_lost b) ⊎ (b ≡ with_lines_lost a)

-- `err Memory` ends a line somewhere in a text
abbrev pub TellsMemory : Octets → Type 0
TellsMemory text =
    (before : Octets) × (after : Octets) × (text ≡ before ++ refusal_line (codes "Memory") ++ after)
