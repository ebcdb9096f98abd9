-- What a line server serves, whatever its commands are.
use Rattle.std.specs.Prelude.{◌≡◌, ◌<◌, Bool, true, [], length}
use Rattle.sipl_names.specs.Labels.{Octets}
use Rattle.sipl_lines.specs.Items.{Item, line}

-- a protocol: what is kept from one item to the next, which reply an item may have and which state
-- it may leave, which state a pause between items may leave, and whether a state is the last
pub record Protocol : Type 1 where
  pub State : Type 0
  pub MayReply : State → Item → Octets → State → Type 0
  pub MayPause : State → State → Type 0
  pub has_ended : State → Bool

-- a state that has ended says nothing, lines of more than 65,536 octets have the same replies, and a
-- pause ends nothing
pub record IsLineProtocol (p : Protocol) : Type 0 where
  pub silent : (s : p.State) (item : Item) → p.has_ended s ≡ true → p.MayReply s item [] s
  pub long : (s u : p.State) (a b text : Octets) → 65536 < length a → 65536 < length b
      → p.MayReply s (line a) text u → p.MayReply s (line b) text u
  pub paused : (s u : p.State) → p.MayPause s u → p.has_ended u ≡ p.has_ended s
