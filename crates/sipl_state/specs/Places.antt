-- Places in the file of changes, in octets from the first one that was ever appended.
use Rattle.std.specs.Prelude.{ℕ, ◌+◌, ◌-◌, ◌^◌, length, max, min}
use Rattle.sipl_names.specs.Labels.{Octets}

-- the place after a text that begins at a place, which has 64 bits
abbrev pub place_after : ℕ → Octets → ℕ
place_after place text = min (place + length text) (2 ^ 64 - 1)

-- the number after that of a checkpoint, which has 64 bits
abbrev pub number_after : ℕ → ℕ
number_after number = min (number + 1) (2 ^ 64 - 1)

-- the end after which the changes since a checkpoint are longer than 1,048,576 octets, and than the state
-- that they follow
abbrev pub long_end : ℕ → ℕ → ℕ
long_end begin state_len = min (begin + max state_len 1048576) (2 ^ 64 - 1)
