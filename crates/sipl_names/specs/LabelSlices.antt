-- Labels that are borrowed.
use Rattle.std.specs.Prelude.{List, map}
use Rattle.std.specs.Borrow.{Bor}
use Rattle.sipl_names.specs.Labels.{Octets, Labels}

-- the octets of the slices
abbrev pub octets_of : List (Bor Octets) → Labels
octets_of slices = map (λ slice. slice.now) slices
