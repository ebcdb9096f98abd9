-- What octets that copies share are to contracts.
use Rattle.std.specs.Prelude.{ℕ, List}
use Rattle.sipl_names.specs.declared.shared.Kept.{Kept}
use Rattle.sipl_names.specs.declared.shared.Kept.TheVariants.{Short, Long}

-- the octets, in whichever way they are kept
abbrev pub kept_octets : Kept → List ℕ
kept_octets (Short octets) = octets
kept_octets (Long octets) = octets
