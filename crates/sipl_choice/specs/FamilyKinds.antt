-- Families of addresses (RFC 3263, 4.2).
use Rattle.std.specs.Prelude.{List, [], ◌∷◌}
use Rattle.sipl_records.specs.declared.kind.Kind.{Kind}
use Rattle.sipl_records.specs.declared.kind.Kind.TheVariants.{Address4, Address6}
use Rattle.sipl_choice.specs.declared.families.Families.{Families}
use Rattle.sipl_choice.specs.declared.families.Families.TheVariants.{V4, V6, V4ThenV6, V6ThenV4}

-- the kinds of data that are looked up, in their order
abbrev pub address_kinds : Families → List Kind
address_kinds V4 = Address4 ∷ []
address_kinds V6 = Address6 ∷ []
address_kinds V4ThenV6 = Address4 ∷ Address6 ∷ []
address_kinds V6ThenV4 = Address6 ∷ Address4 ∷ []
