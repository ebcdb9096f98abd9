-- A name's text, token by token.
use Rattle.std.specs.Prelude.{◌≡◌, ◌<◌, Bool, [], ◌∷◌, Ok, length}
use Rattle.std.specs.List.{AllByRecursion}
use Rattle.sipl_names.specs.declared.fault.InvalidName.{InvalidName}
use Rattle.sipl_names.specs.declared.fault.InvalidName.TheVariants.{BadEscape}
use Rattle.sipl_names.specs.declared.text.Token.{Token}
use Rattle.sipl_names.specs.declared.text.Token.TheVariants.{Octet, Dot}
use Rattle.sipl_names.specs.Labels.{Octets, IsLabel}
use Rattle.sipl_names.specs.Wire.{IsWire, labels_of_wire}
use Rattle.sipl_names.specs.NameText.{Symbol, octet, dot, bad_escape, symbols, labels_from}

-- the symbol of a token
abbrev pub symbol_of : Token → Symbol
symbol_of (Octet c) = octet c
symbol_of Dot = dot

-- the text begins with the token, and the rest follows
pub record BeginsWith (text : Octets) (token : Token) (rest : Octets) : Type 0 where
  pub spells : symbols 0 text ≡ symbol_of token ∷ symbols 0 rest
  pub shorter : length rest < length text

-- the text begins with a backslash that begins no escape
pub record IsBadEscape (text : Octets) (fault : InvalidName) : Type 0 where
  pub spells : symbols 0 text ≡ bad_escape ∷ []
  pub fault_is : fault ≡ BadEscape

-- the wire form has the labels that the text spells
pub record Spells (text wire : Octets) (is_absolute : Bool) : Type 0 where
  pub read : labels_from [] (symbols 0 text) ≡ Ok (labels_of_wire wire, is_absolute)
  pub exact : IsWire wire
  pub each : AllByRecursion IsLabel (labels_of_wire wire)
