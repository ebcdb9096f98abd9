-- A hostname's text, octet by octet.
use Rattle.std.specs.Prelude.{◌≡◌, ℕ, true, Option, None, Some, if◌then◌else◌, ◌==◌}
use Rattle.std.specs.Char.{to_ascii_lowercase}
use Rattle.std.specs.List.{list_all}
use Rattle.sipl_names.specs.Labels.{Octets}
use Rattle.sipl_names.specs.Hostnames.{is_label_octet, is_hostname_octet, hostname_of}
use Rattle.sipl_names.specs.Wire.{IsNameWire, labels_of_wire}

-- an octet of a label in lower case, and 0 for a dot (46): the length of the label after it
abbrev pub wire_octet_of : ℕ → Option ℕ
wire_octet_of c =
    if c == 46 then Some 0 else (if is_label_octet c then Some (to_ascii_lowercase c) else None)

-- the octets are the wire form of the hostname's name
pub record IsHostnameWire (text wire : Octets) : Type 0 where
  pub octets : list_all is_hostname_octet text ≡ true
  pub wires : IsNameWire wire
  pub gives : hostname_of text ≡ Some (labels_of_wire wire)
