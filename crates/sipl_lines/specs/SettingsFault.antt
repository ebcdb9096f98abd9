-- The faults of settings, and their codes.
use Rattle.std.specs.Prelude.{ℕ, List, Option, None, Some, codes, string_bytes}
use Rattle.sipl_names.specs.Labels.{Octets}
use Rattle.sipl_lines.specs.declared.settings.fault.SettingsFault.{SettingsFault}
use Rattle.sipl_lines.specs.declared.settings.fault.SettingsFault.TheVariants.{NotToml, UnknownKey, BadValue, Memory}
use Rattle.sipl_lines.specs.declared.settings.fault.Refusal.{Refusal}
use Rattle.sipl_lines.specs.declared.settings.fault.Refusal.TheVariants as refusal

-- what is wrong with a text, with the octets of the key
pub data Fault : Type 0 where
  not_toml : Fault
  unknown_key : Octets → Fault
  bad_value : Octets → Fault

-- what an error says of the text: an allocation failure says nothing
abbrev pub fault_of : SettingsFault → Option Fault
fault_of NotToml = Some not_toml
fault_of (UnknownKey key) = Some (unknown_key (string_bytes key))
fault_of (BadValue key) = Some (bad_value (string_bytes key))
fault_of Memory = None

-- the error's code
abbrev pub code_of : SettingsFault → List ℕ
code_of NotToml = codes "G1"
code_of (UnknownKey key) = codes "G2"
code_of (BadValue key) = codes "G3"
code_of Memory = codes "Memory"

-- what a refusal says of a key
abbrev pub key_fault : Refusal → Octets → Option Fault
key_fault refusal.UnknownKey key = Some (unknown_key key)
key_fault refusal.BadValue key = Some (bad_value key)
key_fault refusal.Memory key = None
