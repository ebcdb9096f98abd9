-- What parameters say, one after the other.
use Rattle.std.proofs.Common.{◌≡◌, ℕ, Bool, true, false, List, [], ◌∷◌, Option, Some, Result, Ok, Err, if◌then◌else◌, codes, length, refl, sym, ap, ◌∙◌, inl, inr, nat_eq}
use Rattle.std.specs.List.{list_any}
use Rattle.std.specs.Str.{str_to_ascii_lowercase}
use Rattle.std.proofs.lemmas.Bool.{cases_Bool}
use lib.Pointwise.{bytes_decides}
use Rattle.sipl_names.specs.Labels.{Octets}
use Rattle.sipl_records.specs.Parts.{parts, prepend_to_first, split_once}
use Rattle.sipl_uri.specs.declared.fault.UriFault.{UriFault}
use Rattle.sipl_uri.specs.UriParts.{params_in}
use Rattle.sipl_uri.specs.Params.{Settings, param_of, take_param, take_params, same_text, with_name}

first_part : (b : Bool) (c : ℕ) (text : Octets) → parts 59 text ≡ (split_once 59 text).0 ∷ params_in (split_once 59 text).1 → (if b then [] ∷ parts 59 text else prepend_to_first c (parts 59 text)) ≡ (let split : Octets × Option Octets = if b then ([], Some text) else (c ∷ (split_once 59 text).0, (split_once 59 text).1) in split.0 ∷ params_in split.1)
first_part true c text e = refl
first_part false c text e = ap (prepend_to_first c) e

-- the first parameter, and those after its semicolon
params_in-Some : (text : Octets) → parts 59 text ≡ (split_once 59 text).0 ∷ params_in (split_once 59 text).1
params_in-Some [] = refl
params_in-Some (c ∷ text) = first_part (nat_eq c 59) c text (params_in-Some text)

taken : (text first : Octets) (after : Option Octets) (settings : Settings) → first ≡ (split_once 59 text).0 → after ≡ (split_once 59 text).1 → take_params (params_in (Some text)) settings ≡ take_params (first ∷ params_in after) settings
taken text first after settings e f =
    ap (λ (texts : List Octets). take_params texts settings) (params_in-Some text ∙ (λ i. sym e i ∷ params_in (sym f i)))

-- a parameter that is taken
pub take_params-Ok : (text first : Octets) (after : Option Octets) (settings then_settings : Settings) → first ≡ (split_once 59 text).0 → after ≡ (split_once 59 text).1 → take_param (param_of first) settings ≡ Ok then_settings → take_params (params_in (Some text)) settings ≡ take_params (params_in after) then_settings
take_params-Ok text first after settings then_settings e f ok = taken text first after settings e f ∙ ap (λ (r : Result Settings UriFault). elim r as (λ _. Result Settings UriFault) [ Ok t ↦ take_params (params_in after) t | Err fault ↦ Err fault ]) ok

-- a parameter that has a fault
pub take_params-Err : (text first : Octets) (after : Option Octets) (settings : Settings) (fault : UriFault) → first ≡ (split_once 59 text).0 → after ≡ (split_once 59 text).1 → take_param (param_of first) settings ≡ Err fault → take_params (params_in (Some text)) settings ≡ Err fault
take_params-Err text first after settings fault e f err = taken text first after settings e f ∙ ap (λ (r : Result Settings UriFault). elim r as (λ _. Result Settings UriFault) [ Ok t ↦ take_params (params_in after) t | Err x ↦ Err x ]) err

same_text-false : (a b : Octets) → (a ≡ b → false ≡ true) → same_text a b ≡ false
same_text-false a b other = elim (cases_Bool (same_text a b)) [
  | inl same ↦ let never : false ≡ true = other ((bytes_decides a b).0 same) in cc
  | inr is ↦ is
]

other_param : (name : Octets) (value : Option Octets) (settings : Settings) → nat_eq (length name) 0 ≡ false → list_any (same_text (str_to_ascii_lowercase name)) settings.names ≡ false → same_text (str_to_ascii_lowercase name) (codes "transport") ≡ false → same_text (str_to_ascii_lowercase name) (codes "maddr") ≡ false → take_param (record { name = str_to_ascii_lowercase name; value = value }) settings ≡ Ok (with_name (str_to_ascii_lowercase name) settings)
other_param [] value settings nonempty new not_transport not_maddr = cc
other_param (c ∷ name) value settings nonempty new not_transport not_maddr = rw (new, not_transport, not_maddr) refl

-- a parameter of another name is accepted
pub take_param-other : (text name : Octets) (settings : Settings) → name ≡ (split_once 61 text).0 → nat_eq (length name) 0 ≡ false → list_any (same_text (str_to_ascii_lowercase name)) settings.names ≡ false → (str_to_ascii_lowercase name ≡ codes "transport" → false ≡ true) → (str_to_ascii_lowercase name ≡ codes "maddr" → false ≡ true) → take_param (param_of text) settings ≡ Ok (with_name (str_to_ascii_lowercase name) settings)
take_param-other text name settings is nonempty new not_transport not_maddr =
    ap (λ (n : Octets). take_param (record { name = str_to_ascii_lowercase n; value = (split_once 61 text).1 }) settings) (sym is)
    ∙ other_param name (split_once 61 text).1 settings nonempty new (same_text-false _ _ not_transport) (same_text-false _ _ not_maddr)
