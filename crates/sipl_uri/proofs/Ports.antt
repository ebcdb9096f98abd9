-- Digits say a port by the grammar exactly where they are read as one.
use Rattle.std.proofs.Common.{◌≡◌, ℕ, ◌≤◌, Bool, true, false, ◌&&◌, length, Option, Some, None, if◌then◌else◌, refl, sym, ap, ◌∙◌, arith, inl, inr, nat_eq, ◌==◌}
use Rattle.std.specs.Prelude.{nat_le}
use Rattle.std.specs.Str.{all_ascii_digits}
use Rattle.std.specs.Str.Parse.{digits_value}
use Rattle.std.proofs.lemmas.Bool.{cases_Bool, and_parts, and_from, leb-true, le-leb, eqb-false, ne_eqb}
use Rattle.sipl_names.specs.Labels.{Octets}
use Rattle.sipl_uri.specs.Uris.{port_of}
use Rattle.sipl_uri.specs.Grammar.{IsPort}

port_by : (b : Bool) (n port : ℕ) → elim (if b then Some n else None) as (λ _. Option ℕ) [ Some p ↦ (if p == 0 then None else Some p) | None ↦ None ] ≡ Some port → (b ≡ true) × (nat_eq n 0 ≡ false) × (n ≡ port)
port_by true n port e = elim (cases_Bool (nat_eq n 0)) [
  | inl zero_port ↦ let absent : ◌≡◌ {A = Option ℕ} None (Some port) = sym (ap (λ (z : Bool). if z then None else Some n) zero_port) ∙ e in cc
  | inr other ↦ let same : ◌≡◌ {A = Option ℕ} (Some n) (Some port) = sym (ap (λ (z : Bool). if z then None else Some n) other) ∙ e in (refl, other, cc)
]
port_by false n port e = cc

-- what is read as a port is one
pub port_of-is : (digits : Octets) (port : ℕ) → port_of digits ≡ Some port → IsPort digits port
port_of-is digits port e =
    let by = port_by (nat_le 1 (length digits) && all_ascii_digits digits && nat_le (digits_value 10 digits) 65535) (digits_value 10 digits) port e in
    let tests = and_parts (nat_le 1 (length digits) && all_ascii_digits digits) (nat_le (digits_value 10 digits) 65535) by.0 in
    let first = and_parts (nat_le 1 (length digits)) (all_ascii_digits digits) tests.0 in
    let nonempty : 1 ≤ length digits = leb-true 1 (length digits) first.0 in
    let small : digits_value 10 digits ≤ 65535 = leb-true (digits_value 10 digits) 65535 tests.1 in
    let not_zero = eqb-false (digits_value 10 digits) 0 by.1 in
    let same = by.2 in
    record {
      nonempty = omega arith;
      digits_only = first.1;
      value = same;
      least = omega arith;
      greatest = omega arith;
    }

read_by : (b z : Bool) (n : ℕ) → b ≡ true → z ≡ false → nat_eq n 0 ≡ z → elim (if b then Some n else None) as (λ _. Option ℕ) [ Some p ↦ (if p == 0 then None else Some p) | None ↦ None ] ≡ Some n
read_by b z n e f g = rw e (rw (g ∙ f) refl)

-- a port is read as one
pub port_of-Some : (digits : Octets) (port : ℕ) → IsPort digits port → port_of digits ≡ Some port
port_of-Some digits port is =
    let nonempty = is.nonempty in
    let value = is.value in
    let least = is.least in
    let greatest = is.greatest in
    let all = and_from (nat_le 1 (length digits) && all_ascii_digits digits) (nat_le (digits_value 10 digits) 65535)
    (and_from (nat_le 1 (length digits)) (all_ascii_digits digits) (le-leb 1 (length digits) (omega arith)) is.digits_only)
    (le-leb (digits_value 10 digits) 65535 (omega arith)) in
    read_by _ false (digits_value 10 digits) all refl (ne_eqb (digits_value 10 digits) 0 (λ none. absurd (omega arith))) ∙ ap (λ (p : ℕ). Some p) value
