-- Where to listen: the parts of the text, and the addresses in 127.0.0.0/8.
use Rattle.std.proofs.Common.{◌≡◌, ℕ, ◌^◌, ◌<◌, ◌/◌, ◌%◌, ◌==◌, ◌&&◌, nat_le, Bool, true, false, List, [], ◌∷◌, None, Some, take, get_or, refl, sym, ap, ◌∙◌, arith, eq-eqb, ne_eqb, le-leb}
use Rattle.std.specs.Int.{w32, to_be_bytes}
use Rattle.sipl_names.specs.Labels.{Octets}
use Rattle.sipl_records.specs.Ipv4.{number_of_text}
use Rattle.sipl_records.specs.Numbers.{number_of}
use Rattle.sipl_records.specs.Parts.{split_once}
use Rattle.sipl_lines.specs.Values.{listen_at, loopback_at, socket}

-- the first octet of an address
first_octet : (n : ℕ) → n < 2 ^ 32 → n / 16777216 % 256 ≡ n / 16777216
first_octet n small = omega arith

module _ (text host digits : Octets) (n p : ℕ) (octets : List ℕ)
    (before : host ≡ (split_once 58 text).0) (after : Some digits ≡ (split_once 58 text).1)
    (address : number_of_text host ≡ Some n) (port : Some p ≡ number_of digits 65535)
    (small : n < 2 ^ 32) (is : octets ≡ to_be_bytes w32 n) where
  parts : listen_at text ≡ loopback_at (Some n) (Some p)
  parts = rw (← before, ← after, address, ← port) refl

  -- an address in 127.0.0.0/8, and a port
  pub listen_at-Some : take 1 octets ≡ 127 ∷ [] → (p ≡ 0 → ⊥) → listen_at text ≡ Some (socket octets p)
  listen_at-Some first nonzero =
      let same : n / 16777216 % 256 ≡ 127 = ap (λ (xs : List ℕ). get_or xs 0 0) (ap (take 1) (sym is) ∙ first) in
      let loopback : (n / 16777216 == 127) ≡ true = eq-eqb (n / 16777216) 127 (omega (arith, first_octet n small)) in
      let some : nat_le 1 p ≡ true = le-leb 1 p (omega (arith, nonzero)) in
      parts ∙ rw (loopback, some, is) refl

  -- another address
  pub listen_at-elsewhere : (take 1 octets ≡ 127 ∷ [] → ⊥) → listen_at text ≡ None
  listen_at-elsewhere other =
      let elsewhere : (n / 16777216 == 127) ≡ false = ne_eqb (n / 16777216) 127 (λ same. other (ap (take 1) is ∙ ap (λ k. k ∷ []) (first_octet n small ∙ same))) in
      parts ∙ rw elsewhere refl

  and-false : (b : Bool) → (b && false) ≡ false
  and-false true = refl
  and-false false = refl

  -- port 0
  pub listen_at-zero : p ≡ 0 → listen_at text ≡ None
  listen_at-zero zero = parts ∙ rw (zero, and-false (n / 16777216 == 127)) refl
