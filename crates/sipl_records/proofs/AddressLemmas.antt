-- A printed address reads back, and its text is short.
use Rattle.std.proofs.Common.{◌≡◌, ℕ, ◌/◌, ◌%◌, ◌^◌, ◌≤◌, false, List, [], ◌∷◌, ◌++◌, length, flat_map, Option, None, Some, refl, sym, ◌∙◌, arith}
use Rattle.std.proofs.lemmas.Bool.{false≢true, and_right}
use Rattle.std.specs.Net.Text.{hex, groups_text}
use Rattle.sipl_records.specs.declared.address.Address.{Address}
use Rattle.sipl_records.specs.declared.address.Address.TheVariants.{V4, V6}
use Rattle.sipl_records.specs.Addresses.{address_of, text_of_address, IsAddress}
use Rattle.sipl_records.specs.Ipv4.{number_of_text}
use Rattle.sipl_records.specs.Ipv6.{text_of_address6}
use Rattle.sipl_records.proofs.Dotted.{length-text_of_number}
use Rattle.sipl_records.proofs.RoundTrip.{number_of_text-text_of}
use Rattle.sipl_records.proofs.Ipv6Prints.{address6_of_text-text_of, length-text_of_address6}
use Rattle.sipl_records.proofs.Ipv6Reads.{lacks, ipv4_lacks_colon}

-- a text with a colon is no IPv4 text
has_colon : (before rest : List ℕ) → lacks 58 (before ++ 58 ∷ rest) ≡ false
has_colon [] rest = refl
has_colon (c ∷ before) rest = and_right _ _ (has_colon before rest)

no_ipv4 : (text : List ℕ) (o : Option ℕ) → lacks 58 text ≡ false → number_of_text text ≡ o → number_of_text text ≡ None
no_ipv4 text None colon none = none
no_ipv4 text (Some n) colon some = absurd (false≢true (sym colon ∙ ipv4_lacks_colon text n some))

groups_have_colon : (first second : ℕ) (groups : List ℕ) → lacks 58 (groups_text (first ∷ second ∷ groups)) ≡ false
groups_have_colon first second groups = has_colon (hex first) (hex second ++ flat_map (λ t. 58 ∷ hex t) groups)

printed_has_colon : (n : ℕ) → lacks 58 (text_of_address6 n) ≡ false
printed_has_colon n =
    groups_have_colon (n / 2 ^ 112) (n / 2 ^ 96 % 2 ^ 16) ((n / 2 ^ 80 % 2 ^ 16) ∷ (n / 2 ^ 64 % 2 ^ 16) ∷ (n / 2 ^ 48 % 2 ^ 16) ∷ (n / 2 ^ 32 % 2 ^ 16) ∷ (n / 2 ^ 16 % 2 ^ 16) ∷ (n % 2 ^ 16) ∷ [])

pub address_of-text : (address : Address) → IsAddress address → address_of (text_of_address address) ≡ Some address
address_of-text (V4 n) small = rw (number_of_text-text_of n small) refl
address_of-text (V6 n) small =
    let other : number_of_text (text_of_address6 n) ≡ None = no_ipv4 (text_of_address6 n) (number_of_text (text_of_address6 n)) (printed_has_colon n) refl in
    rw (other, address6_of_text-text_of n small) refl

pub length-text_of_address : (address : Address) → IsAddress address → length (text_of_address address) ≤ 39
length-text_of_address (V4 n) small = omega (arith, length-text_of_number n small)
length-text_of_address (V6 n) small = length-text_of_address6 n
