-- IP addresses in text.
use Rattle.std.specs.Prelude.{ℕ, ◌^◌, ◌<◌, Bool, false, List, Option, option_map, ◌==◌}
use Rattle.std.specs.Option.{option_or}
use Rattle.sipl_records.specs.declared.address.Address.{Address}
use Rattle.sipl_records.specs.declared.address.Address.TheVariants.{V4, V6}
use Rattle.sipl_records.specs.Ipv4.{number_of_text, text_of_number}
use Rattle.sipl_records.specs.Ipv6.{address6_of_text, text_of_address6}

-- the address of a text: IPv4, or else IPv6
abbrev pub address_of : List ℕ → Option Address
address_of text =
    option_or (option_map (λ n. V4 n) (number_of_text text))
    (option_map (λ n. V6 n) (address6_of_text text))

-- the text of an address
abbrev pub text_of_address : Address → List ℕ
text_of_address (V4 n) = text_of_number n
text_of_address (V6 n) = text_of_address6 n

-- an IPv4 address has 32 bits, and an IPv6 address 128
abbrev pub IsAddress : Address → Type 0
IsAddress (V4 n) = n < 2 ^ 32
IsAddress (V6 n) = n < 2 ^ 128

-- whether two addresses are one
abbrev pub same_address : Address → Address → Bool
same_address (V4 m) (V4 n) = m == n
same_address (V6 m) (V6 n) = m == n
same_address _ _ = false
