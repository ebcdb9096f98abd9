-- Digests in a text, and a text that ends with its own.
use Rattle.std.specs.Prelude.{◌≡◌, ℕ, List, [], ◌∷◌, ◌++◌, length, take, codes}
use Rattle.std.specs.Int.{w64, to_be_bytes}
use Rattle.hex.specs.Hex.{encode_lower}
use Rattle.sha2.specs.Sha256.{sha256}

-- octets of a file, or of a part of one
abbrev pub Octets : Type 0
Octets = List ℕ

-- a number in 8 octets, the highest first
unfoldable pub number_octets : ℕ → Octets
number_octets n = to_be_bytes w64 n

-- a number in 16 hexadecimal digits
unfoldable pub number_text : ℕ → Octets
number_text n = encode_lower (number_octets n)

-- a digest in 64 hexadecimal digits
unfoldable pub digest_text : Octets → Octets
digest_text digest = encode_lower digest

-- `sha256 DIGEST`
unfoldable pub seal_line : Octets → Octets
seal_line digest = codes "sha256 " ++ digest_text digest ++ 10 ∷ []

-- the line with the digest of a text
abbrev pub seal_of : Octets → Octets
seal_of text = seal_line (sha256 text)

-- a text, and its digest after it
abbrev pub sealed : Octets → Octets
sealed text = text ++ seal_of text

-- a text begins with another one
abbrev pub Begins : Octets → Octets → Type 0
Begins text start = take (length start) text ≡ start

-- a text begins with a line of this length and start, which has its own digest
pub record HasLine (start : Octets) (len : ℕ) (t : Octets) : Type 0 where
  pub text : Octets
  pub rest : Octets
  pub is : t ≡ sealed text ++ rest
  pub begins : Begins text start
  pub len_is : length text ≡ len

-- a text in two parts, the second as long as a line with a digest
pub record HasParts (text before line : Octets) : Type 0 where
  pub is : text ≡ before ++ line
  pub len : length line ≡ 72
