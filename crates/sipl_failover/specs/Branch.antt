-- The branch of an attempt (RFC 3261, 8.1.1.7).
use Rattle.std.specs.Prelude.{ℕ, List, ◌++◌, codes, decimal}
use Rattle.std.specs.Int.{to_be_bytes, w64}
use Rattle.hex.specs.Hex.{encode_lower}

-- the magic cookie, the base as 16 lower-case hexadecimal digits, a dot, the attempt in decimal
abbrev pub branch_of : ℕ → ℕ → List ℕ
branch_of base attempt =
    codes "z9hG4bK" ++ encode_lower (to_be_bytes w64 base) ++ codes "." ++ decimal attempt
