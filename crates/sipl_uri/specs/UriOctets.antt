-- The octets of URIs (RFC 3261, 25.1).
use Rattle.std.specs.Prelude.{ℕ, Bool, not, ◌&&◌, codes}
use Rattle.std.specs.Char.{is_ascii_graphic}
use Rattle.sipl_names.specs.Hostnames.{is_one_of}

-- an octet of a URI is a printable character of ASCII other than `"`, `<` and `>`
abbrev pub is_uri_octet : ℕ → Bool
is_uri_octet c = is_ascii_graphic c && not (is_one_of (codes "\"<>") c)

-- an octet of user information, and of headers: any but `@`
abbrev pub is_free_octet : ℕ → Bool
is_free_octet c = is_uri_octet c && not (is_one_of (codes "@") c)

-- an octet of a parameter: any but `@`, and the `;` and `?` that end it
abbrev pub is_param_octet : ℕ → Bool
is_param_octet c = is_uri_octet c && not (is_one_of (codes "@;?") c)
