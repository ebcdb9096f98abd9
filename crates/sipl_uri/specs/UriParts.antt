-- The parts of a URI (RFC 3261, 19.1.1), which its delimiters separate.
use Rattle.std.specs.Prelude.{List, [], ◌∷◌, ◌++◌, Option, None, Some, if◌then◌else◌, ◌==◌}
use Rattle.sipl_names.specs.Labels.{Octets}
use Rattle.sipl_records.specs.Parts.{parts, split_once}

-- the host, the port after its colon, and the parameters, each after its semicolon
pub record Parts : Type 0 where
  pub host : Octets
  pub port : Option Octets
  pub params : List Octets

-- the text after the `@` of the user information (64 is `@`), all of it where there is none
abbrev pub after_userinfo : Octets → Octets
after_userinfo text = elim (split_once 64 text).1 [ Some after ↦ after | None ↦ text ]

-- the text before the `?` of the headers (63 is `?`)
abbrev pub before_headers : Octets → Octets
before_headers text = (split_once 63 text).0

-- the text of the parameters (59 is `;`)
abbrev pub params_in : Option Octets → List Octets
params_in None = []
params_in (Some params) = parts 59 params

-- brackets and what is within them, before a host and its port
abbrev pub after_brackets : Octets → Octets × Option Octets → Octets × Option Octets
after_brackets inside hostport = (91 ∷ inside ++ 93 ∷ hostport.0, hostport.1)

-- The host ends at the first colon (58 is `:`), and the port is after it. Colons within brackets are
-- of the host (91 is `[`, 93 is `]`).
abbrev pub split_port : Octets → Octets × Option Octets
split_port [] = ([], None)
split_port (c ∷ text) =
    if c == 91
    then elim (split_once 93 text).1 [
      | Some after ↦ after_brackets (split_once 93 text).0 (split_once 58 after)
      | None ↦ (c ∷ text, None)
    ] else split_once 58 (c ∷ text)

-- the parts of host, port and parameters
abbrev pub parts_of_hostport : Octets × Option Octets → Parts
parts_of_hostport (hostport, params) =
    record {
      host = (split_port hostport).0;
      port = (split_port hostport).1;
      params = params_in params;
    }

-- the parts of the text after the scheme's colon
abbrev pub parts_of : Octets → Parts
parts_of text = parts_of_hostport (split_once 59 (before_headers (after_userinfo text)))
