-- Requests of HTTP, as a client's first octets may begin.
use Rattle.std.specs.Prelude.{ℕ, Bool, List, [], ◌∷◌, codes, length, take, nat_eq}
use Rattle.std.specs.List.{list_any}
use lib.Pointwise.{pointwise}

-- the methods (RFC 9110, 9.3; RFC 5789, 2), and the first word of HTTP/2 (RFC 9113, 3.4), each with
-- the space after it
abbrev pub methods : List (List ℕ)
methods = codes "CONNECT " ∷ codes "DELETE " ∷ codes "GET " ∷ codes "HEAD " ∷ codes "OPTIONS "
    ∷ codes "PATCH " ∷ codes "POST " ∷ codes "PRI " ∷ codes "PUT " ∷ codes "TRACE " ∷ []

-- whether a text begins with a word
abbrev pub begins_with : List ℕ → List ℕ → Bool
begins_with text word = pointwise nat_eq (take (length word) text) word

-- whether a text begins as a request of HTTP does
abbrev pub begins_request : List ℕ → Bool
begins_request text = list_any (begins_with text) methods
