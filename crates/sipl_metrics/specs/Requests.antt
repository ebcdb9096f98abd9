-- What a request of HTTP asks for.
use Rattle.std.specs.Prelude.{◌≡◌, ◌==◌, ◌&&◌, ℕ, Bool, true, List, [], ◌∷◌, Option, Some, codes, length, take, drop, nat_eq, if◌then◌else◌}
use lib.Pointwise.{pointwise}
use Rattle.httparse.specs.Grammar.{ReadsRequest, RequestHead}
use Rattle.sipl_metrics.specs.declared.request.Asked.{Asked}
use Rattle.sipl_metrics.specs.declared.request.Asked.TheVariants.{Metrics, Health, Missing, WrongMethod}

-- nothing, or a query, which begins with a question mark (RFC 3986, 3.4)
abbrev pub is_query : List ℕ → Bool
is_query [] = true
is_query (octet ∷ rest) = octet == 63

-- whether a target is a path, with or without a query after it
abbrev pub is_path : List ℕ → List ℕ → Bool
is_path path target =
    pointwise nat_eq (take (length path) target) path && is_query (drop (length path) target)

-- a resource of which GET alone is a method
abbrev pub by_method : List ℕ → Asked → Asked
by_method method asked = if pointwise nat_eq method (codes "GET") then asked else WrongMethod

-- what a method and a target ask for
abbrev pub asked_of : List ℕ → List ℕ → Asked
asked_of method target =
    if is_path (codes "/metrics") target then by_method method Metrics
    else (if is_path (codes "/healthz") target then by_method method Health else Missing)

-- the octets begin with the head of a request, which asks for that
abbrev pub IsAskedBy : List ℕ → Option Asked → Type 0
IsAskedBy octets asked = (head : RequestHead) × (rest : List ℕ) × ReadsRequest octets head rest
    × (asked ≡ Some (asked_of head.method head.target))
