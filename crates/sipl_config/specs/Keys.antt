-- The keys of the settings.
use Rattle.std.specs.Prelude.{ℕ, Bool, List, [], ◌∷◌, ◌++◌, codes, nat_eq}
use Rattle.std.specs.List.{list_any}
use lib.Pointwise.{pointwise}

-- those of `run`, `world` and `serve`, in the order of their octets
abbrev pub service_key_list : List (List ℕ)
service_key_list = codes "entries" ∷ codes "families" ∷ codes "held" ∷ codes "holds"
    ∷ codes "journal" ∷ codes "listen" ∷ codes "records" ∷ codes "sessions"
    ∷ codes "transports" ∷ codes "tries" ∷ codes "workers" ∷ []

-- those of the daemon, in the order of their octets
abbrev pub daemon_key_list : List (List ℕ)
daemon_key_list = codes "archive" ∷ codes "clients" ∷ codes "clock" ∷ codes "control"
    ∷ codes "entries" ∷ codes "families" ∷ codes "find" ∷ codes "held" ∷ codes "holds"
    ∷ codes "idle" ∷ codes "journal" ∷ codes "listen" ∷ codes "log" ∷ codes "metrics"
    ∷ codes "mode" ∷ codes "on_failure" ∷ codes "page_octets" ∷ codes "records"
    ∷ codes "state" ∷ codes "stdin" ∷ codes "transports" ∷ codes "tries" ∷ codes "workers"
    ∷ codes "zone_octets" ∷ []

-- whether a text is one of these
abbrev pub is_among : List (List ℕ) → List ℕ → Bool
is_among keys key = list_any (λ word. pointwise nat_eq key word) keys

-- what is between a key and those that follow it: a comma, `and` before the last
abbrev pub separator_before : List (List ℕ) → List ℕ
separator_before [] = []
separator_before (last ∷ []) = codes " and "
separator_before (next ∷ after ∷ rest) = codes ", "

-- keys in words: commas after all but the last two, which `and` separates
abbrev pub in_words : List (List ℕ) → List ℕ
in_words [] = []
in_words (key ∷ rest) = key ++ (separator_before rest ++ in_words rest)
