-- The answer to a name and a kind, over aliases (RFC 1034, 3.6.2) and by wildcards (RFC 4592).
use Rattle.std.specs.Prelude.{ℕ, zero, suc, List, [], ◌∷◌, Option, None, Some}
use Rattle.sipl_names.specs.Labels.{Labels, wildcard_at}
use Rattle.sipl_records.specs.declared.data.Data.{Data}
use Rattle.sipl_records.specs.declared.data.Data.TheVariants.{Alias as alias_data}
use Rattle.sipl_records.specs.declared.kind.Kind.{Kind}
use Rattle.sipl_records.specs.declared.kind.Kind.TheVariants.{Alias, Exists}
use Rattle.sipl_evidence.specs.Looks.{Look, key, Asking, done, ask, result_of}

-- the target of the first alias
abbrev pub first_target : List Data → Option Labels
first_target [] = None
first_target (alias_data target ∷ set) = Some target
first_target (_ ∷ set) = first_target set

-- what follows at the target of an alias, where one may be followed
abbrev pub Next : Type 0
Next = Option (Labels → Asking (List Data))

-- the set of a name and a kind, or where it is empty what follows
abbrev pub or_else : Labels → Kind → Asking (List Data) → Asking (List Data)
or_else name kind otherwise =
    ask (key name kind)
    (λ set. elim set [ datum ∷ others ↦ done (datum ∷ others) | [] ↦ otherwise ])

-- RFC 1034, 3.6.2: what follows at the target of a name's alias, where there is one and it may be
-- followed, or else this
abbrev pub at_alias : Next → Labels → Asking (List Data) → Asking (List Data)
at_alias None name otherwise = otherwise
at_alias (Some next) name otherwise =
    ask (key name Alias)
    (λ aliases. elim (first_target aliases) [ Some target ↦ next target | None ↦ otherwise ])

-- the set of a name and a kind, or where it is empty what follows at the name's alias, or else this
abbrev pub at_name : Next → Kind → Labels → Asking (List Data) → Asking (List Data)
at_name next kind name otherwise = or_else name kind (at_alias next name otherwise)

-- RFC 4592, 3.3.1: what follows at the closest encloser of a name that does not exist: its nearest
-- ancestor that exists, sought among so many; nothing where none of them does
abbrev pub at_encloser : ℕ → Labels → (Labels → Asking (List Data)) → Asking (List Data)
at_encloser zero name next = done []
at_encloser (suc more) [] next = done []
at_encloser (suc more) (label ∷ parent) next =
    ask (key parent Exists)
    (λ found. elim found [
      | datum ∷ others ↦ next parent
      | [] ↦ at_encloser more parent next
    ])

-- RFC 4592, 2.2.1: what follows at the closest encloser of a name; nothing where the name exists,
-- since then nothing is synthesized
abbrev pub unless_exists : ℕ → Labels → (Labels → Asking (List Data)) → Asking (List Data)
unless_exists ancestors name next =
    ask (key name Exists)
    (λ found. elim found [ datum ∷ others ↦ done [] | [] ↦ at_encloser ancestors name next ])

-- RFC 4592, 3.3.1: the set of the source of synthesis, which is the encloser's wildcard, or where it
-- is empty what follows at the wildcard's alias
abbrev pub at_source : Next → Kind → Labels → Asking (List Data)
at_source next kind encloser = at_name next kind (wildcard_at encloser) (done [])

-- RFC 4592, 2.2.1: the set of a name and a kind, or where it is empty what follows at the name's
-- alias; where it has none, and the name does not exist, as if the name were the wildcard
abbrev pub answering : ℕ → Next → Kind → Labels → Asking (List Data)
answering ancestors next kind name =
    at_name next kind name (unless_exists ancestors name (at_source next kind))

-- the answer to a name and a kind: at most so many ancestors of a name are asked for, and at most so
-- many aliases are followed
abbrev pub asking_within : ℕ → ℕ → Labels → Kind → Asking (List Data)
asking_within ancestors zero name kind = answering ancestors None kind name
asking_within ancestors (suc left) name kind =
    answering ancestors (Some (λ target. asking_within ancestors left target kind)) kind name

-- RFC 1035, 2.3.4: a name has at most 127 labels, and so as many ancestors
unfoldable pub max_ancestors : ℕ
max_ancestors = 127

-- at most 8 aliases are followed
unfoldable pub max_aliases : ℕ
max_aliases = 8

-- the answer to a name and a kind, as a computation
abbrev pub asking : Labels → Kind → Asking (List Data)
asking name kind = asking_within max_ancestors max_aliases name kind

-- RFC 1034, 3.6.2, and RFC 4592, 2.2.1: the answer
abbrev pub answer : Look → Labels → Kind → List Data
answer look name kind = result_of look (asking name kind)
