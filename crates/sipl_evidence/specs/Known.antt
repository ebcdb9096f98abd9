-- What evidence knows of the records, and how far a computation gets with it.
use Rattle.std.specs.Prelude.{◌≡◌, Bool, not, List, [], ◌∷◌, ◌++◌, Option, None, Some, if◌then◌else◌}
use Rattle.std.specs.Option.{is_some}
use Rattle.std.specs.List.{All}
use Rattle.sipl_records.specs.declared.data.Data.{Data}
use Rattle.sipl_records.specs.declared.record.Key.{Key}
use Rattle.sipl_evidence.specs.Looks.{Look, Asking, done, ask}
use Rattle.sipl_records.specs.Sets.{same_key}
use Rattle.sipl_evidence.specs.Items.{Item}

-- the content of the item of a key, if there is one
abbrev pub known : List Item → Key → Option (List Data)
known [] k = None
known (item ∷ items) k = if same_key item.key k then Some item.content else known items k

-- whether the items have no set of a key
abbrev pub is_unknown : List Item → Key → Bool
is_unknown items k = not (is_some (known items k))

-- the records have what the evidence has: the set of each item's key is its content
abbrev pub Agrees : Look → List Item → Type 0
Agrees look items = All (λ item. look item.key ≡ item.content) items

-- the first key that is asked for and not known, if there is one
abbrev pub first_unknown : {A : Type 0} → List Item → Asking A → Option Key
first_unknown items (done value) = None
first_unknown items (ask k next) =
    elim (known items k) [ Some set ↦ first_unknown items (next set) | None ↦ Some k ]

-- what is left of a computation after the sets that are known
abbrev pub advance : {A : Type 0} → List Item → Asking A → Asking A
advance items (done value) = done value
advance items (ask k next) =
    elim (known items k) [ Some set ↦ advance items (next set) | None ↦ ask k next ]

-- what comes out, if all sets that are asked for are known
abbrev pub known_result : {A : Type 0} → List Item → Asking A → Option A
known_result items (done value) = Some value
known_result items (ask k next) =
    elim (known items k) [ Some set ↦ known_result items (next set) | None ↦ None ]

-- each of the later items was, when it came, the first that was asked for and not known, where the
-- earlier ones were there before them
abbrev pub IsTraceAfter : {A : Type 0} → Asking A → List Item → List Item → Type 0
IsTraceAfter asking earlier [] = Unit {0}
IsTraceAfter asking earlier (item ∷ later) =
    (first_unknown earlier asking ≡ Some item.key)
    × IsTraceAfter asking (earlier ++ item ∷ []) later

-- each item was, when it came, the first that was asked for and not known
abbrev pub IsTrace : {A : Type 0} → Asking A → List Item → Type 0
IsTrace asking items = IsTraceAfter asking [] items
