-- Walks over aliases and wildcards, which look up one set at a time.
use Rattle.std.specs.Prelude.{◌≡◌, ℕ, zero, suc, Bool, true, false, ◌⊎◌, IsSome, IsTrue, List, [], Some, None}
use Rattle.sipl_names.specs.Labels.{Labels}
use Rattle.sipl_records.specs.declared.data.Data.{Data}
use Rattle.sipl_records.specs.declared.kind.Kind.{Kind}
use Rattle.sipl_records.specs.declared.kind.Kind.TheVariants.{Exists}
use Rattle.sipl_evidence.specs.Items.{Item}
use Rattle.sipl_evidence.specs.Known.{known, first_unknown, known_result}
use Rattle.sipl_evidence.specs.Looks.{Asking, done, key, next_key}
use Rattle.sipl_evidence.specs.declared.walk_place.Stage.{Stage}
use Rattle.sipl_evidence.specs.declared.walk_place.Stage.TheVariants.{Set, Alias, Existence, Ancestor, WildcardSet, WildcardAlias}
use Rattle.sipl_evidence.specs.declared.walk.Reached.{Reached}
use Rattle.sipl_evidence.specs.declared.walk.Reached.TheVariants.{Answer, Wanting}
use Rattle.sipl_evidence.specs.declared.walk.Walk.TheInside.{Inside}
use Rattle.sipl_evidence.specs.Answers.{Next, answering, asking_within, at_alias, at_encloser, at_name, at_source, unless_exists, max_ancestors}

-- a walk at a name or a wildcard: the kind that it asks for, how many aliases may be followed, and
-- which set is asked for next
pub record WalkState : Type 0 where
  pub name : Labels
  pub kind : Kind
  pub left : ℕ
  pub stage : Stage

-- the walk at a name
abbrev pub walk_at : Labels → Kind → ℕ → Stage → WalkState
walk_at name kind left stage = record { name = name; kind = kind; left = left; stage = stage }

-- the walk that the fields represent
abbrev pub state_of : Inside → WalkState
state_of w = walk_at w.name w.kind w.left w.stage

-- what follows at the target of an alias, where so many may be followed
abbrev pub next_within : ℕ → ℕ → Kind → Next
next_within ancestors zero kind = None
next_within ancestors (suc left) kind = Some (λ target. asking_within ancestors left target kind)

-- what is left of an answer at a stage: the set asked for next is the name's, its alias, its
-- existence, that of its parent among so many ancestors, or the wildcard's, or the alias there
abbrev pub asking_at : ℕ → Stage → Next → Kind → Labels → Asking (List Data)
asking_at ancestors Set next kind name = answering ancestors next kind name
asking_at ancestors Alias next kind name =
    at_alias next name (unless_exists ancestors name (at_source next kind))
asking_at ancestors Existence next kind name = unless_exists ancestors name (at_source next kind)
asking_at ancestors (Ancestor more) next kind name = at_encloser more name (at_source next kind)
asking_at ancestors WildcardSet next kind name = at_name next kind name (done [])
asking_at ancestors WildcardAlias next kind name = at_alias next name (done [])

-- what is left of an answer of this kind, where so many aliases may be followed
abbrev pub asking_from : Stage → ℕ → Kind → Labels → Asking (List Data)
asking_from stage left kind name =
    asking_at max_ancestors stage (next_within max_ancestors left kind) kind name

-- what a walk still asks for
abbrev pub walk_asking : WalkState → Asking (List Data)
walk_asking walk = asking_from walk.stage walk.left walk.kind walk.name

-- a walk asks for a set
abbrev pub Asks : WalkState → Type 0
Asks walk = IsSome (next_key (walk_asking walk))

-- how far the sets that were read lead: to the answer, or to the first set that is missing
abbrev pub IsReached : List Item → Asking (List Data) → Reached → Type 0
IsReached items asking (Answer set) = known_result items asking ≡ Some set.now
IsReached items asking (Wanting k) = first_unknown items asking ≡ Some k

-- whether a stage is beyond the existence of a name
abbrev pub is_beyond : Stage → Bool
is_beyond (Ancestor more) = true
is_beyond WildcardSet = true
is_beyond WildcardAlias = true
is_beyond _ = false

-- some name is known not to exist
abbrev pub KnowsAbsence : List Item → Type 0
KnowsAbsence items = (name : Labels) × (known items (key name Exists) ≡ Some [])

-- the ancestors of a name are asked for from this stage on: a copy of the name is made
abbrev pub MayCopy : List Item → Stage → Type 0
MayCopy items stage = IsTrue (is_beyond stage) ⊎ KnowsAbsence items
