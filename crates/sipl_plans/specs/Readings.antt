-- Computations over record sets that are read one after another, each when it is first asked for.
use Rattle.std.specs.Prelude.{◌≡◌, Bool, if◌then◌else◌, ℕ, zero, suc, ◌-◌, List, [], ◌∷◌, ◌++◌, Option, None, Some, slice_get}
use Rattle.std.specs.List.{All}
use Rattle.sipl_names.specs.Labels.{Labels, wildcard_at}
use Rattle.sipl_records.specs.declared.data.Data.{Data}
use Rattle.sipl_records.specs.declared.kind.Kind.{Kind}
use Rattle.sipl_records.specs.declared.kind.Kind.TheVariants.{Exists}
use Rattle.sipl_records.specs.declared.record.Key.{Key}
use Rattle.sipl_evidence.specs.Answers.{asking_within, at_alias, max_ancestors, unless_exists}
use Rattle.sipl_evidence.specs.Items.{Item}
use Rattle.sipl_evidence.specs.Known.{known, Agrees}
use Rattle.sipl_evidence.specs.Looks.{Asking, done, ask, key}
use Rattle.sipl_evidence.specs.Walks.{next_within}
use Rattle.sipl_choice.specs.Abilities.{Client}
use Rattle.sipl_uri.specs.declared.question.Question.{Question}
use Rattle.sipl_plans.specs.Findings.{Found, IsSound}
use Rattle.sipl_plans.specs.Runs.{IsSet}

-- where sets are read: the number and the data of each key's set, and the state after one look
pub record Source (S : Type 0) : Type 0 where
  pub number_at : S → Key → ℕ
  pub set_at : S → Key → List Data
  pub after_look : S → S

module _ {S : Type 0} (source : Source S) where
  -- the number of a key's set
  abbrev pub number_at : S → Key → ℕ
  number_at sets k = source.number_at sets k

  -- the data of a key's set
  abbrev pub set_at : S → Key → List Data
  set_at sets k = source.set_at sets k

  -- the state after one look
  abbrev pub after_look : S → S
  after_look sets = source.after_look sets

  -- what can be read of each key is a set
  abbrev pub HasSets : S → Type 0
  HasSets sets = (k : Key) → IsSet k (source.number_at sets k) (source.set_at sets k)

  -- a look changes no number and no set
  pub record KeepsSets : Type 0 where
    pub numbers : (sets : S) (k : Key) → source.number_at (source.after_look sets) k ≡ source.number_at sets k
    pub sets : (sets : S) (k : Key) → source.set_at (source.after_look sets) k ≡ source.set_at sets k

-- what a computation results in: its value, the sets that are known then, and the state of their source
pub record Outcome (S A : Type 0) : Type 0 where
  pub value : A
  pub items : List Item
  pub sets : S

module _ {S : Type 0} (source : Source S) where
  -- the set of a key, as it is read
  abbrev pub item_at : S → Key → Item
  item_at sets k =
      record { key = k; number = source.number_at sets k; content = source.set_at sets k }

  -- the outcome of a computation where these sets are known: each other one that it asks for is read
  abbrev pub outcome : {A : Type 0} → Asking A → List Item → S → Outcome S A
  outcome (done value) items sets = record { value = value; items = items; sets = sets }
  outcome (ask k next) items sets = elim (known items k) [
    | Some set ↦ outcome (next set) items sets
    | None ↦ outcome (next (source.set_at sets k)) (items ++ item_at sets k ∷ []) (source.after_look sets)
  ]

  -- a computation has this value, and leaves these sets known and this state of their source
  abbrev pub Reads : {A : Type 0} → Asking A → List Item → S → A → List Item → S → Type 0
  Reads asking items sets value known_then sets_then =
      outcome asking items sets ≡ record { value = value; items = known_then; sets = sets_then }

  -- a first computation of two leads from where it begins to where the other goes on
  abbrev pub LeadsTo : Asking (List Data) → List Item → S → Asking (List Data) → List Item → S → Type 0
  LeadsTo first items sets later known_then sets_then =
      outcome first items sets ≡ outcome later known_then sets_then

  -- the state after so many looks
  abbrev pub after_looks : ℕ → S → S
  after_looks zero sets = sets
  after_looks (suc count) sets = source.after_look (after_looks count sets)

  -- a state after some looks
  abbrev pub IsLooked : S → S → Type 0
  IsLooked old new = (count : ℕ) × (new ≡ after_looks count old)

  -- where some looks led to the state before, some lead to the state after
  abbrev pub AddsLooks : S → S → Type 0
  AddsLooks old new = (start : S) → IsLooked start old → IsLooked start new

  -- what follows the target of a name's first alias, where so many may be followed, or else what follows
  -- without one
  abbrev pub IsTarget : ℕ → Labels → List Item → S → Option Labels → List Item → S → Type 0
  IsTarget left name items sets found known_then sets_then =
      (kind : Kind) (otherwise : Asking (List Data)) →
      LeadsTo (at_alias (next_within max_ancestors left kind) name otherwise) items sets
      (elim found [
        | Some target ↦ asking_within max_ancestors (left - 1) target kind
        | None ↦ otherwise
      ]) known_then sets_then

  -- what follows at the source of synthesis of a name, or nothing where there is none
  abbrev pub IsSynthesizedFrom : Labels → List Item → S → Option Labels → List Item → S → Type 0
  IsSynthesizedFrom name items sets found known_then sets_then =
      (next : Labels → Asking (List Data)) →
      LeadsTo (unless_exists max_ancestors name (λ encloser. next (wildcard_at encloser))) items sets
      (elim found [ Some wildcard ↦ next wildcard | None ↦ done [] ]) known_then sets_then

  -- whether a name exists: what follows where it does, and where it does not
  abbrev pub IsExistence : Labels → List Item → S → Bool → List Item → S → Type 0
  IsExistence name items sets found known_then sets_then =
      (present absent : Asking (List Data)) →
      LeadsTo (ask (key name Exists) (λ set. elim set [ datum ∷ others ↦ present | [] ↦ absent ])) items sets
      (if found then present else absent) known_then sets_then

-- a sound finding of a question for a client, whose sets are as their source has them
pub record IsReadFrom {S : Type 0} (source : Source S) (sets : S) (asked : Question) (asker : Client) (found : Found)
    : Type 0 where
  pub question : found.question ≡ asked
  pub client : found.client ≡ asker
  pub numbers : All (λ item. source.number_at sets item.key ≡ item.number) found.items
  pub agrees : Agrees (source.set_at sets) found.items
  pub sound : IsSound found

-- the data of the set in a place
abbrev pub content_in : List Item → ℕ → List Data
content_in items place = elim (slice_get items place) [ Some item ↦ item.content | None ↦ [] ]

-- the data of the set in a place, if there is one
abbrev pub contents_in : List Item → Option ℕ → List Data
contents_in items None = []
contents_in items (Some place) = content_in items place
