-- Look-ups of record sets (RFC 2181, 5), and computations that make them one after another.
use Rattle.std.specs.Prelude.{List, [], ◌∷◌, Option, None, Some}
use Rattle.sipl_names.specs.Labels.{Labels}
use Rattle.sipl_records.specs.declared.data.Data.{Data}
use Rattle.sipl_records.specs.declared.kind.Kind.{Kind}
use Rattle.sipl_records.specs.declared.record.Key.{Key}

-- what is known of the records: the data of each key
abbrev pub Look : Type 0
Look = Key → List Data

-- the key of a name and a kind
abbrev pub key : Labels → Kind → Key
key name kind = record { name = name; kind = kind }

-- a computation that asks for record sets: it is done, or asks for a set and goes on with it
pub data Asking (A : Type 0) : Type 0 where
  done : A → Asking A
  ask : Key → (List Data → Asking A) → Asking A

-- what comes out where this is known of the records
abbrev pub result_of : {A : Type 0} → Look → Asking A → A
result_of look (done value) = value
result_of look (ask k next) = result_of look (next (look k))

-- the keys that are asked for, in order
abbrev pub asked : {A : Type 0} → Look → Asking A → List Key
asked look (done value) = []
asked look (ask k next) = k ∷ asked look (next (look k))

-- the key that is asked for next, if there is one
abbrev pub next_key : {A : Type 0} → Asking A → Option Key
next_key (done value) = None
next_key (ask k next) = Some k

-- one computation after another
abbrev pub and_then : {A B : Type 0} → Asking A → (A → Asking B) → Asking B
and_then (done value) next = next value
and_then (ask k more) next = ask k (λ set. and_then (more set) next)
