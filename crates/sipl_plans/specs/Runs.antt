-- Runs: the route of a question, computed from record sets that are read one at a time.
use Rattle.std.specs.Prelude.{◌≡◌, ◌↔◌, ◌≤◌, ℕ, true, List, [], ◌∷◌, ◌++◌, length, Option, None, Some, option_map}
use Rattle.std.specs.List.{All, find}
use Rattle.sipl_records.specs.Sets.{has_kind}
use Rattle.sipl_records.specs.declared.data.Data.{Data}
use Rattle.sipl_records.specs.declared.record.Key.{Key}
use Rattle.sipl_choice.specs.Abilities.{Client, abilities_fault}
use Rattle.sipl_evidence.specs.Items.{Item}
use Rattle.sipl_evidence.specs.Known.{first_unknown, is_unknown, IsTrace}
use Rattle.sipl_uri.specs.declared.question.Question.{Question}
use Rattle.sipl_plans.specs.Route.{asking_route}

-- what callers see of a run: the question, the client, and the sets that were read, in order
pub record RunState : Type 0 where
  pub question : Question
  pub client : Client
  pub items : List Item

-- a set as it can be read: at most 32 data, all of the key's kind, and the number 0 exactly where
-- there are none
pub record IsSet (k : Key) (n : ℕ) (content : List Data) : Type 0 where
  pub kind : All (λ datum. has_kind k.kind datum ≡ true) content
  pub few : length content ≤ 32
  pub number : (n ≡ 0) ↔ (content ≡ [])

-- the key of the set that a run wants: the first that the route asks for and that was not read
abbrev pub wanted : RunState → Option Key
wanted run = first_unknown run.items (asking_route run.question run.client)

-- whether a run wants a set, and this is one for its key
abbrev pub IsWanted : Option Key → ℕ → List Data → Type 0
IsWanted None number content = ⊥
IsWanted (Some k) number content = IsSet k number content

-- the first of the keys that was not read
abbrev pub first_unread : List Item → List Key → Option Key
first_unread items keys = find (is_unknown items) keys

-- the sets of a run were read in the order in which the route asks for them, each once, and are sets
-- of their keys; the client is one that there can be
pub record IsRun (run : RunState) : Type 0 where
  pub trace : IsTrace (asking_route run.question run.client) run.items
  pub sets : All (λ item. IsSet item.key item.number item.content) run.items
  pub client : abilities_fault run.client.preference ≡ None

-- a run that took this set of the key that it wanted
pub record IsGiven (old new : RunState) (number : ℕ) (content : List Data) : Type 0 where
  pub question : new.question ≡ old.question
  pub client : new.client ≡ old.client
  pub items : option_map (λ k. old.items ++ record { key = k; number = number; content = content } ∷ [])
      (wanted old) ≡ Some new.items
