-- Findings: a route, and the record sets that decide it.
use Rattle.std.specs.Prelude.{◌≡◌, List, map, None}
use Rattle.std.specs.List.{All}
use Rattle.sipl_choice.specs.Abilities.{Client, abilities_fault}
use Rattle.sipl_evidence.specs.Items.{Item, HasDistinctKeys}
use Rattle.sipl_evidence.specs.Known.{Agrees}
use Rattle.sipl_evidence.specs.Looks.{Look}
use Rattle.sipl_uri.specs.declared.question.Question.{Question}
use Rattle.sipl_plans.specs.Route.{route, reads}
use Rattle.sipl_plans.specs.Runs.{RunState, IsSet}
use Rattle.sipl_plans.specs.declared.layout.Layout.{Layout}

-- what callers see of a finding: the question, the client, the route, and the sets that it rests on
pub record Found : Type 0 where
  pub question : Question
  pub client : Client
  pub layout : Layout
  pub items : List Item

-- the client is one that there can be, no key is there twice, the data are of their keys' kinds,
-- and wherever the records agree with the evidence, the route is the layout and looks at the keys
-- of the evidence, in their order
pub record IsSound (found : Found) : Type 0 where
  pub client : abilities_fault found.client.preference ≡ None
  pub distinct : HasDistinctKeys found.items
  pub sets : All (λ item. IsSet item.key item.number item.content) found.items
  pub route : (look : Look) → Agrees look found.items
      → route look found.question found.client ≡ found.layout
  pub reads : (look : Look) → Agrees look found.items
      → reads look found.question found.client ≡ map (λ item. item.key) found.items

-- what a run found: the layout for its question and client, on the sets that it read
pub record IsFound (run : RunState) (found : Found) : Type 0 where
  pub question : found.question ≡ run.question
  pub client : found.client ≡ run.client
  pub items : found.items ≡ run.items
  pub sound : IsSound found
