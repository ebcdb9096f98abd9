-- What a caller receives.
use Rattle.std.specs.Prelude.{◌≡◌, ℕ, List, map}
use Rattle.std.specs.List.{All}
use Rattle.sipl_choice.specs.Abilities.{Client}
use Rattle.sipl_uri.specs.declared.question.Question.{Question}
use Rattle.sipl_evidence.specs.Items.{Item, HasDistinctKeys}
use Rattle.sipl_evidence.specs.Known.{Agrees}
use Rattle.sipl_evidence.specs.Looks.{Look}
use Rattle.sipl_outages.specs.Board.{BoardState}
use Rattle.sipl_outages.specs.declared.held.Held.{Held}
use Rattle.sipl_plans.specs.Plan.{plan}
use Rattle.sipl_plans.specs.Route.{reads}
use Rattle.sipl_plans.specs.Runs.{IsSet}
use Rattle.sipl_plans.specs.declared.answer.Answer.{Answer as Targets}
use Rattle.sipl_book.specs.declared.event.Event.{Event}
use Rattle.sipl_book.specs.declared.event.Event.TheVariants.{Answer}
use Rattle.sipl_service.specs.declared.asked.Asked.{Asked}

-- an answer with the number of its event: to which question, for which client, policy on held
-- endpoints and random words, and the record sets and the holds that decide it
pub record ToldState : Type 0 where
  pub number : ℕ
  pub question : Question
  pub client : Client
  pub held : Held
  pub words : List ℕ
  pub answer : Targets
  pub items : List Item
  pub board : BoardState

-- The record sets and the holds decide the answer: no key is there twice, the data are of their
-- keys' kinds, and wherever the records agree with these sets, the answer to the question is this
-- one, with these holds (RFC 3263, 4)
pub record IsDecided (told : ToldState) : Type 0 where
  pub distinct : HasDistinctKeys told.items
  pub sets : All (λ item. IsSet item.key item.number item.content) told.items
  pub answer : (look : Look) → Agrees look told.items
      → plan look told.board.holds told.question told.client told.words told.held ≡ told.answer

-- an answer to what is asked
abbrev pub told_to : Asked → ℕ → Targets → List Item → BoardState → ToldState
told_to asked number answer items board =
    record {
      number = number;
      question = asked.question;
      client = asked.abilities;
      held = asked.held;
      words = asked.draws;
      answer = answer;
      items = items;
      board = board;
    }

-- the event of an answer
abbrev pub event_of : ToldState → Event
event_of told = Answer told.question told.words told.answer

-- an answer to this question, for this client, this policy and these random words
pub record IsToldFor (asked : Question) (asker : Client) (policy : Held) (draws : List ℕ)
    (told : ToldState) : Type 0 where
  pub question : told.question ≡ asked
  pub client : told.client ≡ asker
  pub held : told.held ≡ policy
  pub words : told.words ≡ draws

-- an answer to what is asked, for the client, the policy and the random words
abbrev pub IsAnswerTo : Asked → ToldState → Type 0
IsAnswerTo asked told = IsToldFor asked.question asked.abilities asked.held asked.draws told

-- the record sets that the targets of a question depend on: no key is there twice, the data are of
-- their keys' kinds, and wherever the records agree with these sets, they are those that the route
-- looks at, in their order
pub record AreToldDependencies (question : Question) (client : Client) (items : List Item) : Type 0 where
  pub distinct : HasDistinctKeys items
  pub sets : All (λ item. IsSet item.key item.number item.content) items
  pub reads : (look : Look) → Agrees look items
      → reads look question client ≡ map (λ item. item.key) items
