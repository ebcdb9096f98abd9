-- What a call under the lock takes, and what it returns.
use Rattle.std.specs.Prelude.{◌≡◌, ℕ}
use Rattle.sipl_outages.specs.Holds.{no_holds}
use Rattle.sipl_plans.specs.Findings.{Found}
use Rattle.sipl_plans.specs.Plan.{draw}
use Rattle.sipl_plans.specs.declared.answer.Answer.{Answer}
use Rattle.sipl_service.specs.Passes.{receipt_of}
use Rattle.sipl_service.specs.Telling.{IsAnswerTo, event_of}
use Rattle.sipl_service.specs.declared.answered.Answered.{Answered}
use Rattle.sipl_service.specs.declared.asked.Asked.{Asked}

-- what a call records in a book whose next event has this number: an answer to what is asked, and its
-- receipt
pub record Records (request : Asked) (next : ℕ) (answered : Answered) : Type 0 where
  pub asked : IsAnswerTo request answered.told
  pub number : answered.told.number ≡ next
  pub receipt : answered.receipt ≡ receipt_of next (event_of answered.told)

-- what is asked is a finding's question, for its client, and this is its answer where nothing is held
pub record IsDrawnFor (found : Found) (request : Asked) (answer : Answer) : Type 0 where
  pub question : request.question ≡ found.question
  pub client : request.abilities ≡ found.client
  pub drawn : answer ≡ draw found.layout no_holds request.draws request.held
