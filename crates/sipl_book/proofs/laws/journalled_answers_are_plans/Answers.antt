use Rattle.sipl_book.proofs.Legal.{answers_are_plans}
use Rattle.sipl_book.proofs.laws.journalled_answers_are_plans.Goals as goal

pub returns : goal.returns
returns c = answers_are_plans
