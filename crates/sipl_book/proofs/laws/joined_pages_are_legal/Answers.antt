use Rattle.sipl_book.proofs.Joining.{joined_legal, joined_replayed}
use Rattle.sipl_book.proofs.laws.joined_pages_are_legal.Goals as goal

pub returns-clause-legal : goal.returns-clause-legal
returns-clause-legal c = joined_legal

pub returns-clause-replayed : goal.returns-clause-replayed
returns-clause-replayed c = joined_replayed
