use Rattle.sipl_outages.proofs.Runs.{end_of-hold_other, end_of-release_other, not_same}
use Rattle.sipl_outages.proofs.laws.other_endpoints_keep_their_ends.Goals as goal

pub returns-clause-hold : goal.returns-clause-hold
returns-clause-hold c = λ endpoint other ms holds apart. end_of-hold_other endpoint other (not_same endpoint other apart) ms holds

pub returns-clause-release : goal.returns-clause-release
returns-clause-release c = λ endpoint other holds apart. end_of-release_other endpoint other (not_same endpoint other apart) holds
