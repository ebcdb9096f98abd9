use Rattle.std.proofs.Common.{[], subst}
use Rattle.sipl_service.specs.Ledgers.{added_of, since_claim, until_claim}
use Rattle.sipl_service.proofs.Runs.{IsAudited, accepts, all_added, audited, none_waits}
use Rattle.sipl_service.proofs.laws.what_is_whole_is_claimed.Goals as goal

pub returns-clause-page : goal.returns-clause-page
returns-clause-page c = λ pages rest page receipts claim calls ledger run are same.
    accepts pages rest page receipts claim ledger (added_of calls) (until_claim [] [] calls) (since_claim [] calls)
    (subst (λ ps. IsAudited ledger ps (until_claim [] [] calls) (since_claim [] calls)) are (audited calls ledger run)) (all_added calls) same

pub returns-clause-end : goal.returns-clause-end
returns-clause-end c = λ pages receipts claim calls ledger run are same.
    none_waits pages receipts claim ledger (added_of calls) (until_claim [] [] calls) (since_claim [] calls)
    (subst (λ ps. IsAudited ledger ps (until_claim [] [] calls) (since_claim [] calls)) are (audited calls ledger run)) (all_added calls) same
