use Rattle.sipl_commits.proofs.Lines.{sealed_fits}
use Rattle.sipl_commits.proofs.state.split_seal.Goals as goal

pub returns-in_err-len-clause-short : goal.returns-in_err-len-clause-short
returns-in_err-len-clause-short c =
    rw c.from_residual.ensures (λ before e. c.in_err-len.ensures (sealed_fits c.args.text.now before e))
