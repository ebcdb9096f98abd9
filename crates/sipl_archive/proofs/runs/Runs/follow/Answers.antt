use Rattle.std.proofs.lemmas.Result.{on_ok_weaker}
use Rattle.sipl_archive.proofs.runs.Runs.follow.Goals as goal

pub returns-in-Some-clause-last : goal.returns-in-Some-clause-last
returns-in-Some-clause-last c =
    on_ok_weaker c.expect.result
    (λ is_next. record { begins = c.in_ok-begin.ensures.last; run = c.in-Some.run'; last = c.in-Some.is; is_next = is_next })
    c.expect.ensures
