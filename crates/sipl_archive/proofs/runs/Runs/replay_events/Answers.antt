use Rattle.std.proofs.Common.{refl}
use Rattle.std.proofs.lemmas.Result.{on_ok_weaker}
use Rattle.sipl_archive.proofs.runs.Runs.replay_events.Goals as goal

pub returns-in-Some-clause-last : goal.returns-in-Some-clause-last
returns-in-Some-clause-last c =
    on_ok_weaker c.replay_events.result
    (λ goes_on. record { before = c.in-Some.run'; after = c.replay_events.new.self; old_is = c.in-Some.is; new_is = refl; goes_on = goes_on })
    c.replay_events.ensures
