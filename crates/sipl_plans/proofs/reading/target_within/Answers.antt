use Rattle.std.proofs.Common.{rules, ◌≡◌, false, nat_eq, None, Some}
use Rattle.sipl_evidence.specs.Answers.{first_target}
use Rattle.sipl_plans.specs.Readings.{content_in}
use Rattle.sipl_plans.proofs.AnswersRead.{target-read}
use Rattle.sipl_plans.proofs.reading.target_within.Goals as goal

pub returns-in_ok-dup-in-Some-clause-target : goal.returns-in_ok-dup-in-Some-clause-target
returns-in_ok-dup-in-Some-clause-target g c = λ kind otherwise.
    let aliases = content_in c.fetch.new.evidence c.in_ok-place.place in
    let some : nat_eq c.args.left 0 ≡ false = search rules in
    let is : Some c.in_ok-dup-in-Some.field-0 ≡ first_target aliases = search rules in
    target-read g.S.Sets.source kind c.args.left c.args.name.now otherwise c.args.evidence.now c.fetch.new.evidence c.args.sets.now c.fetch.new.sets aliases (Some c.in_ok-dup-in-Some.field-0) some c.in_ok-place.ensures.read is

pub returns-in-None-clause-target : goal.returns-in-None-clause-target
returns-in-None-clause-target g c = λ kind otherwise.
    let aliases = content_in c.fetch.new.evidence c.in_ok-place.place in
    let some : nat_eq c.args.left 0 ≡ false = search rules in
    let is : None ≡ first_target aliases = search rules in
    target-read g.S.Sets.source kind c.args.left c.args.name.now otherwise c.args.evidence.now c.fetch.new.evidence c.args.sets.now c.fetch.new.sets aliases None some c.in_ok-place.ensures.read is
