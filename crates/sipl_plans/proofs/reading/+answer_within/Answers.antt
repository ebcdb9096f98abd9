use Rattle.std.proofs.Common.{rules, ◌≡◌, true, false, nat_eq, length}
use Rattle.std.proofs.lemmas.Result.{IfOk-weaker}
use Rattle.sipl_plans.specs.Readings.{content_in, contents_in}
use Rattle.sipl_plans.proofs.AnswersRead.{own-answer, alias-answer, no-answer, wildcard-answer, wildcard_alias-answer, wildcard_none-answer}
use Rattle.sipl_plans.proofs.reading.+answer_within.Goals as goal

pub returns-then-not-is_empty-clause-answer : goal.returns-then-not-is_empty-clause-answer
returns-then-not-is_empty-clause-answer g t c =
    own-answer g.S.Sets.source c.args.kind c.args.left c.args.name.now c.args.evidence.now c.fetch.new.evidence c.args.sets.now c.fetch.new.sets (content_in c.fetch.new.evidence c.in_ok-place.place)
    c.in_ok-place.ensures.read (search rules)

pub returns-in-Some-clause-answer : goal.returns-in-Some-clause-answer
returns-in-Some-clause-answer g t c =
    let source = g.S.Sets.source in
    let set = content_in c.fetch.new.evidence c.in_ok-place.place in
    let none : nat_eq (length set) 0 ≡ true = search rules in
    IfOk-weaker c.answer_within.result _ _
    (λ place is. alias-answer source c.args.kind c.args.left c.args.name.now c.args.evidence.now c.fetch.new.evidence c.args.sets.now c.fetch.new.sets set c.in_ok-place.ensures.read
    none c.target_within.new.evidence c.target_within.new.sets c.in_ok-target.field-0 c.in_ok-target.ensures.target c.in-Some.target c.in-Some.is
    (contents_in c.answer_within.new.evidence place) c.answer_within.new.evidence c.answer_within.new.sets is)
    c.answer_within.ensures.answer

pub returns-in_default-2-clause-answer : goal.returns-in_default-2-clause-answer
returns-in_default-2-clause-answer g t c =
    let set = content_in c.fetch.new.evidence c.in_ok-place.place in
    let none : nat_eq (length set) 0 ≡ true = search rules in
    no-answer g.S.Sets.source c.args.kind c.args.left c.args.name.now c.args.evidence.now c.fetch.new.evidence c.args.sets.now c.fetch.new.sets set c.in_ok-place.ensures.read
    none c.target_within.new.evidence c.target_within.new.sets c.in_ok-target.field-0 c.in_ok-target.ensures.target c.in_default.is
    c.source_of_synthesis.new.evidence c.source_of_synthesis.new.sets c.in_ok-wildcard.field-0 c.in_ok-wildcard.ensures.source c.in_default-2.is

pub returns-then-not-is_empty-2-clause-answer : goal.returns-then-not-is_empty-2-clause-answer
returns-then-not-is_empty-2-clause-answer g t c =
    let set = content_in c.fetch.new.evidence c.in_ok-place.place in
    let none : nat_eq (length set) 0 ≡ true = search rules in
    let more = content_in c.fetch-2.new.evidence c.in_ok-place-2.place in
    let some : nat_eq (length more) 0 ≡ false = search rules in
    wildcard-answer g.S.Sets.source c.args.kind c.args.left c.args.name.now c.args.evidence.now c.fetch.new.evidence c.args.sets.now c.fetch.new.sets set c.in_ok-place.ensures.read
    none c.target_within.new.evidence c.target_within.new.sets c.in_ok-target.field-0 c.in_ok-target.ensures.target c.in_default.is
    c.source_of_synthesis.new.evidence c.source_of_synthesis.new.sets c.in_ok-wildcard.field-0 c.in_ok-wildcard.ensures.source
    c.in-Some-2.wildcard c.in-Some-2.is c.fetch-2.new.evidence c.fetch-2.new.sets more c.in_ok-place-2.ensures.read some

pub returns-in-Some-3-clause-answer : goal.returns-in-Some-3-clause-answer
returns-in-Some-3-clause-answer g t c =
    let set = content_in c.fetch.new.evidence c.in_ok-place.place in
    let none : nat_eq (length set) 0 ≡ true = search rules in
    let more = content_in c.fetch-2.new.evidence c.in_ok-place-2.place in
    let empty : nat_eq (length more) 0 ≡ true = search rules in
    IfOk-weaker c.answer_within-in-Some-3.result _ _
    (λ place is. wildcard_alias-answer g.S.Sets.source c.args.kind c.args.left c.args.name.now c.args.evidence.now c.fetch.new.evidence c.args.sets.now c.fetch.new.sets set c.in_ok-place.ensures.read
    none c.target_within.new.evidence c.target_within.new.sets c.in_ok-target.field-0 c.in_ok-target.ensures.target c.in_default.is
    c.source_of_synthesis.new.evidence c.source_of_synthesis.new.sets c.in_ok-wildcard.field-0 c.in_ok-wildcard.ensures.source
    c.in-Some-2.wildcard c.in-Some-2.is c.fetch-2.new.evidence c.fetch-2.new.sets more c.in_ok-place-2.ensures.read
    empty c.target_within-2.new.evidence c.target_within-2.new.sets c.in_ok-target-2.field-0 c.in_ok-target-2.ensures.target c.in-Some-3.target c.in-Some-3.is
    (contents_in c.answer_within-in-Some-3.new.evidence place) c.answer_within-in-Some-3.new.evidence c.answer_within-in-Some-3.new.sets is)
    c.answer_within-in-Some-3.ensures.answer

pub returns-clause-answer : goal.returns-clause-answer
returns-clause-answer g t c =
    let set = content_in c.fetch.new.evidence c.in_ok-place.place in
    let none : nat_eq (length set) 0 ≡ true = search rules in
    let more = content_in c.fetch-2.new.evidence c.in_ok-place-2.place in
    let empty : nat_eq (length more) 0 ≡ true = search rules in
    wildcard_none-answer g.S.Sets.source c.args.kind c.args.left c.args.name.now c.args.evidence.now c.fetch.new.evidence c.args.sets.now c.fetch.new.sets set c.in_ok-place.ensures.read
    none c.target_within.new.evidence c.target_within.new.sets c.in_ok-target.field-0 c.in_ok-target.ensures.target c.in_default.is
    c.source_of_synthesis.new.evidence c.source_of_synthesis.new.sets c.in_ok-wildcard.field-0 c.in_ok-wildcard.ensures.source
    c.in-Some-2.wildcard c.in-Some-2.is c.fetch-2.new.evidence c.fetch-2.new.sets more c.in_ok-place-2.ensures.read
    empty c.target_within-2.new.evidence c.target_within-2.new.sets c.in_ok-target-2.field-0 c.in_ok-target-2.ensures.target c.in-None.is
