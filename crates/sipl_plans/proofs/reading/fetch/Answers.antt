use Rattle.std.proofs.Common.{ap, sym, ◌∙◌}
use Rattle.sipl_evidence.specs.Items.{Item}
use Rattle.sipl_evidence.specs.Looks.{key}
use Rattle.sipl_plans.specs.Readings.{number_at, set_at}
use Rattle.sipl_plans.proofs.Fetching.{fetched-known, fetched-unread}
use Rattle.sipl_plans.proofs.Outcomes.{looked_more}
use Rattle.sipl_plans.proofs.reading.fetch.Goals as goal

pub returns-in-Some-clause-read : goal.returns-in-Some-clause-read
returns-in-Some-clause-read g c =
    fetched-known g.S.Sets.source c.args.evidence.now c.args.sets.now (key c.args.name.now c.args.kind) c.in-Some.place (sym c.place.ensures.place ∙ c.in-Some.is)

pub returns-in_err-number-clause-looked : goal.returns-in_err-number-clause-looked
returns-in_err-number-clause-looked g c = λ start looked. looked_more g.S.Sets.source start c.args.sets.now c.read.new.self c.read.ensures.looked looked

pub returns-in_err-push_unread-clause-looked : goal.returns-in_err-push_unread-clause-looked
returns-in_err-push_unread-clause-looked g c = λ start looked. looked_more g.S.Sets.source start c.args.sets.now c.read.new.self c.read.ensures.looked looked

pub returns-clause-looked : goal.returns-clause-looked
returns-clause-looked g c = λ start looked. looked_more g.S.Sets.source start c.args.sets.now c.read.new.self c.read.ensures.looked looked

pub returns-clause-read : goal.returns-clause-read
returns-clause-read g c =
    let source = g.S.Sets.source in
    let sets = c.args.sets.now in
    let own = ap (λ name. key name c.args.kind) c.in_ok-dup.ensures.value in
    fetched-unread source c.args.evidence.now sets (key c.args.name.now c.args.kind) (sym c.in_default.ensures.place) c.new.result
    (ap (λ (i : Item). i.key) c.new.ensures ∙ own)
    (ap (λ (i : Item). i.number) c.new.ensures ∙ c.in_ok-number.ensures.number ∙ ap (number_at source sets) own)
    (ap (λ (i : Item). i.content) c.new.ensures ∙ c.in_ok-number.ensures.value ∙ ap (set_at source sets) own)
    c.push_unread.new.self c.in_ok-push_unread.ensures.ok c.len-place.result c.len-place.ensures.len c.read.new.self c.read.ensures.looked
