use Rattle.std.proofs.Common.{rules, ◌≡◌, not, nat_eq, [], ◌∷◌, length, ap, ◌∙◌, List}
use Rattle.sipl_records.specs.declared.data.Data.{Data}
use Rattle.sipl_evidence.specs.Looks.{Asking}
use Rattle.sipl_plans.specs.Readings.{content_in, outcome}
use Rattle.sipl_plans.proofs.AnswersRead.{by_data}
use Rattle.sipl_plans.proofs.reading.exists.Goals as goal

pub returns-clause-existence : goal.returns-clause-existence
returns-clause-existence g c = λ present absent.
    let set = content_in c.fetch.new.evidence c.in_ok-place.place in
    let none : c.is_empty.result ≡ nat_eq (length set) 0 = search rules in
    c.in_ok-place.ensures.read (λ set. elim set as (λ _. Asking (List Data)) [ datum ∷ others ↦ present | [] ↦ absent ])
    ∙ ap (λ a. outcome g.S.Sets.source a c.fetch.new.evidence c.fetch.new.sets) (by_data present absent set (not c.is_empty.result) (ap not none))
