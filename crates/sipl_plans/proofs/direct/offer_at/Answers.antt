use Rattle.std.proofs.Common.{◌≡◌, IfOk, ap, subst, ◌∙◌}
use Rattle.std.specs.Option.{option_copied}
use Rattle.sipl_srv.specs.Offers.{offer_of}
use Rattle.sipl_plans.specs.Readings.{contents_in, outcome}
use Rattle.sipl_plans.specs.Route.{asking_offer}
use Rattle.sipl_plans.proofs.Outcomes.{reads_as}
use Rattle.sipl_plans.proofs.RoutesRead.{offer-read}
use Rattle.sipl_plans.proofs.direct.offer_at.Goals as goal

pub returns-clause-offer : goal.returns-clause-offer
returns-clause-offer g c =
    let source = g.S.Sets.source in
    let set = contents_in c.answer.new.evidence c.in_ok-place.place in
    reads_as c.offer.result (λ offer. offer) _ (offer_of set) c.answer.new.evidence c.answer.new.sets
    (ap (λ name. outcome source (asking_offer (option_copied name)) c.args.evidence.now c.args.sets.now) c.in-Some.is
    ∙ offer-read source c.in-Some.name.now c.args.evidence.now c.answer.new.evidence c.args.sets.now c.answer.new.sets set c.in_ok-place.ensures.answer)
    (subst (λ s. IfOk c.offer.result (λ offer. offer ≡ offer_of s)) c.contents.ensures c.offer.ensures.offer)
