use Rattle.std.proofs.Common.{rules, ◌≡◌, IfOk, sym, ap, subst, ◌∙◌}
use Rattle.std.specs.Option.{option_copied}
use Rattle.sipl_records.specs.Sets.{set_of}
use Rattle.sipl_records.specs.declared.kind.Kind.TheVariants.{Service}
use Rattle.sipl_srv.specs.Offers.{offer_of}
use Rattle.sipl_evidence.specs.Answers.{answer}
use Rattle.sipl_plans.specs.Route.{offer_at}
use Rattle.sipl_plans.proofs.Equations.{offer_at_some}
use Rattle.sipl_plans.proofs.look.offer_at.Goals as goal

pub returns : goal.returns
returns c =
    let look = set_of c.args.records.now in
    let found : c.deref.result.now ≡ answer look c.in-Some.name.now Service = search rules in
    subst (λ o. IfOk c.offer.result (λ offer. offer ≡ o))
    (ap offer_of found ∙ sym (offer_at_some look c.in-Some.name.now) ∙ ap (λ name. offer_at look (option_copied name)) (sym c.in-Some.is))
    c.offer.ensures.offer
