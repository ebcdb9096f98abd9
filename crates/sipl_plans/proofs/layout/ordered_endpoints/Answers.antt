use Rattle.std.proofs.Common.{◌≡◌, IfOk, length, map, slice_get, sym, subst, ◌∙◌}
use Rattle.std.specs.List.{filter_map, flat_map}
use Rattle.std.proofs.lemmas.List.{length-map}
use Rattle.sipl_records.specs.Unique.{unique}
use Rattle.sipl_choice.specs.Endpoints.{same_endpoint}
use Rattle.sipl_plans.specs.Plan.{endpoints_of, source_rank}
use Rattle.sipl_plans.proofs.FewTargets.{ordered-one}
use Rattle.sipl_plans.proofs.layout.ordered_endpoints.Goals as goal

pub returns-then-servers-eq1 : goal.returns-then-servers-eq1
returns-then-servers-eq1 c =
    let servers = c.args.servers.now in
    let one : length (map source_rank servers) ≡ 1 = length-map servers source_rank ∙ c.if-servers-eq1.true in
    subst (λ places. IfOk c.unique_endpoints.result (λ targets. targets.items ≡ unique same_endpoint (flat_map (endpoints_of c.args.transport) (filter_map (slice_get servers) places))))
    (sym (ordered-one (map source_rank servers) c.args.draws.now one))
    c.unique_endpoints.ensures

pub returns-then-servers-eq2 : goal.returns-then-servers-eq2
returns-then-servers-eq2 c =
    let servers = c.args.servers.now in
    subst (λ places. IfOk c.unique_endpoints-then-servers-eq2.result (λ targets. targets.items ≡ unique same_endpoint (flat_map (endpoints_of c.args.transport) (filter_map (slice_get servers) places))))
    (sym c.first_of_two-first.ensures.order)
    c.unique_endpoints-then-servers-eq2.ensures
