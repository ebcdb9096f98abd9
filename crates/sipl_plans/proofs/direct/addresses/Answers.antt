use Rattle.std.proofs.Common.{◌≡◌, ◌+◌, ◌++◌, drop, get_or, ap, ◌∙◌}
use Rattle.std.specs.List.{filter_map}
use Rattle.std.proofs.lemmas.List.{drop_more}
use Rattle.sipl_records.specs.declared.kind.Kind.TheVariants.{Address4}
use Rattle.sipl_plans.specs.Readings.{contents_in, outcome}
use Rattle.sipl_plans.specs.Route.{address_of_data, asking_addresses}
use Rattle.sipl_plans.proofs.RoutesRead.{addresses_next-read, after_found}
use Rattle.sipl_plans.proofs.direct.addresses.Goals as goal

pub loop-kind-preserved : goal.loop-kind-preserved
loop-kind-preserved g c =
    let source = g.S.Sets.source in
    let kinds = c.kinds-kind-items.result.now in
    let i = c.loop-kind.kind-index in
    let kind = get_or kinds i Address4 in
    let set = contents_in c.answer.new.evidence c.in_ok-place.place in
    let found : c.push_addresses.new.found.items ≡ c.loop-kind.found.items ++ filter_map address_of_data set =
    c.in_ok-push_addresses.ensures ∙ ap (λ set. c.loop-kind.found.items ++ filter_map address_of_data set) c.contents.ensures in
    record {
      leads = ap (λ xs. after_found xs (outcome source (asking_addresses (drop (i + 1) kinds) c.args.name.now) c.answer.new.evidence c.answer.new.sets)) found
          ∙ addresses_next-read source (drop i kinds) (drop (i + 1) kinds) kind c.args.name.now c.loop-kind.found.items c.loop-kind.evidence c.answer.new.evidence c.loop-kind.sets c.answer.new.sets set _
          (drop_more kinds i Address4 c.loop-kind-test.true) c.in_ok-place.ensures.answer c.loop-kind.invariant.leads;
      looked = λ start looked. c.answer.ensures.looked start (c.loop-kind.invariant.looked start looked);
    }
