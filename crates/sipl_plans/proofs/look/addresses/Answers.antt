use Rattle.std.proofs.Common.{rules, ◌≡◌, ◌++◌, ◌+◌, drop, ap, ◌∙◌}
use Rattle.std.proofs.Math.ListN.{get_or}
use Rattle.std.proofs.lemmas.List.{drop_more}
use Rattle.std.specs.List.{filter_map}
use Rattle.sipl_records.specs.Sets.{set_of}
use Rattle.sipl_records.specs.declared.kind.Kind.TheVariants.{Address4}
use Rattle.sipl_evidence.specs.Answers.{answer}
use Rattle.sipl_plans.specs.Route.{address_of_data, addresses}
use Rattle.sipl_plans.proofs.Equations.{addresses_next}
use Rattle.sipl_plans.proofs.look.addresses.Goals as goal

pub loop-kind-preserved : goal.loop-kind-preserved
loop-kind-preserved c =
    let look = set_of c.args.records.now in
    let kinds = c.kinds-kind-items.result.now in
    let i = c.loop-kind.kind-index in
    let kind = get_or kinds i Address4 in
    let found : c.push_addresses.new.found.items ≡ c.loop-kind.found.items ++ filter_map address_of_data (answer look c.args.name.now kind) = search rules in
    ap (λ xs. xs ++ addresses look (drop (i + 1) kinds) c.args.name.now) found
    ∙ addresses_next look (drop i kinds) (drop (i + 1) kinds) kind c.args.name.now c.loop-kind.found.items _ (drop_more kinds i Address4 c.loop-kind-test.true) c.loop-kind.invariant
