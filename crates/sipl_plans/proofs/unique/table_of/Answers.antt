use Rattle.std.proofs.Common.{◌∙◌, ap, get_or}
use Rattle.indexmap.specs.IndexSet.{insert_key}
use Rattle.sipl_records.specs.declared.address.Address.TheVariants.{V4}
use Rattle.sipl_choice.specs.declared.endpoint.Endpoint.{Endpoint}
use Rattle.sipl_choice.specs.declared.transport.Transport.TheVariants.{Udp}
use Rattle.sipl_plans.proofs.EachOnce.{derived_eq, table-next}
use Rattle.sipl_plans.proofs.unique.table_of.Goals as goal

-- what stands for an endpoint past the last one
abbrev none : Endpoint
none = record { transport = Udp; address = V4 0; port = 0 }

pub loop-endpoint-preserved : goal.loop-endpoint-preserved
loop-endpoint-preserved c =
    let all = c.args.endpoints.now in
    let place = c.loop-endpoint.endpoint-index in
    let table = c.loop-endpoint.table.keys in
    table-next all place none table c.insert.new.self.keys c.loop-endpoint-test.true c.loop-endpoint.invariant
    (c.in_ok-insert.ensures.keys ∙ ap (λ same. insert_key same table (get_or all place none)) derived_eq)
