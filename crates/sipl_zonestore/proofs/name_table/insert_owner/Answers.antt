use Rattle.std.proofs.Common.{ap, arith}
use Rattle.std.specs.List.{count_by}
use Rattle.sipl_names.specs.Labels.{same_name}
use Rattle.sipl_zonestore.specs.Changes.{with_ancestors}
use Rattle.sipl_zonestore.proofs.CountedNames.{own-count}
use Rattle.sipl_zonestore.proofs.name_table.insert_owner.Goals as goal

pub insert_name-requires : goal.insert_name-requires
insert_name-requires c =
    let owner = ap (λ name. count_by (λ other. same_name other c.loop-rest.rest) (with_ancestors name)) c.in_ok-rest.ensures.value in
    record { fits = omega (arith, c.loop-rest.invariant.counts c.loop-rest.rest, owner, own-count c.loop-rest.rest, c.requires.fits c.loop-rest.rest) }
