use Rattle.std.proofs.Common.{ap, sym}
use Rattle.std.specs.Option.{unwrap_or}
use Rattle.sipl_names.specs.Labels.{same_name}
use Rattle.sipl_zonestore.proofs.OwnerPlaces.{lookup-empty}
use Rattle.sipl_zonestore.proofs.name_table.count_of.Goals as goal

pub returns-then-is_empty : goal.returns-then-is_empty
returns-then-is_empty c =
    sym (ap (λ found. unwrap_or found 0) (lookup-empty (same_name c.args.name.now) c.args.names.now.entries (c.is_empty.ensures.0 c.if-is_empty.true)))
