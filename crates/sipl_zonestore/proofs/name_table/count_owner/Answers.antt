use Rattle.std.proofs.Common.{◌≡◌, ◌<◌, true, Option, Some, IfSome, subst, arith}
use Rattle.sipl_names.specs.Labels.{Labels, is_within}
use Rattle.sipl_zonestore.specs.NameTable.{count_at}
use Rattle.sipl_zonestore.proofs.name_table.count_owner.Goals as goal

pub raise_counts-requires-clause-exist : goal.raise_counts-requires-clause-exist
raise_counts-requires-clause-exist c = λ name above.
    let given = c.in-Some.is in
    let is : c.args.owners.rest ≡ Some c.in-Some.rest = cc in
    let some : 0 < count_at c.args.names.now.entries name = subst (λ (rest : Option Labels). IfSome rest (λ other. is_within other name ≡ true → 0 < count_at c.args.names.now.entries name)) is (c.requires.exist name) above in
    omega (arith, some, c.count_in.ensures.counts name)
