use Rattle.std.proofs.Common.{◌+◌, IsSome, Some, subst, refl}
use Rattle.sipl_zonestore.proofs.Counts.{counted-more}
use Rattle.sipl_zonestore.proofs.name_table.raise_count.Goals as goal

pub returns-in-Some : goal.returns-in-Some
returns-in-Some c =
    let written = c.in-Some.own.now + 1 in
    counted-more c.args.names.now.entries (c.get_mut.follows.lender written).entries c.args.name.now (Some c.in-Some.own.now) (Some written) 1 ((c.get_mut.follows.holds written).3 (subst IsSome c.in-Some.ensures.value refl)).0 c.in-Some.ensures.value refl
