use Rattle.std.proofs.Common.{arith}
use Rattle.sipl_names.proofs.Public.{is_within-refl}
use Rattle.sipl_zonestore.proofs.CountedNames.{own-count}
use Rattle.sipl_zonestore.proofs.name_table.raise_counts.Goals as goal

pub raise_count-requires-clause-exists : goal.raise_count-requires-clause-exists
raise_count-requires-clause-exists c = c.loop-rest.invariant.exist c.loop-rest.rest (is_within-refl c.loop-rest.rest)

pub raise_count-requires-clause-fits : goal.raise_count-requires-clause-fits
raise_count-requires-clause-fits c =
    omega (arith, c.loop-rest.invariant.counts c.loop-rest.rest, own-count c.loop-rest.rest, c.requires.fits c.loop-rest.rest)
