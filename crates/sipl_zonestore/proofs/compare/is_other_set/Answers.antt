use Rattle.std.proofs.Common.{not, ◌∙◌}
use lib.Pointwise.{pointwise}
use Rattle.sipl_records.proofs.Public.{same_data_is}
use Rattle.sipl_zonestore.proofs.compare.is_other_set.Goals as goal

pub returns : goal.returns
returns c = c.ne.ensures ∙ (λ i. not (pointwise (λ x y. same_data_is x y i) c.args.a.now c.args.b.now))
