use Rattle.std.proofs.Common.{ap, ◌∙◌, eqb}
use Rattle.std.specs.List.{list_any}
use Rattle.sipl_repair.proofs.Places.{list_any-take_absent}
use Rattle.sipl_repair.proofs.id_set.truncate_if_full.Goals as goal

pub returns-then-len-capacity-clause-none_new : goal.returns-then-len-capacity-clause-none_new
returns-then-len-capacity-clause-none_new c = λ id absent.
    ap (list_any (eqb id)) c.truncate.ensures.keys ∙ list_any-take_absent (eqb id) c.args.ids.now.keys c.args.keep absent
