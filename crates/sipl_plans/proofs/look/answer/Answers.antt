use Rattle.std.proofs.Common.{◌≡◌, IfOk, subst}
use Rattle.sipl_records.specs.Sets.{set_of}
use Rattle.sipl_plans.proofs.Answering.{all-aliases}
use Rattle.sipl_plans.proofs.look.answer.Goals as goal

pub returns : goal.returns
returns c =
    subst (λ set. IfOk c.answer_within.result (λ found. found.items ≡ set))
    (all-aliases (set_of c.args.records.now) c.args.name.now c.args.kind)
    c.answer_within.ensures
