use Rattle.std.proofs.lemmas.List.Elements.{All-weaker}
use Rattle.sipl_plans.specs.Runs.{IsSet}
use Rattle.sipl_plans.proofs.KnownLook.{OfKind, known_look, Agrees-known_look, kinds-known_look}
use Rattle.sipl_plans.proofs.laws.findings_have_a_table_that_agrees.Goals as goal

pub returns : goal.returns
returns c = λ found sound. (
  known_look found.items,
  Agrees-known_look found.items sound.distinct,
  kinds-known_look found.items
      (All-weaker (λ item. IsSet item.key item.number item.content) OfKind (λ item set. set.kind) found.items sound.sets),
)
