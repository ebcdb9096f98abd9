use Rattle.std.proofs.Common.{◌∙◌}
use Rattle.std.proofs.lemmas.Bool.Decides.{not_from_Decides}
use Rattle.sipl_book.proofs.States.{with_same_holds, with_other_holds}
use Rattle.sipl_book.proofs.state.StatePartialEq.eq.Goals as goal

pub returns-then-same_holds : goal.returns-then-same_holds
returns-then-same_holds c = c.same_zones.ensures ∙ with_same_holds c.args.self.now c.args.other.now (c.same_holds.ensures.0 c.if-same_holds.true)

pub returns-else-same_holds : goal.returns-else-same_holds
returns-else-same_holds c = c.if-same_holds.false ∙ with_other_holds c.args.self.now c.args.other.now (not_from_Decides _ c.same_holds.ensures c.if-same_holds.false)
