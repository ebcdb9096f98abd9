use Rattle.std.specs.Option.{option_copied}
use Rattle.std.proofs.lemmas.Bool.Decides.{not_from_Decides}
use Rattle.sipl_service.proofs.Gaps.{gap-here, reached-next}
use Rattle.sipl_service.proofs.gap.first_gap.Goals as goal

pub returns-then-not-does_follow-clause-gap : goal.returns-then-not-does_follow-clause-gap
returns-then-not-does_follow-clause-gap c =
    gap-here c.args.pages.now (option_copied c.loop-place.before) c.loop-place.place c.loop-place.invariant c.index-pages-place.result c.loop-place-test.true c.index-pages-place.is
    (not_from_Decides _ c.does_follow.ensures c.if-not-does_follow.true)

pub loop-place-preserved : goal.loop-place-preserved
loop-place-preserved c =
    reached-next c.args.pages.now (option_copied c.loop-place.before) c.loop-place.place c.loop-place.invariant c.index-pages-place.result c.loop-place-test.true c.index-pages-place.is
    (c.does_follow.ensures.0 c.if-not-does_follow.false)
