use Rattle.std.proofs.Common.{◌≡◌, Option, sym, subst}
use Rattle.std.specs.Option.{MatchOption}
use Rattle.sipl_choice.specs.FamilyKinds.{address_kinds}
use Rattle.sipl_choice.specs.declared.families.Families.{Families}
use Rattle.sipl_evidence.specs.Looks.{done, and_then}
use Rattle.sipl_evidence.specs.Walks.{WalkState, walk_asking}
use Rattle.sipl_plans.specs.declared.layout.Layout.TheVariants.{Servers}
use Rattle.sipl_plans.specs.Stages.{serving_after, serving_left}
use Rattle.sipl_plans.proofs.stage.read_addresses.Goals as goal

pub returns-in-Some : goal.returns-in-Some
returns-in-Some c =
    let walk = c.in-Some.walk in
    let left = c.next_walk.new.self in
    let all = address_kinds c.families-families.result in
    let onward : serving_left all c.args.serving ≡ and_then (walk_asking walk) (serving_after all left) =
    subst (λ (o : Option WalkState). MatchOption o (serving_left all c.args.serving ≡ done (Servers left.transport left.servers.items)) (λ walk. serving_left all c.args.serving ≡ and_then (walk_asking walk) (serving_after all left))) c.in-Some.is c.in_ok-walk.ensures in
    sym (subst (λ (families : Families). serving_left (address_kinds families) c.args.serving ≡ and_then (walk_asking walk) (serving_after (address_kinds families) left)) c.families-families.ensures onward)
