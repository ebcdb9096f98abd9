use Rattle.std.proofs.Common.{IfOk, sym, subst, []}
use Rattle.sipl_evidence.specs.Answers.{answering, at_alias, at_source, max_ancestors, unless_exists}
use Rattle.sipl_evidence.specs.Looks.{done}
use Rattle.sipl_evidence.specs.WalkPlaces.{IsLeg, IsVisit, name_of}
use Rattle.sipl_evidence.specs.Walks.{asking_from, next_within}
use Rattle.sipl_evidence.specs.declared.walk_place.Stage.TheVariants.{WildcardSet}
use Rattle.sipl_evidence.proofs.reach.leg_from.Goals as goal

pub returns-in-Set-clause-leg : goal.returns-in-Set-clause-leg
returns-in-Set-clause-leg c =
    let items = c.args.evidence.now in
    let kind = c.args.kind in
    let left = c.args.place.left in
    let name = name_of c.args.place.name in
    let next = next_within max_ancestors left kind in
    let source = at_source next kind in
    let visit = subst (λ n. IsVisit items (answering max_ancestors next kind n) next kind n (unless_exists max_ancestors n source) c.visit_set-visit.result) c.get.ensures
    (c.visit_set-visit.ensures (unless_exists max_ancestors c.get.result.now source)) in
    subst (λ stage. IfOk c.name_leg.result (IsLeg items (asking_from stage left kind name) left kind)) (sym c.in-Set.is)
    (c.name_leg.ensures.leg (answering max_ancestors next kind name) visit)

pub returns-in-Alias-clause-leg : goal.returns-in-Alias-clause-leg
returns-in-Alias-clause-leg c =
    let items = c.args.evidence.now in
    let kind = c.args.kind in
    let left = c.args.place.left in
    let name = name_of c.args.place.name in
    let next = next_within max_ancestors left kind in
    let source = at_source next kind in
    let visit = subst (λ n. IsVisit items (at_alias next n (unless_exists max_ancestors n source)) next kind n (unless_exists max_ancestors n source) c.visit_alias-visit.result) c.get-in-Alias.ensures
    (c.visit_alias-visit.ensures kind (unless_exists max_ancestors c.get-in-Alias.result.now source)) in
    subst (λ stage. IfOk c.name_leg-in-Alias.result (IsLeg items (asking_from stage left kind name) left kind)) (sym c.in-Alias.is)
    (c.name_leg-in-Alias.ensures.leg (at_alias next name (unless_exists max_ancestors name source)) visit)

pub returns-in_ok-name-in-WildcardSet-clause-leg : goal.returns-in_ok-name-in-WildcardSet-clause-leg
returns-in_ok-name-in-WildcardSet-clause-leg c =
    let items = c.args.evidence.now in
    let kind = c.args.kind in
    let left = c.args.place.left in
    subst (λ stage. IsLeg items (asking_from stage left kind (name_of c.args.place.name)) left kind c.source_leg.result) (sym c.in-WildcardSet.is)
    (subst (λ name. IsLeg items (asking_from WildcardSet left kind name) left kind c.source_leg.result) c.in_ok-name-in-WildcardSet.ensures c.source_leg.ensures)

pub returns-in_ok-name-in-WildcardAlias-clause-leg : goal.returns-in_ok-name-in-WildcardAlias-clause-leg
returns-in_ok-name-in-WildcardAlias-clause-leg c =
    let items = c.args.evidence.now in
    let kind = c.args.kind in
    let left = c.args.place.left in
    let next = next_within max_ancestors left kind in
    let name = c.in_ok-name-in-WildcardAlias.name in
    let leg = c.wildcard_leg.ensures items kind (at_alias next name (done [])) (c.visit_alias-visit-in-WildcardAlias.ensures kind (done [])) in
    subst (λ stage. IsLeg items (asking_from stage left kind (name_of c.args.place.name)) left kind c.wildcard_leg.result) (sym c.in-WildcardAlias.is)
    (subst (λ n. IsLeg items (at_alias next n (done [])) left kind c.wildcard_leg.result) c.in_ok-name-in-WildcardAlias.ensures leg)
