use Rattle.std.proofs.Common.{◌≡◌, false, true, IsSome, inl, ap, subst}
use Rattle.sipl_evidence.specs.WalkPlaces.{IsLentApart, IsReach, name_of, place_asking}
use Rattle.sipl_evidence.specs.Walks.{WalkState, walk_asking}
use Rattle.sipl_evidence.proofs.Legs.{on_err}
use Rattle.sipl_evidence.proofs.Reaching.{answered-unknown, lacking-apart, moved-asking, moved-same}
use Rattle.sipl_evidence.proofs.walk.Walk.step.Goals as goal

pub returns-in-Answer-clause-onward : goal.returns-in-Answer-clause-onward
returns-in-Answer-clause-onward c = λ some.
    let items = c.args.evidence.now in
    let walk = c.args.self.now in
    let reach = subst (IsReach items (walk_asking walk) walk.kind) c.in-Answer.is c.in_ok-reach.ensures.reach in
    let never : false ≡ true = subst IsSome (answered-unknown items (walk_asking walk) c.in-Answer.field-0.now reach) some in cc never

pub returns-in_err-other-clause-memory : goal.returns-in_err-other-clause-memory
returns-in_err-other-clause-memory c =
    let items = c.args.evidence.now in
    let walk = c.args.self.now in
    let place = c.in-Lacking.place in
    let reach = subst (IsReach items (walk_asking walk) walk.kind) c.in-Lacking.is c.in_ok-reach.ensures.reach in
    let apart = subst (IsLentApart place.name) (ap (λ (w : WalkState). w.name) c.walk.view_is) c.in_err-other.ensures.memory in
    on_err c.from_residual-in_err-other.result (inl (lacking-apart items (walk_asking walk) place walk.kind reach.0 reach.1 walk.name apart))

pub returns-clause-same : goal.returns-clause-same
returns-clause-same c =
    let items = c.args.evidence.now in
    let walk = c.args.self.now in
    let place = c.in-Lacking.place in
    let reach = subst (IsReach items (walk_asking walk) walk.kind) c.in-Lacking.is c.in_ok-reach.ensures.reach in
    let moved = moved-asking walk c.go_to.new.self c.walk.inside.name c.in_ok-other.other (name_of place.name) place.left place.stage c.go_to.ensures (ap (λ (w : WalkState). w.name) c.walk.view_is) c.in_ok-other.ensures.name in
    moved-same items (walk_asking c.go_to.new.self) (walk_asking walk) (place_asking place walk.kind) moved reach.1
