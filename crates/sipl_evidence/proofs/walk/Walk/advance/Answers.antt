use Rattle.std.proofs.Common.{◌≡◌, false, true, IsSome, Some, inl, ap, subst, ◌∙◌}
use Rattle.sipl_evidence.specs.Looks.{next_key}
use Rattle.sipl_evidence.specs.WalkPlaces.{IsReach, name_of, place_asking}
use Rattle.sipl_evidence.specs.Walks.{WalkState, walk_asking}
use Rattle.sipl_evidence.proofs.Legs.{on_err}
use Rattle.sipl_evidence.proofs.Reaching.{answered-known, answered-unknown, lacking-some, lacking-unknown, moved-asking, moved-same}
use Rattle.sipl_evidence.proofs.walk.Walk.advance.Goals as goal

pub returns-in-Answer-clause-reached : goal.returns-in-Answer-clause-reached
returns-in-Answer-clause-reached c =
    let items = c.args.evidence.now in
    let walk = c.args.self.now in
    let reach = subst (IsReach items (walk_asking walk) walk.kind) c.in-Answer.is c.in_ok-set.ensures.reach in
    answered-known items (walk_asking walk) c.in-Answer.set.now reach

pub returns-in-Answer-clause-onward : goal.returns-in-Answer-clause-onward
returns-in-Answer-clause-onward c = λ some.
    let items = c.args.evidence.now in
    let walk = c.args.self.now in
    let reach = subst (IsReach items (walk_asking walk) walk.kind) c.in-Answer.is c.in_ok-set.ensures.reach in
    let never : false ≡ true = subst IsSome (answered-unknown items (walk_asking walk) c.in-Answer.set.now reach) some in cc never

pub returns-in_err-key-clause-memory : goal.returns-in_err-key-clause-memory
returns-in_err-key-clause-memory c =
    let items = c.args.evidence.now in
    let walk = c.args.self.now in
    let reach = subst (IsReach items (walk_asking walk) walk.kind) c.in-Lacking.is c.in_ok-set.ensures.reach in
    on_err c.from_residual-in_err-key.result (inl (lacking-some items (walk_asking walk) c.in-Lacking.place walk.kind reach.0 reach.1))

pub returns-in_err-other-clause-memory : goal.returns-in_err-other-clause-memory
returns-in_err-other-clause-memory c =
    let items = c.args.evidence.now in
    let walk = c.args.self.now in
    let reach = subst (IsReach items (walk_asking walk) walk.kind) c.in-Lacking.is c.in_ok-set.ensures.reach in
    on_err c.from_residual-in_err-other.result (inl (lacking-some items (walk_asking walk) c.in-Lacking.place walk.kind reach.0 reach.1))

pub returns-clause-reached : goal.returns-clause-reached
returns-clause-reached c =
    let items = c.args.evidence.now in
    let walk = c.args.self.now in
    let place = c.in-Lacking.place in
    let reach = subst (IsReach items (walk_asking walk) walk.kind) c.in-Lacking.is c.in_ok-set.ensures.reach in
    lacking-unknown items (walk_asking walk) place walk.kind reach.0 reach.1
    ∙ subst (λ kind. next_key (place_asking place kind) ≡ Some c.in_ok-key.key) (ap (λ (w : WalkState). w.kind) c.walk.view_is) c.in_ok-key.ensures

pub returns-clause-same : goal.returns-clause-same
returns-clause-same c =
    let items = c.args.evidence.now in
    let walk = c.args.self.now in
    let place = c.in-Lacking.place in
    let reach = subst (IsReach items (walk_asking walk) walk.kind) c.in-Lacking.is c.in_ok-set.ensures.reach in
    let moved = moved-asking walk c.go_to.new.self c.walk.inside.name c.in_ok-other.other (name_of place.name) place.left place.stage c.go_to.ensures (ap (λ (w : WalkState). w.name) c.walk.view_is) c.in_ok-other.ensures.name in
    moved-same items (walk_asking c.go_to.new.self) (walk_asking walk) (place_asking place walk.kind) moved reach.1
