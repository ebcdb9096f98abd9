use Rattle.std.proofs.Common.{◌≡◌, Some, inl, ap, sym, subst, ◌∙◌}
use Rattle.sipl_evidence.specs.Looks.{next_key}
use Rattle.sipl_evidence.specs.WalkPlaces.{IsReach, place_asking}
use Rattle.sipl_evidence.specs.Walks.{WalkState, walk_asking}
use Rattle.sipl_evidence.proofs.Knowing.{first_unknown-find}
use Rattle.sipl_evidence.proofs.Legs.{on_err}
use Rattle.sipl_evidence.proofs.Reaching.{answered-unknown, lacking-some, lacking-unknown}
use Rattle.sipl_evidence.proofs.walk.Walk.wants.Goals as goal

pub returns-in_err-wanted-in-Lacking-clause-memory : goal.returns-in_err-wanted-in-Lacking-clause-memory
returns-in_err-wanted-in-Lacking-clause-memory c =
    let items = c.args.evidence.now in
    let walk = c.args.self.now in
    let reach = subst (IsReach items (walk_asking walk) walk.kind) c.in-Lacking.is c.in_ok-reach.ensures.reach in
    on_err c.from_residual-in_err-wanted-in-Lacking.result (inl (lacking-some items (walk_asking walk) c.in-Lacking.place walk.kind reach.0 reach.1))

pub returns-in-Answer-clause-wanted : goal.returns-in-Answer-clause-wanted
returns-in-Answer-clause-wanted c =
    let items = c.args.evidence.now in
    let walk = c.args.self.now in
    let reach = subst (IsReach items (walk_asking walk) walk.kind) c.in-Answer.is c.in_ok-reach.ensures.reach in
    sym (answered-unknown items (walk_asking walk) c.in-Answer.field-0.now reach)

pub returns-in-Answer-clause-next : goal.returns-in-Answer-clause-next
returns-in-Answer-clause-next c = λ look agrees.
    let items = c.args.evidence.now in
    let walk = c.args.self.now in
    let reach = subst (IsReach items (walk_asking walk) walk.kind) c.in-Answer.is c.in_ok-reach.ensures.reach in
    sym (answered-unknown items (walk_asking walk) c.in-Answer.field-0.now reach)
    ∙ first_unknown-find look items agrees (walk_asking walk)

pub returns-in_ok-wanted-in-Lacking-clause-wanted : goal.returns-in_ok-wanted-in-Lacking-clause-wanted
returns-in_ok-wanted-in-Lacking-clause-wanted c =
    let items = c.args.evidence.now in
    let walk = c.args.self.now in
    let place = c.in-Lacking.place in
    let reach = subst (IsReach items (walk_asking walk) walk.kind) c.in-Lacking.is c.in_ok-reach.ensures.reach in
    let wanted = subst (λ kind. next_key (place_asking place kind) ≡ Some c.in_ok-wanted-in-Lacking.field-0) (ap (λ (w : WalkState). w.kind) c.self.view_is) c.in_ok-wanted-in-Lacking.ensures in
    sym (lacking-unknown items (walk_asking walk) place walk.kind reach.0 reach.1 ∙ wanted)

pub returns-in_ok-wanted-in-Lacking-clause-next : goal.returns-in_ok-wanted-in-Lacking-clause-next
returns-in_ok-wanted-in-Lacking-clause-next c = λ look agrees.
    let items = c.args.evidence.now in
    let walk = c.args.self.now in
    let place = c.in-Lacking.place in
    let reach = subst (IsReach items (walk_asking walk) walk.kind) c.in-Lacking.is c.in_ok-reach.ensures.reach in
    let wanted = subst (λ kind. next_key (place_asking place kind) ≡ Some c.in_ok-wanted-in-Lacking.field-0) (ap (λ (w : WalkState). w.kind) c.self.view_is) c.in_ok-wanted-in-Lacking.ensures in
    sym (lacking-unknown items (walk_asking walk) place walk.kind reach.0 reach.1 ∙ wanted)
    ∙ first_unknown-find look items agrees (walk_asking walk)
