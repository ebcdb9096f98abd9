use Rattle.std.proofs.Common.{◌≡◌, ◌<◌, ◌≤◌, List, length, get_or, sym, ap, subst, ◌∙◌}
use Rattle.sipl_records.specs.declared.kind.Kind.{Kind}
use Rattle.sipl_choice.specs.FamilyKinds.{address_kinds}
use Rattle.sipl_evidence.specs.Answers.{asking}
use Rattle.sipl_evidence.specs.Walks.{walk_asking}
use Rattle.sipl_plans.specs.Stages.{serving_left}
use Rattle.sipl_plans.proofs.ServersLeft.{asking_servers-next}
use Rattle.sipl_plans.proofs.serving.Serving.next_walk.Goals as goal
use Rattle.sipl_plans.proofs.serving.Serving.next_walk.Goals.{then-self-kinds+in_ok-finish_server, else-self-kinds}

pub returns : goal.returns
returns c =
    let kinds = address_kinds c.args.families in
    let serving = c.if-self-kinds.self in
    let pick = c.in-Some-Some.pick.now in
    let kind = c.in-Some-Some.kind.now in
    let all = c.kinds-kinds.ensures in
    let onward : serving_left kinds serving ≡ serving_left kinds c.args.self.now = elim c.if-self-kinds.branch [
      | then-self-kinds+in_ok-finish_server w ↦ ap (serving_left kinds) w.self-is ∙ w.in_ok-finish_server.ensures.left kinds (subst (λ (ks : List Kind). length ks ≤ c.args.self.now.next_kind) all w.if-self-kinds.true)
      | else-self-kinds w ↦ ap (serving_left kinds) w.self-is
    ] in
    let inside : serving.next_kind < length kinds = subst (λ ks. serving.next_kind < length ks) all c.in-Some-Some.ensures'.lookup.3.0 in
    let at : kind ≡ get_or kinds serving.next_kind kind = subst (λ ks. kind ≡ get_or ks serving.next_kind kind) all c.in-Some-Some.ensures'.lookup.1 in
    let walk : walk_asking c.start-walk.result ≡ asking pick.target kind = c.start-walk.ensures ∙ ap (λ name. asking name kind) c.in_ok-dup.ensures.value in
    sym onward ∙ asking_servers-next kinds serving.transport serving.servers.items serving.picks.items serving.next_kind serving.found.items pick kind (walk_asking c.start-walk.result) c.in-Some-Some.ensures.item.3.0 c.in-Some-Some.ensures.item.1 inside at walk
