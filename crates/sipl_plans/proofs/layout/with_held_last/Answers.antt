use Rattle.std.proofs.Common.{sym, ◌∙◌}
use Rattle.sipl_plans.proofs.FreeTargets.{free-last, none-held}
use Rattle.sipl_plans.proofs.HeldLast.{all-last, push-free, push-held}
use Rattle.sipl_plans.proofs.layout.with_held_last.Goals.{then-is_held+in_ok-push, else-is_held+in_ok-push-2}
use Rattle.sipl_plans.proofs.layout.with_held_last.Goals as goal

pub returns-then-is_empty : goal.returns-then-is_empty
returns-then-is_empty c =
    let holds = c.args.board.now.holds in
    free-last holds (none-held holds (c.is_empty.ensures.empty.0 c.if-is_empty.true)) c.args.endpoints.items

pub loop-endpoint-preserved : goal.loop-endpoint-preserved
loop-endpoint-preserved c =
    let holds = c.args.board.now.holds in
    let slice = c.as_slice-endpoint-items.result.now in
    let targets = c.loop-endpoint.targets.items in
    let held = c.loop-endpoint.held.items in
    let i = c.loop-endpoint.invariant in
    elim c.if-is_held.branch [
      | then-is_held+in_ok-push w ↦
          let next = push-held holds c.args.endpoints.items slice c.as_slice-endpoint-items.ensures.value c.loop-endpoint.endpoint-index _ c.loop-endpoint-test.true targets held w.push.new.self.items (sym c.is_held.ensures.held ∙ w.if-is_held.true) i.targets i.held w.in_ok-push.ensures.items in
          record {
            targets = (λ k. (w.targets-is k).items) ∙ next.0;
            held = (λ k. (w.held-is k).items) ∙ next.1;
          }
      | else-is_held+in_ok-push-2 w ↦
          let next = push-free holds c.args.endpoints.items slice c.as_slice-endpoint-items.ensures.value c.loop-endpoint.endpoint-index _ c.loop-endpoint-test.true targets held w.push-else-is_held.new.self.items (sym c.is_held.ensures.held ∙ w.if-is_held.false) i.targets i.held w.in_ok-push-2.ensures.items in
          record {
            targets = (λ k. (w.targets-is k).items) ∙ next.0;
            held = (λ k. (w.held-is k).items) ∙ next.1;
          }
    ]

pub returns : goal.returns
returns c =
    all-last c.args.board.now.holds c.args.endpoints.items c.as_slice-endpoint-items.result.now c.loop-endpoint.endpoint-index c.loop-endpoint.targets.items c.loop-endpoint.held.items c.as_slice.result.now c.extend_from_slice.new.self.items
    c.as_slice-endpoint-items.ensures.value c.loop-endpoint-test.false c.loop-endpoint.invariant.targets c.loop-endpoint.invariant.held c.as_slice.ensures.value c.in_ok-extend_from_slice.ensures.items
