use Rattle.std.proofs.Common.{◌≡◌, ◌+◌, ◌<◌, ◌∙◌, length, take, drop, sym, arith, rules}
use Rattle.std.specs.List.{list_any}
use Rattle.std.proofs.lemmas.List.{length-set}
use Rattle.sipl_choice.specs.Endpoints.{same_endpoint}
use Rattle.sipl_plans.proofs.EachOnce.{first-known, first-new, rest-more, rest-new}
use Rattle.sipl_plans.proofs.unique.keep_first.Goals.{then-not-contains, else-not-contains}
use Rattle.sipl_plans.proofs.unique.keep_first.Goals as goal

pub loop-place-preserved : goal.loop-place-preserved
loop-place-preserved c =
    let all = c.args.endpoints.now.items in
    let items = c.loop-place.endpoints.items in
    let kept = c.loop-place.kept in
    let place = c.loop-place.place in
    let endpoint = c.index.result.now in
    let i = c.loop-place.invariant in
    let within : place < length items = omega (arith, c.loop-place-test.true, i.len) in
    let contains : c.contains.result ≡ list_any (λ other. same_endpoint other endpoint) (take kept items) =
    search rules in
    elim c.if-not-contains.branch [
      | then-not-contains w ↦
          let new = sym contains ∙ w.if-not-contains.true in
          record {
            kept = (λ k. take (w.kept-is k) (w.endpoints-is k).items) ∙ first-new all items kept place endpoint within i.len i.within i.kept i.rest c.index.ensures new;
            rest = (λ k. drop (place + 1) (w.endpoints-is k).items) ∙ rest-new all items kept place endpoint within i.len i.within i.kept i.rest c.index.ensures;
            len = (λ k. length (w.endpoints-is k).items) ∙ length-set items kept endpoint ∙ i.len;
            within = omega (arith, w.kept-is, i.within);
          }
      | else-not-contains w ↦
          let known = sym contains ∙ w.if-not-contains.false in
          record {
            kept = (λ k. take (w.kept-is k) (w.endpoints-is k).items) ∙ first-known all items kept place endpoint within i.len i.within i.kept i.rest c.index.ensures known;
            rest = (λ k. drop (place + 1) (w.endpoints-is k).items) ∙ rest-more all items kept place endpoint within i.len i.within i.kept i.rest c.index.ensures;
            len = (λ k. length (w.endpoints-is k).items) ∙ i.len;
            within = omega (arith, w.kept-is, i.within);
          }
    ]
