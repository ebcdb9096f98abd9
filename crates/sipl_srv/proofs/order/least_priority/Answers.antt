use Rattle.std.proofs.Common.{◌≡◌, ◌<◌, ◌≤◌, eqb, map, length, get_or, ap, ◌∙◌, sym, arith}
use Rattle.std.proofs.lemmas.Bool.{eq-eqb}
use Rattle.std.proofs.lemmas.List.Elements.{All-from_get_or}
use Rattle.sipl_srv.specs.Order.{priority_at}
use Rattle.sipl_srv.proofs.Ranks.{rank_at-map, filter_least, some-filter, least_below, least_attained}
use Rattle.sipl_srv.proofs.order.least_priority.Goals as goal

pub loop-place-preserved : goal.loop-place-preserved
loop-place-preserved g c =
    let ranks = map g.T.Ranked.rank c.args.picks.now in
    let places = c.args.places.now in
    let i = c.loop-place.place-index in
    let within : i < length places = omega arith in
    let here : priority_at ranks (get_or places i 0) ≡ c.priority.result =
    ap (λ r. r.priority) (rank_at-map g.T.Ranked.rank c.args.picks.now (get_or places i 0) c.index-picks-place.result (c.requires.valid i 0 within) c.index-picks-place.is)
    ∙ sym c.priority.ensures in (
      least_below (priority_at ranks) places i c.priority.result c.loop-place.least c.min-least.result here c.min-least.ensures c.loop-place.invariant.0,
      least_attained (priority_at ranks) places i c.priority.result c.loop-place.least c.min-least.result within here c.min-least.ensures c.loop-place.invariant.1,
    )

pub returns-clause-some : goal.returns-clause-some
returns-clause-some g c =
    let ranks = map g.T.Ranked.rank c.args.picks.now in
    let at = c.loop-place.invariant.1 in
    some-filter (λ i. eqb (priority_at ranks i) c.loop-place.least) c.args.places.now at.0 at.1
    (eq-eqb (priority_at ranks (get_or c.args.places.now at.0 0)) c.loop-place.least at.2)

pub returns-clause-least : goal.returns-clause-least
returns-clause-least g c =
    let ranks = map g.T.Ranked.rank c.args.picks.now in
    let places = c.args.places.now in
    let at = c.loop-place.invariant.1 in
    filter_least (priority_at ranks) places c.loop-place.least
    (All-from_get_or (λ x. c.loop-place.least ≤ priority_at ranks x) places 0 (λ k h. c.loop-place.invariant.0 k (omega arith)))
    at.0 at.1 at.2
