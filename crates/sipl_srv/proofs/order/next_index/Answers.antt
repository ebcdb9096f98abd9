use Rattle.std.proofs.Common.{◌≡◌, ◌+◌, ◌%◌, ◌≤◌, None, map, option_map, slice_get, slice_index, sym, ap, ◌∙◌, arith}
use Rattle.sipl_srv.specs.Order.{of_priority, weightless, weightless_first, total_weight, first_reaching}
use Rattle.sipl_srv.proofs.Chosen.{chosen_place-by_priority, reaching-zero, reaching-in_order, reaching-some, some-from_map, none-from_map}
use Rattle.sipl_srv.proofs.order.next_index.Goals as goal
use Rattle.sipl_srv.proofs.order.next_index.Goals.{else-number-eq0-via-else-number-eq0, else-number-eq0-via-then-number-eq0+in-None-1}

pub returns-clause-chosen : goal.returns-clause-chosen
returns-clause-chosen g c =
    let ranks = map g.T.Ranked.rank c.args.picks.now in
    let places = c.args.places.now in
    let priority = c.least_priority-priority.result in
    let from = of_priority ranks priority places in
    chosen_place-by_priority ranks places c.args.word priority c.total_weight.result c.least_priority-priority.ensures.least c.total_weight.ensures.total
    ∙ ap (λ n. first_reaching ranks n 0 (weightless_first ranks from)) c.if-number-eq0.true
    ∙ reaching-zero ranks from (slice_index places c.in-Some.i) (sym c.in-Some.ensures.first)

pub unwrap-requires : goal.unwrap-requires
unwrap-requires g c =
    let ranks = map g.T.Ranked.rank c.args.picks.now in
    let places = c.args.places.now in
    let priority = c.least_priority-priority.result in
    let from = of_priority ranks priority places in
    let number = c.args.word % (c.total_weight.result + 1) in
    let within : number ≤ 0 + total_weight ranks from = omega (arith, c.total_weight.ensures.total) in
    some-from_map (slice_index places) c.first_reaching.result (first_reaching ranks number 0 from) c.first_reaching.ensures.first
    (reaching-some ranks number 0 from c.least_priority-priority.ensures.some within)

pub returns-2-clause-chosen : goal.returns-2-clause-chosen
returns-2-clause-chosen g c =
    let ranks = map g.T.Ranked.rank c.args.picks.now in
    let places = c.args.places.now in
    let priority = c.least_priority-priority.result in
    let from = of_priority ranks priority places in
    let number = c.args.word % (c.total_weight.result + 1) in
    let none : number ≡ 0 → slice_get (weightless ranks from) 0 ≡ None = λ e. elim c.else-number-eq0.branch [
      | else-number-eq0-via-else-number-eq0 w ↦ absurd (omega arith)
      | else-number-eq0-via-then-number-eq0+in-None-1 w ↦
          none-from_map (slice_index places) w.first_weightless.result (slice_get (weightless ranks from) 0) w.first_weightless.ensures.first (cc)
    ] in
    chosen_place-by_priority ranks places c.args.word priority c.total_weight.result c.least_priority-priority.ensures.least c.total_weight.ensures.total
    ∙ reaching-in_order ranks number from none
    ∙ sym c.first_reaching.ensures.first
    ∙ ap (option_map (slice_index places)) c.unwrap.ensures
