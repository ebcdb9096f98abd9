use Rattle.std.proofs.Common.{◌≡◌, ◌-◌, ◌<◌, ◌++◌, map, length, get_or, drop, sym, subst, ◌∙◌, arith, Some}
use Rattle.std.specs.List.{All}
use Rattle.std.proofs.lemmas.List.{length-drop, take_all}
use Rattle.sipl_srv.specs.Order.{AreDistinct, chosen_place, order_of}
use Rattle.sipl_srv.proofs.Places.{without-remove, AreDistinct-without, All-without, moved, ordered_more, ordered_all}
use Rattle.sipl_srv.proofs.order.put_in_order.Goals as goal

pub loop-k-preserved : goal.loop-k-preserved
loop-k-preserved g c =
    let ranks = map g.T.Ranked.rank c.args.picks.now in
    let n = length c.args.picks.now in
    let order = c.loop-k.places in
    let k = c.loop-k.k in
    let i = c.next_index-i.result in
    let rest = drop k order in
    let words = c.args.words.now in
    let whole = take_all (length order - k) rest (omega (arith, length-drop k order)) in
    let within : i < length rest = subst (λ ps. i < length ps) whole c.next_index-i.ensures.within in
    let next : chosen_place ranks rest (get_or words k 0) ≡ Some (get_or rest i 0) = subst (λ ps. chosen_place ranks ps (get_or words k 0) ≡ Some (get_or ps i 0)) whole c.next_index-i.ensures.chosen in
    let parts = moved order c.move_to_front.new.places k i (omega arith) c.move_to_front.ensures in
    let left = parts.1 ∙ sym (without-remove rest i within c.loop-k.invariant.distinct) in
    record {
      valid = subst (λ ps. All (λ place. place < n) ps) (sym left) (All-without n (get_or rest i 0) rest c.loop-k.invariant.valid);
      distinct = subst AreDistinct (sym left) (AreDistinct-without (get_or rest i 0) rest c.loop-k.invariant.distinct);
      ordered = λ more. ordered_more ranks order _ words more (order_of ranks c.args.places.now (words ++ more)) k i (omega arith) within c.loop-k.invariant.distinct parts.0 parts.1 next (c.loop-k.invariant.ordered more);
    }

pub returns : goal.returns
returns g c = λ more.
    ordered_all (map g.T.Ranked.rank c.args.picks.now) c.loop-k.places (drop c.loop-k.k c.args.words.now ++ more) (order_of (map g.T.Ranked.rank c.args.picks.now) c.args.places.now (c.args.words.now ++ more)) c.loop-k.k (omega arith) (c.loop-k.invariant.ordered more)
