use Rattle.std.proofs.Common.{◌≡◌, ◌++◌, ◌<◌, map, length, drop, replicate, refl, sym, ap, subst, ◌∙◌, arith}
use Rattle.std.specs.List.{All, range_with_len}
use Rattle.std.proofs.lemmas.Iterator.{YieldsList-from_range, items_from_collect}
use Rattle.std.proofs.lemmas.List.{length-map, take_at}
use Rattle.std.proofs.lemmas.List.FromFn.{length-range_with_len}
use Rattle.sipl_srv.specs.Order.{AreDistinct, order_of}
use Rattle.sipl_srv.proofs.Places.{AreDistinct-range, All-range}
use Rattle.sipl_srv.proofs.Orders.{All-ordered}
use Rattle.sipl_srv.proofs.order.arrange.Given.{Over}
use Rattle.sipl_srv.proofs.order.arrange.Goals as goal
use Rattle.sipl_srv.proofs.order.arrange.Goals.{After-words}

-- the places before they are put in order
places : (g : Over) (c : After-words g) → c.deref_mut.result.now ≡ range_with_len 0 (length c.args.picks.now)
places g c =
    let n = length c.args.picks.now in
    c.deref_mut.ensures.value
    ∙ rw c.in_ok-order.was at (items_from_collect c.collect.result c.collect.ensures.ran (YieldsList-from_range 0 n n refl (omega arith)))

pub put_in_order-requires-clause-few : goal.put_in_order-requires-clause-few
put_in_order-requires-clause-few g c =
    omega (arith, c.requires, ap length (places g c), length-range_with_len 0 (length c.args.picks.now))

pub put_in_order-requires-clause-enough : goal.put_in_order-requires-clause-enough
put_in_order-requires-clause-enough g c =
    omega (arith, c.requires, ap length (places g c), length-range_with_len 0 (length c.args.picks.now), ap length c.words.ensures.value, c.words.ensures.len)

pub put_in_order-requires-clause-valid : goal.put_in_order-requires-clause-valid
put_in_order-requires-clause-valid g c =
    subst (λ ps. All (λ place. place < length c.args.picks.now) ps) (sym (places g c)) (All-range (length c.args.picks.now))

pub put_in_order-requires-clause-distinct : goal.put_in_order-requires-clause-distinct
put_in_order-requires-clause-distinct g c = subst AreDistinct (sym (places g c)) (AreDistinct-range (length c.args.picks.now))

pub returns-clause-order : goal.returns-clause-order
returns-clause-order g c =
    let ranks = map g.T.Ranked.rank c.args.picks.now in
    let n = length c.args.picks.now in
    let words = c.words.result.now in
    let same : length ranks ≡ n = length-map c.args.picks.now g.T.Ranked.rank in
    c.from_vec.ensures
    ∙ take_at c.put_in_order.new.places (drop (length c.put_in_order.new.places) c.in_ok-order.order.items) c.in_ok-order.order.len (omega (arith, c.put_in_order.auto.places, c.deref_mut.ensures.len))
    ∙ c.put_in_order.ensures (replicate (length ranks) 0)
    ∙ ap (λ ps. order_of ranks ps (words ++ replicate (length ranks) 0)) (places g (goal.at.returns-clause-order g c).After-words)
    ∙ ap (λ m. order_of ranks (range_with_len 0 m) (words ++ replicate (length ranks) 0)) (sym same)
    ∙ ap (λ ws. order_of ranks (range_with_len 0 (length ranks)) (ws ++ replicate (length ranks) 0)) c.words.ensures.value

pub returns-clause-within : goal.returns-clause-within
returns-clause-within g c =
    let ranks = map g.T.Ranked.rank c.args.picks.now in
    let same : length ranks ≡ length c.args.picks.now = length-map c.args.picks.now g.T.Ranked.rank in
    subst (λ n. All (λ place. place < n) c.from_vec.result) same
    (subst (All (λ place. place < length ranks)) (sym (returns-clause-order g c)) (All-ordered ranks c.args.draws.now))
