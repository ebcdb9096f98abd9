use Rattle.std.proofs.Common.{◌≡◌, ◌+◌, ◌-◌, ◌++◌, ◌∷◌, length, take, drop, sym, ap, ◌∙◌, arith}
use Rattle.std.specs.Option.{option_to_list}
use Rattle.std.specs.VecDeque.{deque_capacity}
use Rattle.std.proofs.lemmas.List.{length_push}
use Rattle.sipl_repair.specs.StalePlaces.{stale_count, live}
use Rattle.sipl_repair.proofs.Live.{compact_stale, compact_live}
use Rattle.sipl_repair.proofs.stale_places.compact.Goals.{then-not-take_one, else-not-take_one}
use Rattle.sipl_repair.proofs.stale_places.compact.Goals as goal

pub loop-preserved : goal.loop-preserved
loop-preserved c =
    let id = c.unwrap-id.result in
    let rest = c.pop_front.new.self.items in
    let r = c.len-end.result - c.loop.counter in
    let s = c.len-end.result - (c.loop.counter + 1) in
    let first : c.loop.places.items ≡ id ∷ rest = c.pop_front.ensures.items ∙ ap (λ o. option_to_list o ++ rest) c.unwrap-id.ensures in
    let before = ap (λ ys. drop r ys ++ live (take r ys) (stale_count c.loop.stale)) (sym first) ∙ c.loop.invariant.same_live in
    let left : s + 1 ≡ r = omega (arith, c.loop-test.true) in
    elim c.if-not-take_one.branch [
      | then-not-take_one w ↦
          let none = sym c.take_one.ensures.taken ∙ w.if-not-take_one.true in
          record {
            same_live =
                ap (λ places. drop s places.items ++ live (take s places.items) (stale_count c.take_one.new.stale)) w.places-is
                ∙ ap (λ ys. drop s ys ++ live (take s ys) (stale_count c.take_one.new.stale)) w.push_back_reserved.ensures.items
                ∙ compact_live id rest (stale_count c.loop.stale) (stale_count c.take_one.new.stale) c.take_one.ensures.counts r s left none (omega (arith, c.loop.invariant.left, ap length first))
                ∙ before;
            left = omega (arith, c.loop.invariant.left, ap length first, ap (λ places. length places.items) w.places-is, ap length w.push_back_reserved.ensures.items, length_push rest id);
            places_capacity = ap (λ places. deque_capacity places) w.places-is ∙ w.push_back_reserved.ensures.capacity ∙ c.pop_front.ensures.capacity ∙ c.loop.invariant.places_capacity;
            stale_capacity = omega (arith, c.take_one.ensures.len, c.take_one.ensures.spare, c.loop.invariant.stale_capacity);
          }
      | else-not-take_one w ↦
          let stale = sym c.take_one.ensures.taken ∙ w.if-not-take_one.false in
          record {
            same_live =
                ap (λ places. drop s places.items ++ live (take s places.items) (stale_count c.take_one.new.stale)) w.places-is
                ∙ compact_stale id rest (stale_count c.loop.stale) (stale_count c.take_one.new.stale) c.take_one.ensures.counts r s left stale
                ∙ before;
            left = omega (arith, c.loop.invariant.left, ap length first, ap (λ places. length places.items) w.places-is);
            places_capacity = ap (λ places. deque_capacity places) w.places-is ∙ c.pop_front.ensures.capacity ∙ c.loop.invariant.places_capacity;
            stale_capacity = omega (arith, c.take_one.ensures.len, c.take_one.ensures.spare, c.loop.invariant.stale_capacity);
          }
    ]
