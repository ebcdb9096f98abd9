use Rattle.std.proofs.Common.{◌≡◌, Result, Ok, Err, OnErr, ◌<◌, ◌++◌, [], ◌∷◌, length, true, false, vec_len, sym, ap, ◌∙◌, arith}
use Rattle.std.specs.List.{filter_map}
use Rattle.std.proofs.lemmas.Bool.{true≢false, eqb-true, eqb-false, ltb-true, ltb-false}
use Rattle.std.proofs.lemmas.List.{take_all}
use Rattle.sipl_srv.specs.declared.pick.Pick.{Pick}
use Rattle.sipl_srv.specs.declared.pick.Offer.TheVariants.{Picks}
use Rattle.sipl_srv.specs.Offers.{pick_of, is_unavailable}
use Rattle.sipl_srv.proofs.Offered.{available, IsOffered, IsOffered-none, IsOffered-root, IsOffered-pick, offer-open, offer-nothing, offer-closed, offer-picks, pick_of-other, unavailable-root, unavailable-other, nil-from_length}
use Rattle.sipl_srv.proofs.offers.offer.Goals as goal
use Rattle.sipl_srv.proofs.offers.offer.Goals.{then-not-is_root+in_ok-dup+in_ok-push, else-not-is_root, then-not-has_service, else-not-has_service+then-is_empty, else-not-has_service+else-is_empty}

on_err : {T E P : Type 0} (result : Result T E) → P → OnErr result P
on_err (Ok value) holds = tt
on_err (Err error) holds = holds

pub loop-value-preserved-in_default : goal.loop-value-preserved-in_default
loop-value-preserved-in_default c =
    IsOffered-none c.args.set.now c.loop-value.value-index c.value-item.result c.loop-value.has_service c.loop-value.picks.items
    c.loop-value-test.true c.value-item.is (pick_of-other c.value-item.result c.in_default.not-Service) c.loop-value.invariant

pub loop-value-preserved : goal.loop-value-preserved
loop-value-preserved c =
    let s = c.in-Service in
    let pick : Pick = record { priority = s.priority; weight = s.weight; port = s.port; target = s.target } in
    let before = c.loop-value in
    elim c.if-not-is_root.branch [
      | then-not-is_root+in_ok-dup+in_ok-push w ↦
          let other : is_unavailable pick ≡ false = unavailable-other pick (λ e. true≢false (sym (c.is_root.ensures.1 e) ∙ w.if-not-is_root.true)) in
          let after = IsOffered-pick c.args.set.now before.value-index c.value-item.result pick before.has_service before.picks.items c.loop-value-test.true c.value-item.is (ap pick_of s.is) other before.invariant in (
            after.0,
            ap (λ v. v.items) w.picks-is ∙ w.in_ok-push.ensures.items
                ∙ ap (λ t. before.picks.items ++ record pick { target = t } ∷ []) w.in_ok-dup.ensures.value ∙ after.1,
          )
      | else-not-is_root w ↦
          let root : is_unavailable pick ≡ true = unavailable-root pick (c.is_root.ensures.0 w.if-not-is_root.false) in
          let after = IsOffered-root c.args.set.now before.value-index c.value-item.result pick before.has_service before.picks.items c.loop-value-test.true c.value-item.is (ap pick_of s.is) root before.invariant in
          (after.0, ap (λ v. v.items) w.picks-is ∙ after.1)
    ]

pub returns-clause-offer : goal.returns-clause-offer
returns-clause-offer c =
    let set = c.args.set.now in
    let all = filter_map pick_of set in
    let whole : IsOffered c.loop-value.has_service c.loop-value.picks.items set = rw (take_all c.loop-value.value-index set (omega arith)) at c.loop-value.invariant in
    elim c.if-not-has_service.branch [
      | then-not-has_service w ↦ w.result-is ∙ sym (offer-nothing all (ltb-false 0 (length all) (sym whole.0 ∙ w.if-not-has_service.true)))
      | else-not-has_service+then-is_empty w ↦
          let none = eqb-true (vec_len c.loop-value.picks) 0 (sym w.is_empty.ensures ∙ w.if-is_empty.true) in
          let nil = nil-from_length c.loop-value.picks.items (omega (arith, none, c.loop-value.picks.ok.0)) in
          w.result-is ∙ sym (offer-closed all (ltb-true 0 (length all) (sym whole.0 ∙ w.if-not-has_service.false)) (sym whole.1 ∙ nil))
      | else-not-has_service+else-is_empty w ↦
          let some' = eqb-false (vec_len c.loop-value.picks) 0 (sym w.is_empty.ensures ∙ w.if-is_empty.false) in
          let there : 0 < length (available all) = omega (arith, some', c.loop-value.picks.ok.0, ap length whole.1) in
          w.result-is ∙ ap Picks (w.from_vec.ensures ∙ whole.1) ∙ sym (offer-picks all there)
    ]

pub returns-in_err-dup-clause-memory_nothing : goal.returns-in_err-dup-clause-memory_nothing
returns-in_err-dup-clause-memory_nothing c =
    on_err c.from_residual.result (offer-open c.args.set.now c.loop-value.value-index c.value-item.result c.in-Service.priority c.in-Service.weight c.in-Service.port c.in-Service.target c.loop-value-test.true c.value-item.is c.in-Service.is (λ e. true≢false (sym (c.is_root.ensures.1 e) ∙ c.if-not-is_root.true))).0

pub returns-in_err-dup-clause-memory_closed : goal.returns-in_err-dup-clause-memory_closed
returns-in_err-dup-clause-memory_closed c =
    on_err c.from_residual.result (offer-open c.args.set.now c.loop-value.value-index c.value-item.result c.in-Service.priority c.in-Service.weight c.in-Service.port c.in-Service.target c.loop-value-test.true c.value-item.is c.in-Service.is (λ e. true≢false (sym (c.is_root.ensures.1 e) ∙ c.if-not-is_root.true))).1

pub returns-in_err-push-clause-memory_nothing : goal.returns-in_err-push-clause-memory_nothing
returns-in_err-push-clause-memory_nothing c =
    on_err c.from_residual-in_err-push.result (offer-open c.args.set.now c.loop-value.value-index c.value-item.result c.in-Service.priority c.in-Service.weight c.in-Service.port c.in-Service.target c.loop-value-test.true c.value-item.is c.in-Service.is (λ e. true≢false (sym (c.is_root.ensures.1 e) ∙ c.if-not-is_root.true))).0

pub returns-in_err-push-clause-memory_closed : goal.returns-in_err-push-clause-memory_closed
returns-in_err-push-clause-memory_closed c =
    on_err c.from_residual-in_err-push.result (offer-open c.args.set.now c.loop-value.value-index c.value-item.result c.in-Service.priority c.in-Service.weight c.in-Service.port c.in-Service.target c.loop-value-test.true c.value-item.is c.in-Service.is (λ e. true≢false (sym (c.is_root.ensures.1 e) ∙ c.if-not-is_root.true))).1
