use Rattle.std.proofs.Common.{◌≡◌, true, false, take, if◌then◌else◌, sym, ◌∙◌, arith}
use Rattle.sipl_records.specs.Sets.{same_key}
use Rattle.sipl_zonestore.specs.Content.{renumbered}
use Rattle.sipl_zonestore.specs.SetTable.{has_set}
use Rattle.sipl_zonestore.proofs.TableSteps.{numbered-start, numbered-step, counted-next, taken-le, has_set-same}
use Rattle.sipl_zonestore.proofs.set_numbers.number_sets.Goals as goal
use Rattle.sipl_zonestore.proofs.set_numbers.number_sets.Goals.{then-set_number, else-set_number}

pub loop-key-init : goal.loop-key-init
loop-key-init c = record { next = omega arith; content = numbered-start c.args.sets.now c.args.next }

pub overflow_add-next : goal.overflow_add-next
overflow_add-next c =
    omega (arith, c.loop-key.invariant.next, taken-le (has_set c.args.sets.now) c.args.keys.now c.loop-key.key-index, c.requires.last)

pub loop-key-preserved : goal.loop-key-preserved
loop-key-preserved c =
    let there : c.set_number.result ≡ has_set c.args.sets.now c.key-item.result = c.set_number.ensures.found ∙ has_set-same c.args.sets.now c.loop-key.sets (take c.loop-key.key-index c.args.keys.now) c.args.next c.key-item.result (c.loop-key.invariant.content c.key-item.result) in
    record {
      next = elim c.if-set_number.branch [
        | then-set_number w ↦ omega (arith, w.next-is, c.loop-key.invariant.next, counted-next (has_set c.args.sets.now) c.args.keys.now c.loop-key.key-index c.key-item.result true c.loop-key-test.true c.key-item.is (sym there ∙ w.if-set_number.true))
        | else-set_number w ↦ omega (arith, w.next-is, c.loop-key.invariant.next, counted-next (has_set c.args.sets.now) c.args.keys.now c.loop-key.key-index c.key-item.result false c.loop-key-test.true c.key-item.is (sym there ∙ w.if-set_number.false))
      ];
      content = λ other. c.set_number.ensures.numbered other ∙ (λ j. if same_key c.key-item.result other then renumbered (c.loop-key.invariant.next j) (c.loop-key.invariant.content other j) else c.loop-key.invariant.content other j) ∙ numbered-step c.args.sets.now c.args.keys.now c.loop-key.key-index c.args.next c.key-item.result other c.requires.distinct c.loop-key-test.true c.key-item.is;
    }
