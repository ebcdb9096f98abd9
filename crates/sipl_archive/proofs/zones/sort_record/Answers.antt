use Rattle.std.proofs.Common.{refl, sym, ◌∙◌, arith}
use Rattle.sipl_archive.proofs.Sorting.{after_name, left_above, left_root}
use Rattle.sipl_archive.proofs.zones.sort_record.Goals as goal

pub loop-lists-init : goal.loop-lists-init
loop-lists-init c = record {
  len = omega (arith, c.in_ok-push_to.ensures.len);
  sorted = rw c.in_ok-name.ensures.value (after_name c.args.apexes.now.keys c.args.added.now.owner c.args.added.now _ _ (rw c.in_ok-name.ensures.value at c.in_ok-push_to.ensures.sorted));
}

pub loop-lists-preserved : goal.loop-lists-preserved
loop-lists-preserved c = record {
  len = omega (arith, c.in_ok-push_to-2.ensures.len, c.loop-lists.invariant.len);
  sorted = after_name c.args.apexes.now.keys c.pop_label.new.self c.args.added.now _ _ c.in_ok-push_to-2.ensures.sorted
      ∙ sym (left_above c.args.apexes.now.keys c.loop-lists.name c.pop_label.new.self c.args.added.now _ (c.loop-lists-test.ensures.popped refl))
      ∙ c.loop-lists.invariant.sorted;
}

pub returns : goal.returns
returns c =
    sym (left_root c.args.apexes.now.keys c.loop-lists.name c.args.added.now _ (c.loop-lists-test.ensures.root refl).0) ∙ c.loop-lists.invariant.sorted
