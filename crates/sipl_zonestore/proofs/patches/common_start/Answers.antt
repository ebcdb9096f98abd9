use Rattle.std.proofs.Common.{◌≡◌, sym, ◌∙◌, arith}
use Rattle.sipl_records.proofs.Public.{same_record_is, same_record-Decides}
use Rattle.sipl_zonestore.proofs.PatchedLists.{take-both}
use Rattle.sipl_zonestore.proofs.patches.common_start.Goals as goal

pub loop-count-preserved : goal.loop-count-preserved
loop-count-preserved c =
    let x = c.index-a-count.result in
    let y = c.index-b-count.result in
    let equal : x ≡ y = (same_record-Decides x y).0 (sym (c.eq.ensures ∙ same_record_is x y) ∙ c.if-eq.true) in
    record {
      first = omega (arith, c.loop-count-test.true);
      second = omega (arith, c.if-count-b.true);
      same = take-both c.args.a.now c.args.b.now c.loop-count.count x y (omega (arith, c.loop-count-test.true)) (omega (arith, c.if-count-b.true)) c.index-a-count.is c.index-b-count.is equal c.loop-count.invariant.same;
    }
