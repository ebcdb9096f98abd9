use Rattle.std.proofs.Common.{◌≡◌, sym, ◌∙◌, arith}
use Rattle.sipl_records.proofs.Public.{same_record_is, same_record-Decides}
use Rattle.sipl_zonestore.proofs.PatchedLists.{drop-both}
use Rattle.sipl_zonestore.proofs.patches.common_end.Goals as goal

pub loop-count-preserved : goal.loop-count-preserved
loop-count-preserved c =
    let x = c.index-a-a.result in
    let y = c.index-b-b.result in
    let equal : x ≡ y = (same_record-Decides x y).0 (sym (c.eq.ensures ∙ same_record_is x y) ∙ c.if-eq.true) in
    record {
      first = omega (arith, c.loop-count-test.true);
      second = omega (arith, c.if-count-b.true);
      same = drop-both c.args.a.now c.args.b.now c.loop-count.count x y (omega (arith, c.loop-count-test.true)) (omega (arith, c.if-count-b.true)) c.index-a-a.is c.index-b-b.is equal c.loop-count.invariant.same;
    }
