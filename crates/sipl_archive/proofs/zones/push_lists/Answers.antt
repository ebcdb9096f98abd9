use Rattle.std.proofs.Common.{map, ap, arith}
use Rattle.sipl_archive.proofs.Sorting.{one_empty}
use Rattle.sipl_archive.proofs.zones.push_lists.Goals as goal

pub loop-alloc-preserved : goal.loop-alloc-preserved
loop-alloc-preserved c = record {
  most = omega (arith, c.in_ok-push.ensures.len);
  same = one_empty (λ list. map (λ r. r.now) list.items) c.args.apexes.now c.loop-alloc.lists.items c.push.new.self.items c.new.result
      c.loop-alloc.invariant.same (omega arith) c.in_ok-push.ensures.items (ap (map (λ r. r.now)) c.new.ensures.items);
}
