use Rattle.std.proofs.Common.{◌≡◌, ◌∷◌, subst, ap, arith}
use Rattle.std.specs.List.{IsDistinct}
use Rattle.std.specs.Map.{keys_of}
use Rattle.sipl_names.specs.Labels.{same_name}
use Rattle.sipl_zonestore.specs.NameTable.{NameTable, count_at}
use Rattle.sipl_zonestore.proofs.Counts.{count-first, distinct-rest}
use Rattle.sipl_zonestore.proofs.name_table.take_counts.Goals as goal

pub loop-name-preserved : goal.loop-name-preserved
loop-name-preserved c =
    let at = c.loop-name in
    let steps : at.name-iterator ≡ (c.in-Some.name.now, c.in-Some.count.now) ∷ c.next.new.self = c.in-Some.ensures.steps in
    let distinct = subst (λ (es : NameTable). IsDistinct same_name (keys_of es)) steps at.invariant.distinct in
    record {
      counts = λ name.
          let first = count-first c.in-Some.name.now c.in-Some.count.now c.next.new.self distinct name in
          let was = at.invariant.counts name in
          let more = ap (λ (es : NameTable). count_at es name) steps in
          let counted = c.take_count.ensures name in
          omega (arith, first, was, more, counted);
      distinct = distinct-rest c.in-Some.name.now (keys_of c.next.new.self) distinct;
    }
