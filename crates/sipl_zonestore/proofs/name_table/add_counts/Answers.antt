use Rattle.std.proofs.Common.{◌≡◌, ◌∷◌, length, if◌then◌else◌, subst, refl, ap, arith}
use Rattle.std.specs.List.{IsDistinct}
use Rattle.std.specs.Map.{keys_of}
use Rattle.sipl_names.specs.Labels.{same_name}
use Rattle.sipl_names.proofs.Public.{same_name_decides}
use Rattle.sipl_zonestore.specs.NameTable.{NameTable, count_at}
use Rattle.sipl_zonestore.proofs.Counts.{count-first, distinct-rest}
use Rattle.sipl_zonestore.proofs.name_table.add_counts.Goals as goal

pub add_count-requires-clause-fits : goal.add_count-requires-clause-fits
add_count-requires-clause-fits c =
    let at = c.loop-name in
    let name = c.in-Some.name in
    let steps : at.name-iterator ≡ (name, c.in-Some.count) ∷ c.next.new.self = c.in-Some.ensures.steps in
    let distinct = subst (λ (es : NameTable). IsDistinct same_name (keys_of es)) steps at.invariant.distinct in
    let first = count-first name c.in-Some.count c.next.new.self distinct name in
    let here : (if same_name name name then c.in-Some.count else 0) ≡ c.in-Some.count = rw ((same_name_decides name name).1 refl) refl in
    let all = ap (λ (es : NameTable). count_at es name) c.into_iter-name-iterator.ensures.into_iter_gives.0 in
    omega (arith, at.invariant.counts name, ap (λ (es : NameTable). count_at es name) steps, first, here, all, c.requires.fits name)

pub loop-name-preserved : goal.loop-name-preserved
loop-name-preserved c =
    let at = c.loop-name in
    let steps : at.name-iterator ≡ (c.in-Some.name, c.in-Some.count) ∷ c.next.new.self = c.in-Some.ensures.steps in
    let distinct = subst (λ (es : NameTable). IsDistinct same_name (keys_of es)) steps at.invariant.distinct in
    record {
      counts = λ name.
          let first = count-first c.in-Some.name c.in-Some.count c.next.new.self distinct name in
          let was = at.invariant.counts name in
          let more = ap (λ (es : NameTable). count_at es name) steps in
          let counted = c.add_count.ensures.counts name in
          omega (arith, first, was, more, counted);
      distinct = distinct-rest c.in-Some.name (keys_of c.next.new.self) distinct;
      space = omega (arith, at.invariant.space, ap length steps, c.add_count.ensures.space);
    }
