use Rattle.std.proofs.Common.{◌≡◌, drop, true, arith, ◌∙◌}
use Rattle.std.proofs.lemmas.List.{length-set}
use Rattle.sipl_zonestore.specs.RecordList.{is_first}
use Rattle.sipl_zonestore.proofs.LiveRecords.{length-without, live-without, not-its-code}
use Rattle.sipl_zonestore.proofs.record_list.RecordList.remove.Goals as goal

pub invariant_of-self : goal.invariant_of-self
invariant_of-self c =
    let found : is_first c.args.old.now (drop c.find_place-place.result c.self.inside.records.items) (drop c.find_place-place.result c.self.inside.codes.items) ≡ true = rw (c.deref.ensures.value, c.deref-2.ensures.value) at c.find_place-place.ensures.found in
    let other = not-its-code c.args.old.now c.self.inside.records.items c.self.inside.codes.items c.find_place-place.result c.other_code.result c.index.result.now found c.index.ensures c.other_code.ensures in
    record {
      long = length-set c.self.inside.codes.items c.find_place-place.result c.other_code.result ∙ c.self.invariant.long;
      counted = omega (arith, c.self.invariant.counted, length-without c.args.old.now c.self.inside.records.items c.self.inside.codes.items c.find_place-place.result c.other_code.result other found);
    }

pub returns : goal.returns
returns c =
    let found : is_first c.args.old.now (drop c.find_place-place.result c.self.inside.records.items) (drop c.find_place-place.result c.self.inside.codes.items) ≡ true = rw (c.deref.ensures.value, c.deref-2.ensures.value) at c.find_place-place.ensures.found in
    let other = not-its-code c.args.old.now c.self.inside.records.items c.self.inside.codes.items c.find_place-place.result c.other_code.result c.index.result.now found c.index.ensures c.other_code.ensures in
    rw (← c.self.view_is) (live-without c.args.old.now c.self.inside.records.items c.self.inside.codes.items c.find_place-place.result c.other_code.result other (rw (← c.self.view_is) at c.requires.distinct) found)
