use Rattle.std.proofs.Common.{◌≡◌, ◌∷◌, ◌++◌, [], length, arith, ap, ◌∙◌, length-append}
use Rattle.sipl_zonestore.specs.RecordList.{live}
use Rattle.sipl_zonestore.proofs.LiveRecords.{live-le, live-push}
use Rattle.sipl_zonestore.proofs.record_list.RecordList.push_reserved.Goals as goal

pub overflow_add-self : goal.overflow_add-self
overflow_add-self c =
    omega (arith, live-le c.self.inside.records.items c.self.inside.codes.items, c.self.invariant.counted, c.self.inside.records.ok.0, c.self.inside.records.ok.1, c.push_reserved-2.new.self.ok.0, c.push_reserved-2.new.self.ok.1, c.push_reserved-2.ensures.len, c.push_reserved-2.new.self.small)

pub invariant_of-self : goal.invariant_of-self
invariant_of-self c =
    let pushed : live c.push_reserved-2.new.self.items c.push_reserved.new.self.items ≡ live c.self.inside.records.items c.self.inside.codes.items ++ c.args.new ∷ [] =
    (λ i. live (c.push_reserved-2.ensures.items i) ((c.push_reserved.ensures.items ∙ ap (λ code. c.self.inside.codes.items ++ code ∷ []) c.name_code.ensures) i)) ∙ live-push c.self.inside.records.items c.self.inside.codes.items c.args.new c.self.invariant.long in
    record {
      long = omega (arith, ap length c.push_reserved-2.ensures.items, ap length c.push_reserved.ensures.items, length-append c.self.inside.records.items (c.args.new ∷ []), length-append c.self.inside.codes.items (c.name_code.result ∷ []), c.self.invariant.long);
      counted = omega (arith, ap length pushed, length-append (live c.self.inside.records.items c.self.inside.codes.items) (c.args.new ∷ []), c.self.invariant.counted);
    }

pub returns : goal.returns
returns c =
    rw (← c.self.view_is) ((λ i. live (c.push_reserved-2.ensures.items i) ((c.push_reserved.ensures.items ∙ ap (λ code. c.self.inside.codes.items ++ code ∷ []) c.name_code.ensures) i)) ∙ live-push c.self.inside.records.items c.self.inside.codes.items c.args.new c.self.invariant.long)
