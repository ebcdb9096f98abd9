use Rattle.std.proofs.Common.{◌≡◌, ◌≤◌, ◌-◌, ◌++◌, min, length, take, drop, vec_len, vec_capacity, arith, sym, ap, ◌∙◌}
use Rattle.sipl_zonestore.specs.RecordList.{live, codes_of}
use Rattle.sipl_zonestore.proofs.LiveRecords.{codes-replaced, codes-whole, live-all, live-le, length-codes_of}
use Rattle.sipl_zonestore.proofs.record_list.RecordList.replace_part.Goals as goal

pub push_codes-requires : goal.push_codes-requires
push_codes-requires c =
    let room : vec_len c.args.new ≤ min (vec_capacity c.self.inside.records - vec_len c.self.inside.records) (vec_capacity c.self.inside.codes - vec_len c.self.inside.codes) = rw (← c.self.view_is) at c.requires.space in
    omega (arith, room, ap length c.deref.ensures.value, c.args.new.ok.0, c.compact.ensures.codes_capacity, c.compact.ensures.long, ap length c.compact.ensures.records, live-le c.self.inside.records.items c.self.inside.codes.items, c.self.invariant.long, c.self.inside.records.ok.0, c.self.inside.codes.ok.0, c.self.inside.codes.ok.1, c.compact.new.records.ok.0, c.compact.new.codes.ok.0)

pub unwrap-requires : goal.unwrap-requires
unwrap-requires c =
    let room : vec_len c.args.new ≤ min (vec_capacity c.self.inside.records - vec_len c.self.inside.records) (vec_capacity c.self.inside.codes - vec_len c.self.inside.codes) = rw (← c.self.view_is) at c.requires.space in
    c.append.ensures.succeeds (omega (arith, room, c.compact.ensures.capacity, ap length c.compact.ensures.records, live-le c.self.inside.records.items c.self.inside.codes.items, c.self.inside.records.ok.0, c.self.inside.records.ok.1, c.compact.new.records.ok.0, c.compact.new.records.ok.1))

pub invariant_of-self : goal.invariant_of-self
invariant_of-self c =
    let old = c.compact.new.records.items in
    let codes = c.compact.new.codes.items in
    let new = c.args.new.items in
    let appended : c.append.new.self.items ≡ old ++ new = rw c.unwrap.ensures at c.append.ensures.items in
    let records_are : c.move_last-2.new.items.items ≡ take c.args.start old ++ (new ++ drop c.args.end old) = c.move_last-2.ensures.items old new appended (omega (arith, c.args.new.ok.0, c.len-added.ensures)) in
    let old_codes : codes ≡ codes_of old = codes-whole old codes (c.compact.ensures.long ∙ c.compact.new.records.ok.0) c.compact.ensures.whole in
    let codes_are : c.move_last.new.items.items ≡ codes_of c.move_last-2.new.items.items = c.move_last.ensures.items codes (codes_of new) (c.push_codes.ensures.codes ∙ ap (λ rs. codes ++ codes_of rs) c.deref.ensures.value) (length-codes_of new ∙ omega (arith, c.args.new.ok.0, c.len-added.ensures)) ∙ ap (λ cs. take c.args.start cs ++ (codes_of new ++ drop c.args.end cs)) old_codes ∙ sym (codes-replaced old new c.args.start c.args.end) ∙ ap codes_of (sym records_are) in
    record {
      long = ap length codes_are ∙ length-codes_of c.move_last-2.new.items.items;
      counted = c.len-self-inside.ensures ∙ c.move_last-2.new.items.ok.0 ∙ ap length (sym (ap (live c.move_last-2.new.items.items) codes_are ∙ live-all c.move_last-2.new.items.items));
    }

pub returns : goal.returns
returns c =
    let old = c.compact.new.records.items in
    let codes = c.compact.new.codes.items in
    let new = c.args.new.items in
    let appended : c.append.new.self.items ≡ old ++ new = rw c.unwrap.ensures at c.append.ensures.items in
    let records_are : c.move_last-2.new.items.items ≡ take c.args.start old ++ (new ++ drop c.args.end old) = c.move_last-2.ensures.items old new appended (omega (arith, c.args.new.ok.0, c.len-added.ensures)) in
    let old_codes : codes ≡ codes_of old = codes-whole old codes (c.compact.ensures.long ∙ c.compact.new.records.ok.0) c.compact.ensures.whole in
    let codes_are : c.move_last.new.items.items ≡ codes_of c.move_last-2.new.items.items = c.move_last.ensures.items codes (codes_of new) (c.push_codes.ensures.codes ∙ ap (λ rs. codes ++ codes_of rs) c.deref.ensures.value) (length-codes_of new ∙ omega (arith, c.args.new.ok.0, c.len-added.ensures)) ∙ ap (λ cs. take c.args.start cs ++ (codes_of new ++ drop c.args.end cs)) old_codes ∙ sym (codes-replaced old new c.args.start c.args.end) ∙ ap codes_of (sym records_are) in
    rw (← c.self.view_is) (ap (live c.move_last-2.new.items.items) codes_are ∙ live-all c.move_last-2.new.items.items ∙ records_are ∙ ap (λ rs. take c.args.start rs ++ (new ++ drop c.args.end rs)) c.compact.ensures.records)
