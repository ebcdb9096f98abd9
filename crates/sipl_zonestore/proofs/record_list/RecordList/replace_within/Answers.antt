use Rattle.std.proofs.Common.{◌≡◌, ◌≤◌, ◌+◌, ◌-◌, ◌++◌, not, min, length, vec_len, vec_capacity, arith, length-append, sym, ap, ◌∙◌, rules}
use Rattle.std.proofs.lemmas.Fn.{filter_same}
use Rattle.sipl_names.specs.Labels.{is_within}
use Rattle.sipl_records.specs.declared.record.Record.{Record}
use Rattle.sipl_zonestore.specs.RecordList.{live, codes_of}
use Rattle.sipl_zonestore.proofs.LiveRecords.{live-all, live-le, length-codes_of}
use Rattle.sipl_zonestore.proofs.record_list.RecordList.replace_within.Goals as goal

pub append_records-requires : goal.append_records-requires
append_records-requires c =
    let room : vec_len c.args.text ≤ min (vec_capacity c.self.inside.records - vec_len c.self.inside.records) (vec_capacity c.self.inside.codes - vec_len c.self.inside.codes) = rw (← c.self.view_is) at c.requires in
    omega (arith, room, c.retain.ensures.bound, c.retain.ensures.capacity, c.compact.ensures.capacity, ap length c.compact.ensures.records, live-le c.self.inside.records.items c.self.inside.codes.items, c.self.inside.records.ok.0, c.self.inside.records.ok.1, c.compact.new.records.ok.0, c.compact.new.records.ok.1)

pub write_codes-requires : goal.write_codes-requires
write_codes-requires c =
    let room : vec_len c.args.text ≤ min (vec_capacity c.self.inside.records - vec_len c.self.inside.records) (vec_capacity c.self.inside.codes - vec_len c.self.inside.codes) = rw (← c.self.view_is) at c.requires in
    let all : length c.append_records.new.records.items ≡ length c.retain.new.self.items + length c.args.text.items = ap length c.append_records.ensures ∙ length-append c.retain.new.self.items c.args.text.items in
    omega (arith, room, all, ap length c.deref.ensures.value, c.retain.new.self.ok.0, c.args.text.ok.0, c.retain.ensures.bound, c.compact.ensures.codes_capacity, ap length c.compact.ensures.records, live-le c.self.inside.records.items c.self.inside.codes.items, c.self.invariant.long, c.self.inside.records.ok.0, c.self.inside.codes.ok.0, c.self.inside.codes.ok.1, c.compact.new.records.ok.0)

pub invariant_of-self : goal.invariant_of-self
invariant_of-self c =
    let codes : c.write_codes.new.codes.items ≡ codes_of c.append_records.new.records.items = c.write_codes.ensures.codes ∙ ap codes_of c.deref.ensures.value in
    record {
      long = ap length codes ∙ length-codes_of c.append_records.new.records.items;
      counted = c.len-self-inside.ensures ∙ c.append_records.new.records.ok.0 ∙ ap length (sym (ap (live c.append_records.new.records.items) codes ∙ live-all c.append_records.new.records.items));
    }

pub returns : goal.returns
returns c =
    let codes : c.write_codes.new.codes.items ≡ codes_of c.append_records.new.records.items = c.write_codes.ensures.codes ∙ ap codes_of c.deref.ensures.value in
    let all : live c.append_records.new.records.items c.write_codes.new.codes.items ≡ c.append_records.new.records.items = ap (live c.append_records.new.records.items) codes ∙ live-all c.append_records.new.records.items in
    rw (← c.self.view_is) (all ∙ rw (c.append_records.ensures, ← c.compact.ensures.records) (ap (λ rs. rs ++ c.args.text.items) (filter_same _ (λ (r : Record). not (is_within r.owner c.args.apex.now)) _ (λ x b f k. search rules) _ _ c.retain.ensures.filtered)))
