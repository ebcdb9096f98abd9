use Rattle.std.proofs.Common.{◌≡◌, length, arith, sym, ap, ◌∙◌}
use Rattle.sipl_zonestore.specs.RecordList.{live}
use Rattle.sipl_zonestore.proofs.LiveRecords.{live-all, live-le, live-whole}
use Rattle.sipl_zonestore.proofs.places.compact.Goals as goal

pub returns-then-len-clause-records : goal.returns-then-len-clause-records
returns-then-len-clause-records c =
    let all : length (live c.args.records.now.items c.args.codes.now.items) ≡ length c.args.records.now.items = omega (arith, c.requires.counted, c.if-len.true, c.len.ensures, c.args.records.now.ok.0) in
    sym (live-whole c.args.records.now.items c.args.codes.now.items all)

pub returns-then-len-clause-whole : goal.returns-then-len-clause-whole
returns-then-len-clause-whole c =
    let all : length (live c.args.records.now.items c.args.codes.now.items) ≡ length c.args.records.now.items = omega (arith, c.requires.counted, c.if-len.true, c.len.ensures, c.args.records.now.ok.0) in
    live-whole c.args.records.now.items c.args.codes.now.items all

pub write_codes-requires : goal.write_codes-requires
write_codes-requires c =
    let kept = ap length (c.deref-2.ensures.value ∙ c.move_together.ensures.records) in
    omega (arith, kept, live-le c.args.records.now.items c.deref.result.now, c.requires.long, c.args.records.now.ok.0, c.args.codes.now.ok.0, c.args.codes.now.ok.1)

pub returns-clause-whole : goal.returns-clause-whole
returns-clause-whole c =
    rw (c.write_codes.ensures.codes, c.deref-2.ensures.value) (live-all c.move_together.new.records.items)
