use Rattle.std.proofs.Common.{◌+◌, ◌<◌, ◌^◌, length, arith}
use Rattle.sipl_zonestore.specs.RecordList.{live}
use Rattle.sipl_zonestore.proofs.Elements.{on_ok}
use Rattle.sipl_zonestore.proofs.LiveRecords.{live-le}
use Rattle.sipl_zonestore.proofs.record_list.RecordList.reserve.Goals as goal

pub overflow_sub-len : goal.overflow_sub-len
overflow_sub-len c =
    omega (arith, live-le c.self.inside.records.items c.self.inside.codes.items, c.self.invariant.counted, c.self.inside.records.ok.0, c.len.ensures)

pub returns-clause-limit : goal.returns-clause-limit
returns-clause-limit c =
    let few : length (live c.reserve.new.self.items c.reserve-2.new.self.items) + c.args.additional < 2 ^ 63 = omega (arith, live-le c.reserve.new.self.items c.reserve-2.new.self.items, c.reserve.new.self.ok.0, c.reserve.new.self.ok.1, c.reserve.new.self.small, c.in_ok-reserve.ensures.ok) in
    on_ok c.reserve-2.result few
