use Rattle.std.proofs.Common.{◌<◌, ap, arith, length, set}
use Rattle.sipl_records.specs.Kinds.{index_of}
use Rattle.sipl_evidence.proofs.Placing.{set-place_at}
use Rattle.sipl_evidence.proofs.places.Places.set.Goals as goal

pub returns : goal.returns
returns c other =
    let all = c.args.self.now.by_kind in
    let within : index_of c.args.kind < length all = let limit = c.index.ensures.limit in let same = c.index.ensures.index in let formed = c.well_formed in grind (arith, limit, same, formed) in
    set-place_at c.args.self.now (record { by_kind = set all c.index.result c.args.place }) c.args.kind c.args.place within (ap (λ i. set all i c.args.place) c.index.ensures.index) other
