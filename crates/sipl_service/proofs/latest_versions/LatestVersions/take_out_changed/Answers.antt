use Rattle.std.proofs.Common.{◌≡◌, false}
use Rattle.indexmap.specs.IndexMap.{get}
use Rattle.sipl_records.specs.Sets.{same_key}
use Rattle.sipl_records.specs.declared.record.Key.{Key}
use Rattle.sipl_zonestore.specs.Store.{number_in}
use Rattle.sipl_service.specs.LatestVersions.{latest_at}
use Rattle.sipl_service.proofs.Keys.{everywhere}
use Rattle.sipl_service.proofs.latest_versions.LatestVersions.take_out_changed.Goals as goal

pub returns-in-Some : goal.returns-in-Some
returns-in-Some c =
    let good : (other : Key) → same_key c.in-Some.key.now other ≡ false
    → latest_at (number_in c.args.book.now.store other) (get same_key c.args.self.now.table other) ≡ get same_key c.args.self.now.table other = rw c.in-Some.is at c.requires in
    everywhere (get same_key c.take_out.new.self.table) (get same_key c.args.self.now.table) c.args.book.now.store c.in-Some.key.now
    c.take_out.ensures.latest c.take_out.ensures.others good
