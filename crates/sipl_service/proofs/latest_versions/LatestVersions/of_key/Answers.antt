use Rattle.std.proofs.Common.{rules, ◌≡◌, Some}
use Rattle.indexmap.specs.IndexMap.{get}
use Rattle.sipl_records.specs.Sets.{same_key, set_of}
use Rattle.sipl_zonestore.specs.Store.{number_in}
use Rattle.sipl_service.specs.LatestVersions.{IsLatestOf}
use Rattle.sipl_service.proofs.latest_versions.LatestVersions.of_key.Goals as goal

pub returns-in-Some-clause-number : goal.returns-in-Some-clause-number
returns-in-Some-clause-number g c =
    let found : get same_key c.args.self.now.table c.args.key.now ≡ Some c.in-Some.latest = search rules in
    let store = c.args.book.now.store in
    let is : IsLatestOf c.args.key.now (number_in store c.args.key.now) (set_of store.zones.records c.args.key.now) c.in-Some.latest = rw found at (c.requires.latest_versions c.args.key.now) in
    is.number
