use Rattle.std.proofs.Common.{◌≢◌, [], ap, sym, ◌∙◌}
use Rattle.indexmap.specs.IndexMap.{get}
use Rattle.sipl_records.specs.Sets.{same_key, set_of}
use Rattle.sipl_records.specs.declared.record.Key.{Key}
use Rattle.sipl_records.specs.contracts.record.KeyPartialEq.TheImpl.{eq-value}
use Rattle.sipl_service.proofs.Keys.{kept, others}
use Rattle.sipl_service.proofs.Latest.{with-latest}
use Rattle.sipl_service.proofs.latest_versions.LatestVersions.push.Goals as goal

pub returns-clause-others : goal.returns-clause-others
returns-clause-others g c =
    others c.args.self.now.table c.insert.new.self c.args.key.now
    (λ other apart. c.in_ok-insert.ensures.updates.2 other (ap (λ (k : Key). eq-value.it k other) c.in_ok-dup.ensures ∙ apart))

pub returns-clause-kept : goal.returns-clause-kept
returns-clause-kept g c =
    kept c.insert.new.self c.args.key.now c.in_ok-dup.field-0 _ c.in_ok-dup.ensures c.in_ok-insert.ensures.updates.1

pub returns-clause-latest_versions : goal.returns-clause-latest_versions
returns-clause-latest_versions g c =
    let filled : set_of c.args.book.now.store.zones.records c.args.key.now ≢ [] =
    λ empty. c.requires.taken (sym c.in_ok-number.ensures.number ∙ c.in_ok-number.ensures.set.number.1 (c.in_ok-number.ensures.value ∙ empty)) in
    with-latest c.args.book.now.store (get same_key c.args.self.now.table) (get same_key c.insert.new.self) c.args.key.now
    (record { number = c.in_ok-number.number; place = c.in-Ok-push.place })
    c.requires.latest_versions (record { of_records = c.requires.of_records; number = c.in_ok-number.ensures.number; taken = c.requires.taken; filled = filled })
    (returns-clause-kept g c) (returns-clause-others g c)
