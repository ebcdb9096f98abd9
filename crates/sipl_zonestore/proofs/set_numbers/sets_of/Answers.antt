use Rattle.std.proofs.Common.{◌≡◌, Some, if◌then◌else◌, refl, ap, sym, ◌∙◌}
use Rattle.sipl_records.specs.declared.record.Key.{Key}
use Rattle.sipl_records.specs.Sets.{key_of}
use Rattle.sipl_records.proofs.Public.{has_key-key_of, is_key}
use Rattle.sipl_zonestore.specs.Content.{pushed}
use Rattle.sipl_zonestore.specs.SetTable.{content_of}
use Rattle.sipl_zonestore.proofs.Comparing.{key-of_kind, key-of_none}
use Rattle.sipl_zonestore.proofs.TableSteps.{made-none, made-some}
use Rattle.sipl_zonestore.proofs.set_numbers.sets_of.Goals as goal
use Rattle.sipl_zonestore.proofs.set_numbers.sets_of.Goals.{in-Some+in_ok-push_to_set, in_default}

pub loop-record-preserved : goal.loop-record-preserved
loop-record-preserved c = elim c.match-kind.branch [
  | in-Some+in_ok-push_to_set w ↦
      let own : Key = record { name = c.record-item.result.owner; kind = w.in-Some.kind } in
      let key_is : key_of c.record-item.result ≡ Some own = key-of_kind c.record-item.result w.in-Some.kind (sym c.kind.ensures ∙ w.in-Some.is) in
      rw w.sets-is (made-some c.loop-record.sets _ c.args.old.now c.args.records.now c.loop-record.record-index c.record-item.result own w.get_near-number.result.0 c.record-item.result.value c.loop-record-test.true c.record-item.is key_is w.get_near-number.ensures.number refl c.loop-record.invariant (λ key. w.in_ok-push_to_set.ensures.content key ∙ ap (λ b. if b then pushed w.get_near-number.result.0 c.record-item.result.value (content_of c.loop-record.sets key) else content_of c.loop-record.sets key) (has_key-key_of key c.record-item.result ∙ ap (is_key key) key_is)))
  | in_default w ↦ rw w.sets-is (made-none c.loop-record.sets c.args.old.now c.args.records.now c.loop-record.record-index c.record-item.result c.loop-record-test.true c.record-item.is (key-of_none c.record-item.result (sym c.kind.ensures ∙ w.in_default.is)) c.loop-record.invariant)
]
