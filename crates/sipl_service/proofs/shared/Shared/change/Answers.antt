use Rattle.std.proofs.Common.{◌≡◌, false, Option, None, Some, IfSome, Bor, sym, subst, arith}
use Rattle.std.specs.Option.{option_copied}
use Rattle.sipl_records.specs.Sets.{same_key}
use Rattle.sipl_records.specs.declared.record.Key.{Key}
use Rattle.sipl_zonestore.specs.Store.{number_in}
use Rattle.sipl_service.specs.LatestVersions.{SharedState, key_edited, latest_at, latest_of}
use Rattle.sipl_service.proofs.Latest.{all-stay, latest_versions-after, others-stay}
use Rattle.sipl_service.proofs.shared.Shared.change.Goals.{then-edited-gt0, else-edited-gt0}
use Rattle.sipl_service.proofs.shared.Shared.change.Goals as goal

pub take_out_changed-requires : goal.take_out_changed-requires
take_out_changed-requires c = by c.args.key c.requires.key
  where
    by : (key : Option (Bor Key)) → option_copied key ≡ key_edited c.args.new.value.edit
        → IfSome key (λ key. (other : Key) → same_key key.now other ≡ false → latest_at (number_in c.change.new.book.store other) (latest_of c.self.inside.latest_versions.table.entries other) ≡ latest_of c.self.inside.latest_versions.table.entries other)
    by None same = tt
    by (Some key) same = others-stay c.args.new.value.edit c.self.inside.book c.change.new.book c.in_ok-edited.edited.done c.in_ok-edited.ensures.changed (latest_of c.self.inside.latest_versions.table.entries) key.now c.self.invariant (sym same)

pub invariant_of-self-then-edited-gt0 : goal.invariant_of-self-then-edited-gt0
invariant_of-self-then-edited-gt0 c =
    latest_versions-after c.args.new.value.edit c.self.inside.book c.change.new.book c.in_ok-edited.edited.done c.in_ok-edited.ensures.changed
    (latest_of c.self.inside.latest_versions.table.entries) (latest_of c.take_out_changed.new.self.table.entries) c.self.invariant c.take_out_changed.ensures

pub invariant_of-self-else-edited-gt0 : goal.invariant_of-self-else-edited-gt0
invariant_of-self-else-edited-gt0 c =
    let latest_versions = latest_of c.self.inside.latest_versions.table.entries in
    latest_versions-after c.args.new.value.edit c.self.inside.book c.change.new.book c.in_ok-edited.edited.done c.in_ok-edited.ensures.changed latest_versions latest_versions c.self.invariant
    (all-stay c.args.new.value.edit c.self.inside.book c.change.new.book c.in_ok-edited.edited.done c.in_ok-edited.ensures.changed latest_versions c.self.invariant (omega (arith, c.if-edited-gt0.false)))

-- the latest versions after an edit
abbrev AreLeft : SharedState → SharedState → Type 0
AreLeft old now = (key : Key) → latest_of now.latest_versions key ≡ latest_at (number_in now.book.store key) (latest_of old.latest_versions key)

pub returns-clause-latest_versions : goal.returns-clause-latest_versions
returns-clause-latest_versions c =
    elim c.if-edited-gt0.branch [
      | then-edited-gt0 w ↦ subst (λ old. AreLeft old c.if-edited-gt0.self) c.self.view_is (subst (AreLeft (record { book = c.self.inside.book; latest_versions = c.self.inside.latest_versions.table.entries; is_stopped = c.self.inside.is_stopped })) (sym w.self-is) w.take_out_changed.ensures)
      | else-edited-gt0 w ↦ subst (λ old. AreLeft old c.if-edited-gt0.self) c.self.view_is (subst (AreLeft (record { book = c.self.inside.book; latest_versions = c.self.inside.latest_versions.table.entries; is_stopped = c.self.inside.is_stopped })) (sym w.self-is)
          (all-stay c.args.new.value.edit c.self.inside.book c.change.new.book c.in_ok-edited.edited.done c.in_ok-edited.ensures.changed (latest_of c.self.inside.latest_versions.table.entries) c.self.invariant (omega (arith, w.if-edited-gt0.false))))
    ]
