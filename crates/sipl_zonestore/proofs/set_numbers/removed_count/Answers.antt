use Rattle.std.proofs.Common.{not, ap, sym, ◌∙◌}
use Rattle.std.specs.List.{list_any}
use Rattle.sipl_records.specs.Sets.{same_data}
use Rattle.sipl_zonestore.proofs.Comparing.{key-of_kind, key-of_none}
use Rattle.sipl_zonestore.proofs.TableSteps.{bool_byte-is, keys_left-length, keys_left-none}
use Rattle.sipl_zonestore.proofs.set_numbers.removed_count.Goals as goal

pub returns-in_default : goal.returns-in_default
returns-in_default c = sym (keys_left-none c.args.sets.now c.args.old.now (key-of_none c.args.old.now (sym c.kind.ensures ∙ c.in_default.is)))

pub returns : goal.returns
returns c =
    c.from.ensures ∙ bool_byte-is c.has_other.result
    ∙ sym (keys_left-length c.args.sets.now c.args.old.now (record { name = c.args.old.now.owner; kind = c.in-Some.kind }) c.has_other.result (key-of_kind c.args.old.now c.in-Some.kind (sym c.kind.ensures ∙ c.in-Some.is)) (ap (list_any (λ other. not (same_data c.args.old.now.value other))) (sym c.values.ensures) ∙ sym c.has_other.ensures))
