-- Records that are found equal are equal.
use Rattle.std.proofs.Common.{◌≡◌, Bool, true, false, not, List, refl, sym, ◌∙◌}
use lib.Pointwise.{pointwise, pointwise_decides}
use Rattle.sipl_records.specs.declared.record.Record.{Record}
use Rattle.sipl_records.specs.Sets.{same_record}
use Rattle.sipl_records.proofs.Public.{same_record-Decides}

pub equal_records : (a b : List Record) (differ : Bool) → differ ≡ not (pointwise same_record a b) → differ ≡ false → a ≡ b
equal_records a b differ is equal = (pointwise_decides same_record-Decides a b).0 (flipped (pointwise same_record a b) (sym is ∙ equal)) where
  flipped : (same : Bool) → not same ≡ false → same ≡ true
  flipped true _ = refl
  flipped false never = cc
