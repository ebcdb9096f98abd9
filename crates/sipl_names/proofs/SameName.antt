-- Names that are found the same are the same.
use Rattle.std.specs.Prelude.{◌≡◌}
use Rattle.std.specs.Bool.{Decides}
use lib.Pointwise.{pointwise_decides, bytes_decides}
use Rattle.sipl_names.specs.Labels.{Labels, same_name}

-- `==` of two names is true exactly where they are equal
pub same_name_decides : (a b : Labels) → Decides (same_name a b) (a ≡ b)
same_name_decides = pointwise_decides bytes_decides
