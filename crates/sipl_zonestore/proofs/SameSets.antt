-- Sets compared datum by datum.
use Rattle.std.proofs.Common.{◌≡◌, true, false, List, [], ◌∷◌, ◌++◌, refl}
use lib.Pointwise.{pointwise}
use Rattle.sipl_records.specs.declared.data.Data.{Data}
use Rattle.sipl_records.specs.Sets.{same_data}
use Rattle.sipl_records.proofs.Public.{same_data-refl, same_set-Decides}

pub same_set-refl : (set : List Data) → pointwise same_data set set ≡ true
same_set-refl set = (same_set-Decides set set).1 refl

pub same_set-true : (a b : List Data) → pointwise same_data a b ≡ true → a ≡ b
same_set-true a b = (same_set-Decides a b).0

-- a set with one more datum is another set
pub same_set-push : (set : List Data) (value : Data) → pointwise same_data set (set ++ value ∷ []) ≡ false
same_set-push [] value = refl
same_set-push (first ∷ set) value = let rest : pointwise same_data set (set ++ value ∷ []) ≡ false = same_set-push set value in rw (same_data-refl first) rest
