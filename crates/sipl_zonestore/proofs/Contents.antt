-- The number and the data of a record set.
use Rattle.std.proofs.Common.{◌≡◌, ℕ, false, true, not, List, [], ◌∷◌, ◌++◌, refl}
use Rattle.std.specs.List.{filter}
use Rattle.sipl_records.specs.declared.data.Data.{Data}
use Rattle.sipl_records.specs.Sets.{same_data}
use Rattle.sipl_zonestore.specs.Numbers.{is_empty}
use Rattle.sipl_zonestore.specs.Content.{Content, no_content, carried, pushed, without}

pub is_empty-push : (values : List Data) (value : Data) → is_empty (values ++ value ∷ []) ≡ false
is_empty-push [] value = refl
is_empty-push (first ∷ values) value = refl

-- an empty set has the number 0 already
pub carried_twice : (number : ℕ) (values : List Data) → carried (carried number values).number values ≡ carried number values
carried_twice number [] = refl
carried_twice number (first ∷ values) = refl

pub carried_none : (number : ℕ) (values : List Data) → is_empty values ≡ true → no_content ≡ carried number values
carried_none number [] empty = refl
carried_none number (first ∷ values) empty = cc

-- what edits make of the content
pub carried_pushed : (number : ℕ) (value : Data) (set : Content) → carried number (set.values ++ value ∷ []) ≡ pushed number value (carried set.number set.values)
carried_pushed number value set = rw (is_empty-push set.values value) refl

pub carried_without : (value : Data) (set : Content) → carried set.number (filter (λ other. not (same_data value other)) set.values) ≡ without value (carried set.number set.values)
carried_without value set = by_case set.number set.values where
  by_case : (number : ℕ) (values : List Data) → carried number (filter (λ other. not (same_data value other)) values) ≡ without value (carried number values)
  by_case number [] = refl
  by_case number (first ∷ values) = refl
