-- The search for the closest encloser of a name (RFC 4592, 3.3.1), on lists of records.
use Rattle.std.proofs.Common.{◌≡◌, ◌<◌, ℕ, Bool, true, false, IsTrue, List, [], ◌∷◌, length, Option, None, Some, refl, sym, ap, ◌∙◌, arith}
use Rattle.sipl_names.specs.Labels.{Labels, IsName, parent_of, wildcard_at, wildcard_beside}
use Rattle.sipl_names.proofs.Public.{labels-at_most_127}
use Rattle.sipl_records.specs.Sets.{exists_in, existence_of, set_of}
use Rattle.sipl_records.specs.declared.data.Data.{Data}
use Rattle.sipl_records.specs.declared.record.Record.{Record}
use Rattle.sipl_evidence.specs.Answers.{at_encloser, max_ancestors, unless_exists}
use Rattle.sipl_evidence.specs.Looks.{Asking, done, result_of}
use Rattle.sipl_evidence.proofs.Public.{at_encloser-all, max_ancestors-is}

module _ (records : List Record) (next : Labels → Asking (List Data)) where
  -- what follows whether a name exists
  abbrev after_existence : Asking (List Data) → Asking (List Data) → List Data → Asking (List Data)
  after_existence present absent found = elim found as (λ _. Asking (List Data)) [ datum ∷ others ↦ present | [] ↦ absent ]

  -- nothing follows where the name exists
  pub none-exists : (ancestors : ℕ) (name : Labels) → exists_in records name ≡ true → result_of (set_of records) (unless_exists ancestors name next) ≡ []
  none-exists ancestors name exists =
      ap (λ b. result_of (set_of records) (after_existence (done []) (at_encloser ancestors name next) (existence_of b))) exists

  -- all ancestors of a name that does not exist are asked for
  pub all-enclosers : (name : Labels) → IsName name → exists_in records name ≡ false → result_of (set_of records) (unless_exists max_ancestors name next) ≡ result_of (set_of records) (at_encloser (length name) name next)
  all-enclosers name valid absent =
      ap (λ b. result_of (set_of records) (after_existence (done []) (at_encloser max_ancestors name next) (existence_of b))) absent
      ∙ ap (result_of (set_of records)) (at_encloser-all max_ancestors name next (omega (arith, labels-at_most_127 name valid, max_ancestors-is)))

  -- the parent is the closest encloser where it exists
  pub encloser-parent : (name parent : Labels) → parent_of name ≡ Some parent → exists_in records parent ≡ true → result_of (set_of records) (at_encloser (length name) name next) ≡ result_of (set_of records) (next parent)
  encloser-parent [] parent is exists = let never : None ≡ Some parent = is in cc
  encloser-parent (label ∷ labels) parent is exists =
      let same : labels ≡ parent = cc in
      ap (λ b. result_of (set_of records) (after_existence (next labels) (at_encloser (length labels) labels next) (existence_of b))) (ap (exists_in records) same ∙ exists)
      ∙ ap (λ e. result_of (set_of records) (next e)) same

  -- else it is among those of the parent
  pub encloser-above : (name parent : Labels) → parent_of name ≡ Some parent → exists_in records parent ≡ false → result_of (set_of records) (at_encloser (length name) name next) ≡ result_of (set_of records) (at_encloser (length parent) parent next)
  encloser-above [] parent is absent = let never : None ≡ Some parent = is in cc
  encloser-above (label ∷ labels) parent is absent =
      let same : labels ≡ parent = cc in
      ap (λ b. result_of (set_of records) (after_existence (next labels) (at_encloser (length labels) labels next) (existence_of b))) (ap (exists_in records) same ∙ absent)
      ∙ ap (λ e. result_of (set_of records) (at_encloser (length e) e next)) same

-- the wildcard beside a name is that of its parent
pub beside-parent : (name parent : Labels) → parent_of name ≡ Some parent → wildcard_beside name ≡ wildcard_at parent
beside-parent name parent is = ap (λ (o : Option Labels). elim o as (λ _. Labels) [ Some parent ↦ wildcard_at parent | None ↦ [] ]) is

-- a name whose first label is dropped is its parent, which is shorter
pub parent-shorter : (name parent : Labels) → parent_of name ≡ Some parent → length parent < length name
parent-shorter [] parent is = let never : None ≡ Some parent = is in cc
parent-shorter (label ∷ labels) parent is = let same : labels ≡ parent = cc in omega (arith, ap length same)

pub dropped-parent : (name parent new : Labels) (dropped : Bool) → parent_of name ≡ Some parent → (IsTrue dropped → parent_of name ≡ Some new) → (dropped ≡ false → (name ≡ []) × (new ≡ [])) → new ≡ parent
dropped-parent name parent new true is popped root = let same : Some new ≡ Some parent = sym (popped refl) ∙ is in cc
dropped-parent name parent new false is popped root =
    let never : None ≡ Some parent = sym (ap parent_of (root refl).0) ∙ is in cc
