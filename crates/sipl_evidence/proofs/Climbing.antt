-- The ancestors of a name that are asked for, one after another.
use Rattle.std.proofs.Common.{◌≡◌, ◌≢◌, ℕ, zero, suc, ◌-◌, ◌<◌, Bool, true, false, IsTrue, IsSome, List, [], ◌∷◌, None, Some, unwrap_or, ◌⊎◌, inl, inr, refl, ap, sym, ◌∙◌, arith}
use Rattle.sipl_names.specs.Labels.{Labels, parent_of, wildcard_at, wildcard_beside}
use Rattle.sipl_records.specs.declared.data.Data.{Data}
use Rattle.sipl_records.specs.declared.kind.Kind.TheVariants.{Exists}
use Rattle.sipl_evidence.specs.Items.{Item}
use Rattle.sipl_evidence.specs.Looks.{key, next_key, Asking, done}
use Rattle.sipl_evidence.specs.Answers.{at_encloser}
use Rattle.sipl_evidence.specs.Known.{known, advance}
use Rattle.sipl_evidence.proofs.Walking.{advance-known, advance-unknown}

-- the parent of a name; the root is its own
abbrev pub parent_or_root : Labels → Labels
parent_or_root name = unwrap_or (parent_of name) []

-- a name that lost its first label is its parent
pub parent-popped : (old new : Labels) (popped : Bool) → (IsTrue popped → parent_of old ≡ Some new) → (popped ≡ false → (old ≡ []) × (new ≡ [])) → parent_or_root old ≡ new
parent-popped old new true is root = ap (λ parent. unwrap_or parent []) (is refl)
parent-popped old new false is root =
    let at_root = root refl in
    ap parent_or_root at_root.0 ∙ sym at_root.1

pub wildcard-parent : (name parent : Labels) → name ≢ [] → parent_or_root name ≡ parent → wildcard_beside name ≡ wildcard_at parent
wildcard-parent [] parent some is = absurd (some refl)
wildcard-parent (label ∷ rest) parent some is = ap wildcard_at is

module _ (items : List Item) (next : Labels → Asking (List Data)) where
  -- the parent's existence is asked for
  pub climb-unknown : (more : ℕ) (name parent : Labels) → 0 < more → name ≢ [] → parent_or_root name ≡ parent → known items (key parent Exists) ≡ None → IsSome (next_key (at_encloser more name next)) × (advance items (at_encloser more name next) ≡ at_encloser more name next)
  climb-unknown zero name parent left some is unknown = absurd (omega (arith, left))
  climb-unknown (suc more) [] parent left some is unknown = absurd (some refl)
  climb-unknown (suc more) (label ∷ rest) parent left some is unknown =
      (refl, advance-unknown items (key rest Exists) _ (ap (λ p. known items (key p Exists)) is ∙ unknown))

  -- the parent exists
  pub climb-found : (more : ℕ) (name parent : Labels) (set : List Data) → 0 < more → name ≢ [] → parent_or_root name ≡ parent → known items (key parent Exists) ≡ Some set → set ≢ [] → advance items (at_encloser more name next) ≡ advance items (next parent)
  climb-found zero name parent set left some is found there = absurd (omega (arith, left))
  climb-found (suc more) [] parent set left some is found there = absurd (some refl)
  climb-found (suc more) (label ∷ rest) parent [] left some is found there = absurd (there refl)
  climb-found (suc more) (label ∷ rest) parent (datum ∷ others) left some is found there =
      advance-known items (key rest Exists) _ (datum ∷ others) (ap (λ p. known items (key p Exists)) is ∙ found)
      ∙ ap (λ p. advance items (next p)) is

  -- the parent does not exist
  pub climb-absent : (more : ℕ) (name parent : Labels) (set : List Data) → 0 < more → name ≢ [] → parent_or_root name ≡ parent → known items (key parent Exists) ≡ Some set → set ≡ [] → advance items (at_encloser more name next) ≡ advance items (at_encloser (more - 1) parent next)
  climb-absent zero name parent set left some is found none = absurd (omega (arith, left))
  climb-absent (suc more) [] parent set left some is found none = absurd (some refl)
  climb-absent (suc more) (label ∷ rest) parent set left some is found none =
      let less : more ≡ suc more - 1 = omega arith in
      advance-known items (key rest Exists) _ [] (ap (λ p. known items (key p Exists)) is ∙ found ∙ ap Some none)
      ∙ ap (λ p. advance items (at_encloser more p next)) is
      ∙ ap (λ n. advance items (at_encloser n parent next)) less

  -- no more are asked for, or the root has none
  pub climb-end : (more : ℕ) (name : Labels) → (more ≡ 0) ⊎ (name ≡ []) → at_encloser more name next ≡ done []
  climb-end zero name end = refl
  climb-end (suc more) name (inl end) = absurd (omega (arith, end))
  climb-end (suc more) name (inr end) = ap (λ n. at_encloser (suc more) n next) end
