-- The keys that are asked for at the stages of a walk.
use Rattle.std.proofs.Common.{◌≡◌, Some, ◌⊎◌, inl, inr, ap}
use Rattle.sipl_names.specs.Labels.{Labels}
use Rattle.sipl_records.specs.declared.kind.Kind.{Kind}
use Rattle.sipl_records.specs.declared.kind.Kind.TheVariants.{Alias as alias_kind, Exists}
use Rattle.sipl_evidence.specs.declared.walk_place.Stage.{Stage}
use Rattle.sipl_evidence.specs.declared.walk_place.Stage.TheVariants.{Set, Alias, Existence, WildcardSet, WildcardAlias}
use Rattle.sipl_evidence.specs.Looks.{key}
use Rattle.sipl_evidence.specs.WalkPlaces.{stage_key}

module _ (stage : Stage) (kind : Kind) (name : Labels) where
  pub stage_key-set : (stage ≡ Set) ⊎ (stage ≡ WildcardSet) → stage_key stage kind name ≡ Some (key name kind)
  stage_key-set (inl is) = ap (λ s. stage_key s kind name) is
  stage_key-set (inr is) = ap (λ s. stage_key s kind name) is

  pub stage_key-alias : (stage ≡ Alias) ⊎ (stage ≡ WildcardAlias) → stage_key stage kind name ≡ Some (key name alias_kind)
  stage_key-alias (inl is) = ap (λ s. stage_key s kind name) is
  stage_key-alias (inr is) = ap (λ s. stage_key s kind name) is

  pub stage_key-existence : stage ≡ Existence → stage_key stage kind name ≡ Some (key name Exists)
  stage_key-existence is = ap (λ s. stage_key s kind name) is
