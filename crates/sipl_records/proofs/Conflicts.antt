-- Records that conflict.
use Rattle.std.proofs.Common.{◌≡◌, Bool, true, false, ◌&&◌, ◌||◌, refl}
use Rattle.sipl_names.specs.Labels.{same_name}
use Rattle.sipl_names.proofs.Public.{same_name_decides}
use Rattle.sipl_records.specs.declared.kind.Kind.TheVariants.{Alias}
use Rattle.sipl_records.specs.declared.record.Record.{Record}
use Rattle.sipl_records.specs.Sets.{conflicts, has_own_kind, has_some_kind}
use Rattle.sipl_records.proofs.Keys.{same_name-sym}

and_first : (a b : Bool) → (a && b) ≡ true → a ≡ true
and_first true b h = refl
and_first false b h = h

and_swapped : (a b : Bool) → (a && b) ≡ (b && a)
and_swapped true true = refl
and_swapped true false = refl
and_swapped false true = refl
and_swapped false false = refl

or_swapped : (a b : Bool) → (a || b) ≡ (b || a)
or_swapped true true = refl
or_swapped true false = refl
or_swapped false true = refl
or_swapped false false = refl

both_swapped : (o a b : Bool) → (o && a && b) ≡ (o && b && a)
both_swapped true a b = and_swapped a b
both_swapped false a b = refl

pub conflicts-sym : (a b : Record) → conflicts a b ≡ conflicts b a
conflicts-sym a b =
    λ i. both i && or_swapped (has_own_kind Alias a.value) (has_own_kind Alias b.value) i where
      owners : same_name a.owner b.owner ≡ same_name b.owner a.owner
      owners = same_name-sym a.owner b.owner

      both : (same_name a.owner b.owner && has_some_kind a.value && has_some_kind b.value) ≡ (same_name b.owner a.owner && has_some_kind b.value && has_some_kind a.value)
      both = rw owners (both_swapped (same_name b.owner a.owner) (has_some_kind a.value) (has_some_kind b.value))

-- records that conflict have one owner
pub conflicts-owner : (a b : Record) → conflicts a b ≡ true → a.owner ≡ b.owner
conflicts-owner a b h =
    (same_name_decides a.owner b.owner).0 (and_first (same_name a.owner b.owner) (has_some_kind a.value) (and_first (same_name a.owner b.owner && has_some_kind a.value) (has_some_kind b.value) (and_first (same_name a.owner b.owner && has_some_kind a.value && has_some_kind b.value) (has_own_kind Alias a.value || has_own_kind Alias b.value) h)))
