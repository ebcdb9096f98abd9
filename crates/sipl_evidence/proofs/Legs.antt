-- What leads from one place of a walk to another.
use Rattle.std.proofs.Common.{◌≡◌, ℕ, zero, suc, ◌-◌, ◌<◌, false, true, List, [], ◌∷◌, IsSome, IsSomeAnd, Some, None, Result, Ok, Err, IfOk, OnErr, refl, ap, ◌∙◌, arith}
use Rattle.sipl_names.specs.Labels.{Labels}
use Rattle.sipl_records.specs.declared.data.Data.{Data}
use Rattle.sipl_records.specs.declared.kind.Kind.{Kind}
use Rattle.sipl_records.specs.declared.kind.Kind.TheVariants.{Exists}
use Rattle.sipl_evidence.specs.declared.walk_place.Held.TheVariants.{Own}
use Rattle.sipl_evidence.specs.declared.walk_place.Stage.TheVariants.{Ancestor}
use Rattle.sipl_evidence.specs.declared.reach.Leg.{Leg}
use Rattle.sipl_evidence.specs.declared.reach.Leg.TheVariants.{Answer as leg_answer, Lacking as leg_lacking, Target as leg_target}
use Rattle.sipl_evidence.specs.declared.reach.Reach.{Reach}
use Rattle.sipl_evidence.specs.declared.reach.Reach.TheVariants.{Answer as reach_answer, Lacking as reach_lacking}
use Rattle.sipl_evidence.specs.declared.visit.Visit.{Visit}
use Rattle.sipl_evidence.specs.declared.visit.Visit.TheVariants.{Answer, Target, LacksSet, LacksAlias, Nothing}
use Rattle.sipl_evidence.specs.Answers.{Next, asking_within, at_alias, at_encloser, at_name, at_source, max_ancestors, unless_exists}
use Rattle.sipl_evidence.specs.Items.{Item}
use Rattle.sipl_evidence.specs.Known.{known, advance}
use Rattle.sipl_evidence.specs.Looks.{Asking, key, next_key}
use Rattle.sipl_evidence.specs.WalkPlaces.{IsLeg, IsReach, IsVisit, PlaceAsks}
use Rattle.sipl_evidence.specs.Walks.{next_within}
use Rattle.sipl_evidence.proofs.Walking.{advance-known}

module _ (items : List Item) (one other : Asking (List Data)) (same : advance items one ≡ advance items other) where
  -- what is led to depends on how far a computation gets only
  pub IsVisit-same : (next : Next) (kind : Kind) (name : Labels) (otherwise : Asking (List Data)) (visit : Visit) → IsVisit items other next kind name otherwise visit → IsVisit items one next kind name otherwise visit
  IsVisit-same next kind name otherwise (Answer set) is = same ∙ is
  IsVisit-same None kind name otherwise (Target target) is = is
  IsVisit-same (Some follow) kind name otherwise (Target target) is = same ∙ is
  IsVisit-same next kind name otherwise LacksSet is = same ∙ is
  IsVisit-same next kind name otherwise LacksAlias is = (is.0, same ∙ is.1)
  IsVisit-same next kind name otherwise Nothing is = same ∙ is

  pub IsLeg-same : (left : ℕ) (kind : Kind) (leg : Leg) → IsLeg items other left kind leg → IsLeg items one left kind leg
  IsLeg-same left kind (leg_answer set) is = same ∙ is
  IsLeg-same left kind (leg_lacking place) is = (is.0, same ∙ is.1)
  IsLeg-same left kind (leg_target target) is = (is.0, same ∙ is.1)

  pub IsReach-same : (kind : Kind) (reach : Reach) → IsReach items other kind reach → IsReach items one kind reach
  IsReach-same kind (reach_answer set) is = same ∙ is
  IsReach-same kind (reach_lacking place) is = (is.0, same ∙ is.1)

module _ (items : List Item) where
  -- a set that is known to be empty, and a name that is known not to exist, are passed over
  pub set-passed : (next : Next) (kind : Kind) (name : Labels) (otherwise : Asking (List Data)) (set : List Data) → known items (key name kind) ≡ Some set → set ≡ [] → advance items (at_name next kind name otherwise) ≡ advance items (at_alias next name otherwise)
  set-passed next kind name otherwise set is none = advance-known items (key name kind) _ [] (is ∙ ap Some none)

  pub absence-passed : (ancestors : ℕ) (name : Labels) (next : Labels → Asking (List Data)) (found : List Data) → known items (key name Exists) ≡ Some found → found ≡ [] → advance items (unless_exists ancestors name next) ≡ advance items (at_encloser ancestors name next)
  absence-passed ancestors name next found is none = advance-known items (key name Exists) _ [] (is ∙ ap Some none)

-- what holds of a value that follows from another fact
pub IfOk-weaken : {T E : Type 0} (result : Result T E) (P Q : T → Type 0) → ((value : T) → P value → Q value) → IfOk result P → IfOk result Q
IfOk-weaken (Ok value) P Q weaker holds = weaker value holds
IfOk-weaken (Err error) P Q weaker holds = tt

-- what holds of each error
pub on_err : {T E P : Type 0} (result : Result T E) → P → OnErr result P
on_err (Ok value) holds = tt
on_err (Err error) holds = holds

-- an ancestor whose existence is asked for is the parent
pub ancestor-asks : (items : List Item) (name : Labels) (more left : ℕ) (kind : Kind) → IsSome (next_key (at_encloser more name (at_source (next_within max_ancestors left kind) kind))) → PlaceAsks (record { name = Own name; left = left; stage = Ancestor more }) kind
ancestor-asks items name zero left kind some = let never : false ≡ true = some in cc never
ancestor-asks items [] (suc more) left kind some = let never : false ≡ true = some in cc never
ancestor-asks items (label ∷ parent) (suc more) left kind some = record { some = tt; key = refl }

-- an alias is followed where one may be, and one fewer after it
pub followed : (items : List Item) (asking : Asking (List Data)) (ancestors left : ℕ) (kind : Kind) (target : Labels) → IsSomeAnd (next_within ancestors left kind) (λ follow. advance items asking ≡ advance items (follow target)) → (0 < left) × (advance items asking ≡ advance items (asking_within ancestors (left - 1) target kind))
followed items asking ancestors zero kind target is = absurd is
followed items asking ancestors (suc left) kind target is =
    let less : left ≡ suc left - 1 = omega arith in
    (omega arith, is ∙ ap (λ n. advance items (asking_within ancestors n target kind)) less)
