-- Places on walks, and what leads from one to another.
use Rattle.std.specs.Prelude.{◌≡◌, ◌≢◌, ℕ, ◌-◌, ◌<◌, IsSome, IsSomeAnd, List, [], Option, Some, option_map}
use Rattle.sipl_names.specs.Labels.{Labels, parent_of}
use Rattle.sipl_records.specs.declared.data.Data.{Data}
use Rattle.sipl_records.specs.declared.kind.Kind.{Kind}
use Rattle.sipl_records.specs.declared.kind.Kind.TheVariants.{Alias as alias_kind, Exists}
use Rattle.sipl_records.specs.declared.record.Key.{Key}
use Rattle.sipl_evidence.specs.declared.walk_place.Held.{Held}
use Rattle.sipl_evidence.specs.declared.walk_place.Held.TheVariants.{Lent, Own}
use Rattle.sipl_evidence.specs.declared.walk_place.Place.{Place}
use Rattle.sipl_evidence.specs.declared.walk_place.Stage.{Stage}
use Rattle.sipl_evidence.specs.declared.walk_place.Stage.TheVariants.{Set, Alias, Existence, Ancestor, WildcardSet, WildcardAlias}
use Rattle.sipl_evidence.specs.declared.reach.Climb.{Climb}
use Rattle.sipl_evidence.specs.declared.reach.Climb.TheVariants.{Wildcard, Lacking as climb_lacking, Nothing as climb_nothing}
use Rattle.sipl_evidence.specs.declared.reach.Leg.{Leg}
use Rattle.sipl_evidence.specs.declared.reach.Leg.TheVariants.{Answer as leg_answer, Lacking as leg_lacking, Target as leg_target}
use Rattle.sipl_evidence.specs.declared.reach.Reach.{Reach}
use Rattle.sipl_evidence.specs.declared.reach.Reach.TheVariants.{Answer as reach_answer, Lacking as reach_lacking}
use Rattle.sipl_evidence.specs.declared.visit.Visit.{Visit}
use Rattle.sipl_evidence.specs.declared.visit.Visit.TheVariants.{Answer, Target, LacksSet, LacksAlias, Nothing}
use Rattle.sipl_evidence.specs.Answers.{Next, at_alias, at_encloser, at_name, at_source, asking_within, max_ancestors}
use Rattle.sipl_evidence.specs.Items.{Item}
use Rattle.sipl_evidence.specs.Known.{advance}
use Rattle.sipl_evidence.specs.Looks.{Asking, done, key, next_key}
use Rattle.sipl_evidence.specs.Walks.{asking_from}

-- the name that is held
abbrev pub name_of : Held → Labels
name_of (Lent name) = name.now
name_of (Own name) = name

-- what is left of an answer at a place of a walk
abbrev pub place_asking : Place → Kind → Asking (List Data)
place_asking place kind = asking_from place.stage place.left kind (name_of place.name)

-- a name that is lent is that of the key
abbrev pub IsLentBy : Held → Key → Type 0
IsLentBy (Lent name) k = k.name ≡ name.now
IsLentBy (Own name) k = Unit {0}

-- a name is lent that differs from another one
abbrev pub IsLentApart : Held → Labels → Type 0
IsLentApart (Lent name) from = name.now ≢ from
IsLentApart (Own name) from = ⊥

-- the key of the set that is asked for at a stage, if there is one
abbrev pub stage_key : Stage → Kind → Labels → Option Key
stage_key Set kind name = Some (key name kind)
stage_key Alias kind name = Some (key name alias_kind)
stage_key Existence kind name = Some (key name Exists)
stage_key (Ancestor more) kind name = option_map (λ parent. key parent Exists) (parent_of name)
stage_key WildcardSet kind name = Some (key name kind)
stage_key WildcardAlias kind name = Some (key name alias_kind)

-- a place asks for the set of its stage: where it lends a name, for one of that name
pub record PlaceAsks (place : Place) (kind : Kind) : Type 0 where
  pub some : IsSomeAnd (stage_key place.stage kind (name_of place.name)) (IsLentBy place.name)
  pub key : next_key (place_asking place kind) ≡ stage_key place.stage kind (name_of place.name)

-- what a name's set and alias lead to, where this follows an alias, and that where there is neither
abbrev pub IsVisit : List Item → Asking (List Data) → Next → Kind → Labels → Asking (List Data) → Visit → Type 0
IsVisit items asking next kind name otherwise (Answer set) = advance items asking ≡ done set.now
IsVisit items asking next kind name otherwise (Target target) =
    IsSomeAnd next (λ follow. advance items asking ≡ advance items (follow target.now))
IsVisit items asking next kind name otherwise LacksSet =
    advance items asking ≡ at_name next kind name otherwise
IsVisit items asking next kind name otherwise LacksAlias =
    IsSome next × (advance items asking ≡ at_alias next name otherwise)
IsVisit items asking next kind name otherwise Nothing = advance items asking ≡ advance items otherwise

-- what the existence of ancestors leads to
abbrev pub IsClimb : List Item → Asking (List Data) → Next → Kind → Climb → Type 0
IsClimb items asking next kind (Wildcard name) =
    advance items asking ≡ advance items (at_name next kind name (done []))
IsClimb items asking next kind (climb_lacking name more) =
    IsSome (next_key (at_encloser more name (at_source next kind)))
    × (advance items asking ≡ at_encloser more name (at_source next kind))
IsClimb items asking next kind climb_nothing = advance items asking ≡ done []

-- what the sets of a name and of its wildcard lead to, where so many aliases may be followed
abbrev pub IsLeg : List Item → Asking (List Data) → ℕ → Kind → Leg → Type 0
IsLeg items asking left kind (leg_answer set) = advance items asking ≡ done set.now
IsLeg items asking left kind (leg_lacking place) =
    PlaceAsks place kind × (advance items asking ≡ place_asking place kind)
IsLeg items asking left kind (leg_target target) =
    (0 < left) × (advance items asking
    ≡ advance items (asking_within max_ancestors (left - 1) target.now kind))

-- what evidence leads to
abbrev pub IsReach : List Item → Asking (List Data) → Kind → Reach → Type 0
IsReach items asking kind (reach_answer set) = advance items asking ≡ done set.now
IsReach items asking kind (reach_lacking place) =
    PlaceAsks place kind × (advance items asking ≡ place_asking place kind)
