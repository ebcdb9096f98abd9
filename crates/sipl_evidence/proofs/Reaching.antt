-- What a walk has reached: its answer, or a place that asks for a set that is lacking.
use Rattle.std.proofs.Common.{◌≡◌, ◌≢◌, ℕ, true, false, IsSome, List, Option, Some, None, unwrap_or, refl, ap, sym, subst, ◌∙◌}
use Rattle.std.specs.Option.{IsSomeAnd}
use Rattle.sipl_names.specs.Labels.{Labels}
use Rattle.sipl_records.specs.declared.data.Data.{Data}
use Rattle.sipl_records.specs.declared.kind.Kind.{Kind}
use Rattle.sipl_records.specs.declared.record.Key.{Key}
use Rattle.sipl_evidence.specs.declared.walk_place.Held.{Held}
use Rattle.sipl_evidence.specs.declared.walk_place.Held.TheVariants.{Lent, Own}
use Rattle.sipl_evidence.specs.declared.walk_place.Place.{Place}
use Rattle.sipl_evidence.specs.declared.walk_place.Stage.{Stage}
use Rattle.sipl_evidence.specs.Items.{Item}
use Rattle.sipl_evidence.specs.Known.{first_unknown, advance, known_result}
use Rattle.sipl_evidence.specs.Looks.{Asking, done, ask, next_key}
use Rattle.sipl_evidence.specs.WalkPlaces.{IsLentApart, IsLentBy, PlaceAsks, name_of, place_asking, stage_key}
use Rattle.sipl_evidence.specs.Walks.{WalkState, asking_from, walk_asking, walk_at}
use Rattle.sipl_evidence.proofs.Walking.{advance-idempotent, first_unknown-next_key, known_result-value_of, value_of}

-- a computation that asks for a set has no result yet
value_of-asks : (asking : Asking (List Data)) → IsSome (next_key asking) → value_of asking ≡ None
value_of-asks (done value) some = let never : false ≡ true = some in cc never
value_of-asks (ask k next) some = refl

some_and : (o : Option Key) (P Q : Key → Type 0) → ((k : Key) → P k → Q k) → IsSomeAnd o P → IsSomeAnd o Q
some_and None P Q weaker holds = holds
some_and (Some k) P Q weaker holds = weaker k holds

is_some : (o : Option Key) (P : Key → Type 0) → IsSomeAnd o P → IsSome o
is_some None P holds = absurd holds
is_some (Some k) P holds = refl

lent_apart : (held : Held) (from : Labels) (o : Option Key) → IsSomeAnd o (IsLentBy held) → IsLentApart held from → IsSomeAnd o (λ k. k.name ≢ from)
lent_apart (Lent name) from o some apart = some_and o (λ k. k.name ≡ name.now) (λ k. k.name ≢ from) (λ k is same. apart (sym is ∙ same)) some
lent_apart (Own name) from o some apart = absurd apart

module _ (items : List Item) (asking : Asking (List Data)) where
  pub answered-known : (set : List Data) → advance items asking ≡ done set → known_result items asking ≡ Some set
  answered-known set is = known_result-value_of items asking ∙ ap value_of is

  pub answered-unknown : (set : List Data) → advance items asking ≡ done set → first_unknown items asking ≡ None
  answered-unknown set is = first_unknown-next_key items asking ∙ ap next_key is

  module _ (place : Place) (kind : Kind) (asks : PlaceAsks place kind) (is : advance items asking ≡ place_asking place kind) where
    pub lacking-unknown : first_unknown items asking ≡ next_key (place_asking place kind)
    lacking-unknown = first_unknown-next_key items asking ∙ ap next_key is

    lacking-key : first_unknown items asking ≡ stage_key place.stage kind (name_of place.name)
    lacking-key = lacking-unknown ∙ asks.key

    pub lacking-some : IsSome (first_unknown items asking)
    lacking-some = subst IsSome (sym lacking-key) (is_some (stage_key place.stage kind (name_of place.name)) (IsLentBy place.name) asks.some)

    pub lacking-known : known_result items asking ≡ None
    lacking-known =
        known_result-value_of items asking ∙ ap value_of is
        ∙ value_of-asks (place_asking place kind) (subst IsSome lacking-unknown lacking-some)

    pub lacking-apart : (from : Labels) → IsLentApart place.name from → IsSomeAnd (first_unknown items asking) (λ k. k.name ≢ from)
    lacking-apart from apart =
        subst (λ o. IsSomeAnd o (λ k. k.name ≢ from)) (sym lacking-key)
        (lent_apart place.name from (stage_key place.stage kind (name_of place.name)) asks.some apart)

-- a walk that went on to a place asks for what the place does
pub moved-asking : (old new : WalkState) (own : Labels) (other : Option Labels) (name : Labels) (left : ℕ) (stage : Stage) → new ≡ walk_at (unwrap_or other old.name) old.kind left stage → own ≡ old.name → unwrap_or other own ≡ name → walk_asking new ≡ asking_from stage left old.kind name
moved-asking old new own other name left stage is same to =
    ap walk_asking is
    ∙ ap (λ n. asking_from stage left old.kind (unwrap_or other n)) (sym same)
    ∙ ap (asking_from stage left old.kind) to

pub moved-same : (items : List Item) (new old place : Asking (List Data)) → new ≡ place → advance items old ≡ place → advance items new ≡ advance items old
moved-same items new old place is reached =
    ap (advance items) (is ∙ sym reached) ∙ advance-idempotent items old
