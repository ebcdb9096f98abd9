-- One step of an answer over aliases and by wildcards.
use Rattle.std.proofs.Common.{◌≡◌, ◌≢◌, ℕ, zero, suc, ◌+◌, ◌≤◌, List, [], ◌∷◌, ◌++◌, length, Option, Some, None, inl, inr, refl, ap, ◌∙◌, arith}
use Rattle.sipl_names.specs.Labels.{Labels, wildcard_at}
use Rattle.sipl_records.specs.declared.data.Data.{Data}
use Rattle.sipl_records.specs.declared.kind.Kind.{Kind}
use Rattle.sipl_records.specs.declared.kind.Kind.TheVariants.{Alias, Exists}
use Rattle.sipl_evidence.specs.Looks.{Look, key, Asking, done, result_of}
use Rattle.sipl_evidence.specs.Answers.{Next, answering, asking_within, at_alias, at_encloser, at_name, at_source, first_target, unless_exists}
use Rattle.sipl_evidence.specs.Enclosers.{FollowsNone, IsNowhere, IsClosest, IsSynthesized}
use Rattle.sipl_evidence.specs.Walks.{next_within}

-- an answer is one step, whatever number of aliases may be followed
pub asking_within-is : (ancestors left : ℕ) (name : Labels) (kind : Kind) → asking_within ancestors left name kind ≡ answering ancestors (next_within ancestors left kind) kind name
asking_within-is ancestors zero name kind = refl
asking_within-is ancestors (suc left) name kind = refl

-- what follows a set, an alias, and existence
abbrev after_set : Asking (List Data) → List Data → Asking (List Data)
after_set otherwise set = elim set as (λ _. Asking (List Data)) [ datum ∷ others ↦ done (datum ∷ others) | [] ↦ otherwise ]

abbrev after_alias : (Labels → Asking (List Data)) → Asking (List Data) → Option Labels → Asking (List Data)
after_alias next otherwise found = elim found as (λ _. Asking (List Data)) [ Some target ↦ next target | None ↦ otherwise ]

abbrev after_found : Asking (List Data) → Asking (List Data) → List Data → Asking (List Data)
after_found there absent found = elim found as (λ _. Asking (List Data)) [ datum ∷ others ↦ there | [] ↦ absent ]

module _ (look : Look) where
  set-some : (next : Next) (kind : Kind) (name : Labels) (otherwise : Asking (List Data)) (set : List Data) → look (key name kind) ≡ set → set ≢ [] → result_of look (at_name next kind name otherwise) ≡ set
  set-some next kind name otherwise [] is some = absurd (some refl)
  set-some next kind name otherwise (datum ∷ others) is some = ap (λ s. result_of look (after_set (at_alias next name otherwise) s)) is

  set-none : (next : Next) (kind : Kind) (name : Labels) (otherwise : Asking (List Data)) → look (key name kind) ≡ [] → result_of look (at_name next kind name otherwise) ≡ result_of look (at_alias next name otherwise)
  set-none next kind name otherwise none = ap (λ s. result_of look (after_set (at_alias next name otherwise) s)) none

  alias-some : (next : Labels → Asking (List Data)) (name target : Labels) (otherwise : Asking (List Data)) → first_target (look (key name Alias)) ≡ Some target → result_of look (at_alias (Some next) name otherwise) ≡ result_of look (next target)
  alias-some next name target otherwise to = ap (λ t. result_of look (after_alias next otherwise t)) to

  alias-none : (ancestors left : ℕ) (kind : Kind) (name : Labels) (otherwise : Asking (List Data)) → FollowsNone look left name → result_of look (at_alias (next_within ancestors left kind) name otherwise) ≡ result_of look otherwise
  alias-none ancestors zero kind name otherwise none = refl
  alias-none ancestors (suc left) kind name otherwise (inl last) = absurd (omega (arith, last))
  alias-none ancestors (suc left) kind name otherwise (inr to) = ap (λ t. result_of look (after_alias (λ target. asking_within ancestors left target kind) otherwise t)) to

  found-some : (there absent : Asking (List Data)) (set : List Data) → set ≢ [] → result_of look (after_found there absent set) ≡ result_of look there
  found-some there absent [] some = absurd (some refl)
  found-some there absent (datum ∷ others) some = refl

  found-none : (there absent : Asking (List Data)) (set : List Data) → set ≡ [] → result_of look (after_found there absent set) ≡ result_of look absent
  found-none there absent set none = ap (λ s. result_of look (after_found there absent s)) none

  -- the nearest ancestor that exists is found
  encloser-found : (ancestors : ℕ) (below encloser : Labels) (next : Labels → Asking (List Data)) → length below ≤ ancestors → IsClosest look below encloser → result_of look (at_encloser ancestors (below ++ encloser) next) ≡ result_of look (next encloser)
  encloser-found zero [] encloser next within closest = absurd (closest.apart refl)
  encloser-found zero (label ∷ below) encloser next within closest = absurd (omega (arith, within))
  encloser-found (suc more) [] encloser next within closest = absurd (closest.apart refl)
  encloser-found (suc more) (label ∷ []) encloser next within closest = found-some (next encloser) (at_encloser more encloser next) (look (key encloser Exists)) closest.exists
  encloser-found (suc more) (label ∷ second ∷ below) encloser next within closest =
      let parent : Labels = (second ∷ below) ++ encloser in
      let absent : look (key parent Exists) ≡ [] = closest.nearest (label ∷ []) (second ∷ below) refl (λ e. cc) in
      found-none (next parent) (at_encloser more parent next) (look (key parent Exists)) absent
      ∙ encloser-found more (second ∷ below) encloser next (omega (arith, within)) (record {
        apart = λ e. cc;
        exists = closest.exists;
        nearest = λ labels rest is. closest.nearest (label ∷ labels) rest (ap (λ ls. label ∷ ls) is);
      })

  -- where no ancestor exists, none is found
  encloser-none : (ancestors : ℕ) (name : Labels) (next : Labels → Asking (List Data)) → IsNowhere look name → result_of look (at_encloser ancestors name next) ≡ []
  encloser-none zero name next nowhere = refl
  encloser-none (suc more) [] next nowhere = refl
  encloser-none (suc more) (label ∷ parent) next nowhere =
      found-none (next parent) (at_encloser more parent next) (look (key parent Exists)) (nowhere (label ∷ []) parent refl)
      ∙ encloser-none more parent next (λ labels rest is. nowhere (label ∷ labels) rest (ap (λ ls. label ∷ ls) is))

  module _ (ancestors : ℕ) (kind : Kind) (name : Labels) where
    -- the set of the name is the answer where it has data
    pub own-answer : (left : ℕ) → look (key name kind) ≢ [] → result_of look (asking_within ancestors left name kind) ≡ look (key name kind)
    own-answer left some =
        ap (result_of look) (asking_within-is ancestors left name kind)
        ∙ set-some (next_within ancestors left kind) kind name _ (look (key name kind)) refl some

    -- the answer is that of the alias's target
    pub alias-answer : (target : Labels) (left : ℕ) → look (key name kind) ≡ [] → first_target (look (key name Alias)) ≡ Some target → result_of look (asking_within ancestors (left + 1) name kind) ≡ result_of look (asking_within ancestors left target kind)
    alias-answer target left none to =
        let one_more : left + 1 ≡ suc left = omega arith in
        let next : Labels → Asking (List Data) = λ t. asking_within ancestors left t kind in
        ap (λ more. result_of look (asking_within ancestors more name kind)) one_more
        ∙ set-none (Some next) kind name _ none
        ∙ alias-some next name target _ to

    -- without data and alias, what follows is whether the name exists
    neither : (left : ℕ) → look (key name kind) ≡ [] → FollowsNone look left name → result_of look (asking_within ancestors left name kind) ≡ result_of look (unless_exists ancestors name (at_source (next_within ancestors left kind) kind))
    neither left none follows =
        ap (result_of look) (asking_within-is ancestors left name kind)
        ∙ set-none (next_within ancestors left kind) kind name _ none
        ∙ alias-none ancestors left kind name _ follows

    -- a name that exists has no other answer
    pub present-answer : (left : ℕ) → look (key name kind) ≡ [] → FollowsNone look left name → look (key name Exists) ≢ [] → result_of look (asking_within ancestors left name kind) ≡ []
    present-answer left none follows exists =
        neither left none follows
        ∙ found-some (done []) (at_encloser ancestors name (at_source (next_within ancestors left kind) kind)) (look (key name Exists)) exists

    -- nor has one without an ancestor that exists
    pub nowhere-answer : (left : ℕ) → look (key name kind) ≡ [] → FollowsNone look left name → IsNowhere look name → result_of look (asking_within ancestors left name kind) ≡ []
    nowhere-answer left none follows nowhere =
        let source : Labels → Asking (List Data) = at_source (next_within ancestors left kind) kind in
        neither left none follows
        ∙ found-none (done []) (at_encloser ancestors name source) (look (key name Exists)) (nowhere [] name refl)
        ∙ encloser-none ancestors name source nowhere

  module _ (ancestors : ℕ) (kind : Kind) (below encloser : Labels) where
    -- what is synthesized is at the wildcard
    source-answer : (left : ℕ) → IsSynthesized look ancestors left kind below encloser → result_of look (asking_within ancestors left (below ++ encloser) kind) ≡ result_of look (at_source (next_within ancestors left kind) kind encloser)
    source-answer left is =
        let name : Labels = below ++ encloser in
        let source : Labels → Asking (List Data) = at_source (next_within ancestors left kind) kind in
        neither ancestors kind name left is.no_data is.no_alias
        ∙ found-none (done []) (at_encloser ancestors name source) (look (key name Exists)) (is.closest.nearest [] below refl is.closest.apart)
        ∙ encloser-found ancestors below encloser source is.within is.closest

    pub wildcard-own : (left : ℕ) → IsSynthesized look ancestors left kind below encloser → look (key (wildcard_at encloser) kind) ≢ [] → result_of look (asking_within ancestors left (below ++ encloser) kind) ≡ look (key (wildcard_at encloser) kind)
    wildcard-own left is some =
        source-answer left is
        ∙ set-some (next_within ancestors left kind) kind (wildcard_at encloser) (done []) (look (key (wildcard_at encloser) kind)) refl some

    pub wildcard-alias : (target : Labels) (left : ℕ) → IsSynthesized look ancestors (left + 1) kind below encloser → look (key (wildcard_at encloser) kind) ≡ [] → first_target (look (key (wildcard_at encloser) Alias)) ≡ Some target → result_of look (asking_within ancestors (left + 1) (below ++ encloser) kind) ≡ result_of look (asking_within ancestors left target kind)
    wildcard-alias target left is none to =
        let one_more : left + 1 ≡ suc left = omega arith in
        let next : Labels → Asking (List Data) = λ t. asking_within ancestors left t kind in
        source-answer (left + 1) is
        ∙ ap (λ more. result_of look (at_source (next_within ancestors more kind) kind encloser)) one_more
        ∙ set-none (Some next) kind (wildcard_at encloser) (done []) none
        ∙ alias-some next (wildcard_at encloser) target (done []) to

    pub wildcard-none : (left : ℕ) → IsSynthesized look ancestors left kind below encloser → look (key (wildcard_at encloser) kind) ≡ [] → FollowsNone look left (wildcard_at encloser) → result_of look (asking_within ancestors left (below ++ encloser) kind) ≡ []
    wildcard-none left is none follows =
        source-answer left is
        ∙ set-none (next_within ancestors left kind) kind (wildcard_at encloser) (done []) none
        ∙ alias-none ancestors left kind (wildcard_at encloser) (done []) follows
