-- Each name is in a case, and in one only.
use Rattle.std.proofs.Common.{◌≡◌, ◌≢◌, ℕ, zero, suc, ◌+◌, ◌≤◌, List, [], ◌∷◌, ◌++◌, length, length-append, Option, Some, None, ◌⊎◌, inl, inr, refl, sym, ap, subst, ◌∙◌, arith}
use Rattle.sipl_names.proofs.Public.{labels-at_most_127}
use Rattle.sipl_names.specs.Labels.{Labels, IsName, wildcard_at}
use Rattle.sipl_records.specs.declared.data.Data.{Data}
use Rattle.sipl_records.specs.declared.kind.Kind.{Kind}
use Rattle.sipl_records.specs.declared.kind.Kind.TheVariants.{Alias, Exists}
use Rattle.sipl_evidence.proofs.Public.{max_ancestors-is}
use Rattle.sipl_evidence.specs.Answers.{first_target, max_ancestors}
use Rattle.sipl_evidence.specs.Enclosers.{FollowsNone, IsClosest, IsNowhere, IsSynthesized}
use Rattle.sipl_evidence.specs.Looks.{Look, key}
use Rattle.sipl_laws.specs.NameCases.{NameCase, has_data, is_alias, exists, is_nowhere, wildcard_has_data, wildcard_is_alias, wildcard_has_none, number_of}
use Rattle.sipl_laws.proofs.Closest.{IsOneOf, is_one_of, Encloser, sought}

module _ (look : Look) (left : ℕ) where
  -- the first alias of a name is followed
  abbrev Follows : Labels → Type 0
  Follows name = (target : Labels) × (fewer : ℕ) × (left ≡ fewer + 1) × (first_target (look (key name Alias)) ≡ Some target)

  follows-or : (name : Labels) → FollowsNone look left name ⊎ Follows name
  follows-or name = by left refl (first_target (look (key name Alias))) refl
    where
      by : (more : ℕ) → left ≡ more → (first : Option Labels) → first_target (look (key name Alias)) ≡ first → FollowsNone look left name ⊎ Follows name
      by zero end first to = inl (inl end)
      by (suc fewer) more None to = inl (inr to)
      by (suc fewer) more (Some target) to = inr (target, fewer, omega (arith, more), to)

  module _ (kind : Kind) (name : Labels) where
    -- of what is synthesized there are three cases
    wildcard-case : (ancestors : ℕ) (below encloser : Labels) → name ≡ below ++ encloser → IsSynthesized look ancestors left kind below encloser → NameCase look ancestors left kind name
    wildcard-case ancestors below encloser at is = by (is_one_of (look (key (wildcard_at encloser) kind)))
      where
        next : look (key (wildcard_at encloser) kind) ≡ [] → FollowsNone look left (wildcard_at encloser) ⊎ Follows (wildcard_at encloser) → NameCase look ancestors left kind name
        next none (inl follows) = wildcard_has_none below encloser at is none follows
        next none (inr (target, fewer, more, to)) = wildcard_is_alias below encloser target fewer more at is none to

        by : IsOneOf (look (key (wildcard_at encloser) kind)) → NameCase look ancestors left kind name
        by (inl none) = next none (follows-or (wildcard_at encloser))
        by (inr some) = wildcard_has_data below encloser at is some

    module _ (is_name : IsName name) where
      absent-case : look (key name kind) ≡ [] → FollowsNone look left name → IsNowhere look name ⊎ Encloser look name → NameCase look max_ancestors left kind name
      absent-case none follows (inl nowhere) = is_nowhere none follows nowhere
      absent-case none follows (inr (below, encloser, at, closest)) =
          let few : length name ≤ 127 = labels-at_most_127 name is_name in
          let long : length name ≡ length below + length encloser = ap length at ∙ length-append below encloser in
          let most : max_ancestors ≡ 127 = max_ancestors-is in
          wildcard-case max_ancestors below encloser at (record {
            no_data = subst (λ n. look (key n kind) ≡ []) at none;
            no_alias = subst (λ n. FollowsNone look left n) at follows;
            closest = closest;
            within = omega (arith, few, long, most);
          })

      pub case-of : NameCase look max_ancestors left kind name
      case-of = by (is_one_of (look (key name kind)))
        where
          there : look (key name kind) ≡ [] → FollowsNone look left name → IsOneOf (look (key name Exists)) → NameCase look max_ancestors left kind name
          there none follows (inl absent) = absent-case none follows (sought look name absent)
          there none follows (inr some) = exists none follows some

          next : look (key name kind) ≡ [] → FollowsNone look left name ⊎ Follows name → NameCase look max_ancestors left kind name
          next none (inl follows) = there none follows (is_one_of (look (key name Exists)))
          next none (inr (target, fewer, more, to)) = is_alias target fewer more none to

          by : IsOneOf (look (key name kind)) → NameCase look max_ancestors left kind name
          by (inl none) = next none (follows-or name)
          by (inr some) = has_data some

  -- the number of the case, by what is looked up
  abbrev followed : ℕ → Option Labels → Option Labels
  followed zero first = None
  followed (suc fewer) first = first

  abbrev nearer : Labels → List Data → Option Labels → Option Labels
  nearer parent (datum ∷ others) above = Some parent
  nearer parent [] above = above

  abbrev nearest : Labels → Option Labels
  nearest [] = None
  nearest (label ∷ parent) = nearer parent (look (key parent Exists)) (nearest parent)

  abbrev number_by : List Data → Option Labels → ℕ → ℕ → ℕ → ℕ
  number_by (datum ∷ others) first one two three = one
  number_by [] (Some target) one two three = two
  number_by [] None one two three = three

  abbrev number_at : Kind → Labels → ℕ → ℕ → ℕ → ℕ
  number_at kind name one two three = number_by (look (key name kind)) (followed left (first_target (look (key name Alias)))) one two three

  abbrev number_above : Kind → Option Labels → ℕ
  number_above kind None = 4
  number_above kind (Some encloser) = number_at kind (wildcard_at encloser) 5 6 7

  abbrev number_unless : Kind → List Data → Option Labels → ℕ
  number_unless kind (datum ∷ others) encloser = 3
  number_unless kind [] encloser = number_above kind encloser

  abbrev number_found : Kind → Labels → ℕ
  number_found kind name = number_at kind name 1 2 (number_unless kind (look (key name Exists)) (nearest name))

  none-followed : (name : Labels) → FollowsNone look left name → followed left (first_target (look (key name Alias))) ≡ None
  none-followed name (inl end) = ap (λ more. followed more (first_target (look (key name Alias)))) end
  none-followed name (inr to) = ap (λ first. followed left first) to ∙ by left
    where
      by : (more : ℕ) → followed more None ≡ None
      by zero = refl
      by (suc fewer) = refl

  one-followed : (name target : Labels) (fewer : ℕ) → left ≡ fewer + 1 → first_target (look (key name Alias)) ≡ Some target → followed left (first_target (look (key name Alias))) ≡ Some target
  one-followed name target fewer more to = ap (λ first. followed left first) to ∙ by left more
    where
      by : (some : ℕ) → some ≡ fewer + 1 → followed some (Some target) ≡ Some target
      by zero end = absurd (omega (arith, end))
      by (suc less) is = refl

  module _ (kind : Kind) where
    with-data : (set : List Data) (first : Option Labels) (one two three : ℕ) → set ≢ [] → number_by set first one two three ≡ one
    with-data [] first one two three some = absurd (some refl)
    with-data (datum ∷ others) first one two three some = refl

    with-alias : (name target : Labels) (fewer one two three : ℕ) → left ≡ fewer + 1 → look (key name kind) ≡ [] → first_target (look (key name Alias)) ≡ Some target → number_at kind name one two three ≡ two
    with-alias name target fewer one two three more none to =
        ap (λ set. number_by set (followed left (first_target (look (key name Alias)))) one two three) none
        ∙ ap (λ first. number_by [] first one two three) (one-followed name target fewer more to)

    with-neither : (name : Labels) (one two three : ℕ) → look (key name kind) ≡ [] → FollowsNone look left name → number_at kind name one two three ≡ three
    with-neither name one two three none follows =
        ap (λ set. number_by set (followed left (first_target (look (key name Alias)))) one two three) none
        ∙ ap (λ first. number_by [] first one two three) (none-followed name follows)

    that-exists : (set : List Data) (encloser : Option Labels) → set ≢ [] → number_unless kind set encloser ≡ 3
    that-exists [] encloser some = absurd (some refl)
    that-exists (datum ∷ others) encloser some = refl

    nowhere-nearest : (name : Labels) → IsNowhere look name → nearest name ≡ None
    nowhere-nearest [] nowhere = refl
    nowhere-nearest (label ∷ parent) nowhere =
        ap (λ set. nearer parent set (nearest parent)) (nowhere (label ∷ []) parent refl)
        ∙ nowhere-nearest parent (λ labels rest is. nowhere (label ∷ labels) rest (ap (λ ls. label ∷ ls) is))

    nearer-some : (parent : Labels) (set : List Data) (above : Option Labels) → set ≢ [] → nearer parent set above ≡ Some parent
    nearer-some parent [] above some = absurd (some refl)
    nearer-some parent (datum ∷ others) above some = refl

    closest-nearest : (below encloser : Labels) → IsClosest look below encloser → nearest (below ++ encloser) ≡ Some encloser
    closest-nearest [] encloser closest = absurd (closest.apart refl)
    closest-nearest (label ∷ []) encloser closest = nearer-some encloser (look (key encloser Exists)) (nearest encloser) closest.exists
    closest-nearest (label ∷ second ∷ below) encloser closest =
        let parent : Labels = (second ∷ below) ++ encloser in
        let absent : look (key parent Exists) ≡ [] = closest.nearest (label ∷ []) (second ∷ below) refl (λ e. cc) in
        ap (λ set. nearer parent set (nearest parent)) absent
        ∙ closest-nearest (second ∷ below) encloser (record {
          apart = λ e. cc;
          exists = closest.exists;
          nearest = λ labels rest is. closest.nearest (label ∷ labels) rest (ap (λ ls. label ∷ ls) is);
        })

    -- what is synthesized has the number of its wildcard
    synthesized-number : (ancestors : ℕ) (below encloser name : Labels) → name ≡ below ++ encloser → IsSynthesized look ancestors left kind below encloser → number_found kind name ≡ number_at kind (wildcard_at encloser) 5 6 7
    synthesized-number ancestors below encloser name at is =
        ap (number_found kind) at
        ∙ with-neither (below ++ encloser) 1 2 _ is.no_data is.no_alias
        ∙ ap (λ set. number_unless kind set (nearest (below ++ encloser))) (is.closest.nearest [] below refl is.closest.apart)
        ∙ ap (number_above kind) (closest-nearest below encloser is.closest)

    module _ (ancestors : ℕ) (name : Labels) where
      found-number : (case : NameCase look ancestors left kind name) → number_found kind name ≡ number_of case
      found-number (has_data some) = with-data (look (key name kind)) _ 1 2 _ some
      found-number (is_alias target fewer more none to) = with-alias name target fewer 1 2 _ more none to
      found-number (exists none follows some) = with-neither name 1 2 _ none follows ∙ that-exists (look (key name Exists)) (nearest name) some
      found-number (is_nowhere none follows nowhere) =
          with-neither name 1 2 _ none follows
          ∙ ap (λ set. number_unless kind set (nearest name)) (nowhere [] name refl)
          ∙ ap (number_above kind) (nowhere-nearest name nowhere)
      found-number (wildcard_has_data below encloser at is some) =
          synthesized-number ancestors below encloser name at is ∙ with-data (look (key (wildcard_at encloser) kind)) _ 5 6 7 some
      found-number (wildcard_is_alias below encloser target fewer more at is none to) =
          synthesized-number ancestors below encloser name at is ∙ with-alias (wildcard_at encloser) target fewer 5 6 7 more none to
      found-number (wildcard_has_none below encloser at is none follows) =
          synthesized-number ancestors below encloser name at is ∙ with-neither (wildcard_at encloser) 5 6 7 none follows

      pub one-number : (case other : NameCase look ancestors left kind name) → number_of case ≡ number_of other
      one-number case other = sym (found-number case) ∙ found-number other
