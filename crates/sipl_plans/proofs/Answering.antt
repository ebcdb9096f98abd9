-- An answer at one name, over its alias and its wildcard.
use Rattle.std.proofs.Common.{◌≡◌, ℕ, zero, suc, ◌-◌, ◌==◌, true, false, nat_eq, List, [], ◌∷◌, length, Option, None, Some, if◌then◌else◌, inl, inr, refl, sym, ap, subst, ◌∙◌, arith}
use Rattle.std.proofs.lemmas.Bool.{cases_Bool}
use Rattle.std.proofs.lemmas.Map.Views.{exact_unsigned_eq}
use Rattle.sipl_names.specs.Labels.{Labels}
use Rattle.sipl_records.specs.declared.data.Data.{Data}
use Rattle.sipl_records.specs.declared.kind.Kind.{Kind}
use Rattle.sipl_records.specs.declared.kind.Kind.TheVariants.{Alias, Exists}
use Rattle.sipl_records.specs.declared.record.Record.{Record}
use Rattle.sipl_records.specs.Sets.{data_of, same_kind, set_of}
use Rattle.sipl_records.proofs.Public.{set_of-data}
use Rattle.sipl_evidence.specs.Answers.{Next, answer, asking_within, at_alias, at_name, at_source, first_target, max_ancestors, unless_exists}
use Rattle.sipl_evidence.specs.Looks.{Look, key, Asking, done, result_of}
use Rattle.sipl_evidence.specs.Walks.{next_within}
use Rattle.sipl_evidence.proofs.Public.{asking_within-is, max_aliases-is}
use Rattle.sipl_plans.specs.Synthesis.{IsSourceOfSynthesis}

suc-apart : (n : ℕ) → nat_eq (suc n) 0 ≡ false
suc-apart n = elim (cases_Bool (nat_eq (suc n) 0)) [
  | inl same ↦ absurd (omega (arith, exact_unsigned_eq (suc n) 0 same))
  | inr apart ↦ apart
]

none_from_length : (set : List Data) → nat_eq (length set) 0 ≡ true → set ≡ []
none_from_length [] none = refl
none_from_length (datum ∷ others) none = let never : false ≡ true = sym (suc-apart (length others)) ∙ none in cc

-- the target of a name's first alias, where so many may be followed
abbrev pub target_of : Look → ℕ → Labels → Option Labels
target_of look left name = if left == 0 then None else first_target (look (key name Alias))

-- what follows the set of a name, and the first alias of a name
abbrev after_set : Asking (List Data) → List Data → Asking (List Data)
after_set otherwise set = elim set as (λ _. Asking (List Data)) [ datum ∷ others ↦ done (datum ∷ others) | [] ↦ otherwise ]

abbrev after_alias : (Labels → Asking (List Data)) → Asking (List Data) → Option Labels → Asking (List Data)
after_alias next otherwise found = elim found as (λ _. Asking (List Data)) [ Some target ↦ next target | None ↦ otherwise ]

module _ (look : Look) (kind : Kind) where
  -- the set of a name where it has data
  own-name : (next : Next) (name : Labels) (otherwise : Asking (List Data)) (set : List Data) → set ≡ look (key name kind) → nat_eq (length set) 0 ≡ false → result_of look (at_name next kind name otherwise) ≡ set
  own-name next name otherwise [] is some = let never : true ≡ false = some in cc
  own-name next name otherwise (datum ∷ others) is some = ap (λ s. result_of look (after_set (at_alias next name otherwise) s)) (sym is)

  -- else what follows at its alias
  none-name : (next : Next) (name : Labels) (otherwise : Asking (List Data)) (set : List Data) → set ≡ look (key name kind) → nat_eq (length set) 0 ≡ true → result_of look (at_name next kind name otherwise) ≡ result_of look (at_alias next name otherwise)
  none-name next name otherwise [] is none = ap (λ s. result_of look (after_set (at_alias next name otherwise) s)) (sym is)
  none-name next name otherwise (datum ∷ others) is none = let never : false ≡ true = sym (suc-apart (length others)) ∙ none in cc

module _ (look : Look) (kind : Kind) where
  target-suc : (left : ℕ) (name : Labels) → target_of look (suc left) name ≡ first_target (look (key name Alias))
  target-suc left name = ap (λ b. if b then None else first_target (look (key name Alias))) (suc-apart left)

  target-alias : (left : ℕ) (name target : Labels) (otherwise : Asking (List Data)) → Some target ≡ target_of look left name → result_of look (at_alias (next_within max_ancestors left kind) name otherwise) ≡ result_of look (asking_within max_ancestors (left - 1) target kind)
  target-alias zero name target otherwise to = let never : Some target ≡ None = to in cc
  target-alias (suc left) name target otherwise to =
      let next : Labels → Asking (List Data) = λ t. asking_within max_ancestors left t kind in
      let one : suc left - 1 ≡ left = omega arith in
      ap (λ t. result_of look (after_alias next otherwise t)) (sym (to ∙ target-suc left name))
      ∙ ap (λ n. result_of look (asking_within max_ancestors n target kind)) (sym one)

  none-alias : (left : ℕ) (name : Labels) (otherwise : Asking (List Data)) → None ≡ target_of look left name → result_of look (at_alias (next_within max_ancestors left kind) name otherwise) ≡ result_of look otherwise
  none-alias zero name otherwise to = refl
  none-alias (suc left) name otherwise to = ap (λ t. result_of look (after_alias (λ t. asking_within max_ancestors left t kind) otherwise t)) (sym (to ∙ target-suc left name))

-- an answer of a kind of records, on a list of them
module _ (records : List Record) (kind : Kind) (kept : same_kind kind Exists ≡ false) (left : ℕ) where
  abbrev look : Look
  look = set_of records

  abbrev onward : Next
  onward = next_within max_ancestors left kind

  abbrev IsAnswer : Labels → List Data → Type 0
  IsAnswer name set = result_of look (asking_within max_ancestors left name kind) ≡ set

  -- the answer at the target of an alias
  abbrev answer_at : Labels → List Data
  answer_at target = result_of look (asking_within max_ancestors (left - 1) target kind)

  is_set : (name : Labels) (set : List Data) → set ≡ data_of records (key name kind) → set ≡ look (key name kind)
  is_set name set is = is ∙ sym (set_of-data records (key name kind) kept)

  module _ (name : Labels) (set : List Data) (is : set ≡ data_of records (key name kind)) where
    abbrev source : Asking (List Data)
    source = unless_exists max_ancestors name (at_source onward kind)

    whole : result_of look (asking_within max_ancestors left name kind) ≡ result_of look (at_name onward kind name source)
    whole = ap (result_of look) (asking_within-is max_ancestors left name kind)

    module _ (none : nat_eq (length set) 0 ≡ true) where
      -- without data it is that at the target of the alias
      pub alias-answer : (target : Labels) → Some target ≡ target_of look left name → IsAnswer name (answer_at target)
      alias-answer target to =
          whole ∙ none-name look kind onward name source set (is_set name set is) none ∙ target-alias look kind left name target source to

      module _ (to : None ≡ target_of look left name) (wildcards : Option Labels) (at : IsSourceOfSynthesis look name wildcards) where
        -- without an alias that at the wildcard
        at-source : (found : Option Labels) → wildcards ≡ found → result_of look (asking_within max_ancestors left name kind) ≡ (elim found as (λ _. List Data) [ Some wildcard ↦ result_of look (at_name onward kind wildcard (done [])) | None ↦ [] ])
        at-source found found_is =
            whole ∙ none-name look kind onward name source set (is_set name set is) none ∙ none-alias look kind left name source to
            ∙ subst (λ (o : Option Labels). IsSourceOfSynthesis look name o) found_is at (λ wildcard. at_name onward kind wildcard (done []))

        -- without a wildcard it is empty
        pub no-answer : wildcards ≡ None → IsAnswer name set
        no-answer absent = at-source None absent ∙ sym (none_from_length set none)

        module _ (wildcard : Labels) (found : wildcards ≡ Some wildcard) (there : List Data) (there_is : there ≡ data_of records (key wildcard kind)) where
          -- data of the wildcard are the answer
          pub wildcard-answer : nat_eq (length there) 0 ≡ false → IsAnswer name there
          wildcard-answer some =
              at-source (Some wildcard) found ∙ own-name look kind onward wildcard (done []) there (is_set wildcard there there_is) some

          module _ (empty : nat_eq (length there) 0 ≡ true) where
            -- without data it is that at the target of the wildcard's alias
            pub wildcard_alias-answer : (target : Labels) → Some target ≡ target_of look left wildcard → IsAnswer name (answer_at target)
            wildcard_alias-answer target to =
                at-source (Some wildcard) found
                ∙ none-name look kind onward wildcard (done []) there (is_set wildcard there there_is) empty
                ∙ target-alias look kind left wildcard target (done []) to

            -- without an alias it is empty
            pub wildcard_none-answer : None ≡ target_of look left wildcard → IsAnswer name there
            wildcard_none-answer to =
                at-source (Some wildcard) found
                ∙ none-name look kind onward wildcard (done []) there (is_set wildcard there there_is) empty
                ∙ none-alias look kind left wildcard (done []) to
                ∙ sym (none_from_length there empty)

-- the answer follows at most 8 aliases
pub all-aliases : (look : Look) (name : Labels) (kind : Kind) → result_of look (asking_within max_ancestors 8 name kind) ≡ answer look name kind
all-aliases look name kind = ap (λ left. result_of look (asking_within max_ancestors left name kind)) (sym max_aliases-is)
