-- An answer at one name, over its alias and its wildcard, where the sets are read one after another.
use Rattle.std.proofs.Common.{◌≡◌, ℕ, zero, suc, ◌-◌, Bool, true, false, not, if◌then◌else◌, nat_eq, List, [], ◌∷◌, length, Option, None, Some, inl, inr, refl, sym, ap, ◌∙◌, arith}
use Rattle.std.proofs.lemmas.Bool.{cases_Bool}
use Rattle.std.proofs.lemmas.Map.Views.{exact_unsigned_eq}
use Rattle.sipl_names.specs.Labels.{Labels, parent_of}
use Rattle.sipl_records.specs.declared.data.Data.{Data}
use Rattle.sipl_records.specs.declared.kind.Kind.{Kind}
use Rattle.sipl_records.specs.declared.kind.Kind.TheVariants.{Alias, Exists}
use Rattle.sipl_evidence.specs.Answers.{Next, asking, asking_within, at_alias, at_encloser, at_name, at_source, first_target, max_ancestors, unless_exists}
use Rattle.sipl_evidence.specs.Items.{Item}
use Rattle.sipl_evidence.specs.Looks.{key, Asking, done, ask}
use Rattle.sipl_evidence.specs.Walks.{next_within}
use Rattle.sipl_evidence.proofs.Public.{asking_within-is, max_aliases-is}
use Rattle.sipl_plans.specs.Readings.{Source, outcome, Reads, LeadsTo, IsTarget, IsSynthesizedFrom}

suc-apart : (n : ℕ) → nat_eq (suc n) 0 ≡ false
suc-apart n = elim (cases_Bool (nat_eq (suc n) 0)) [
  | inl same ↦ absurd (omega (arith, exact_unsigned_eq (suc n) 0 same))
  | inr apart ↦ apart
]

-- what follows the set of a name, and the first alias of a name
abbrev pub after_set : Asking (List Data) → List Data → Asking (List Data)
after_set otherwise set = elim set as (λ _. Asking (List Data)) [ datum ∷ others ↦ done (datum ∷ others) | [] ↦ otherwise ]

abbrev pub after_alias : (Labels → Asking (List Data)) → Asking (List Data) → Option Labels → Asking (List Data)
after_alias next otherwise found = elim found as (λ _. Asking (List Data)) [ Some target ↦ next target | None ↦ otherwise ]

pub after_set-some : (otherwise : Asking (List Data)) (set : List Data) → nat_eq (length set) 0 ≡ false → after_set otherwise set ≡ done set
after_set-some otherwise [] some = let never : true ≡ false = some in cc
after_set-some otherwise (datum ∷ others) some = refl

pub after_set-none : (otherwise : Asking (List Data)) (set : List Data) → nat_eq (length set) 0 ≡ true → after_set otherwise set ≡ otherwise
after_set-none otherwise [] none = refl
after_set-none otherwise (datum ∷ others) none = let never : false ≡ true = sym (suc-apart (length others)) ∙ none in cc

-- whether a set has data decides what follows
pub by_data : (present absent : Asking (List Data)) (set : List Data) (found : Bool) → found ≡ not (nat_eq (length set) 0)
    → (let next : Asking (List Data) = elim set [ datum ∷ others ↦ present | [] ↦ absent ] in next) ≡ (if found then present else absent)
by_data present absent [] found is = ap (λ b. if b then present else absent) (sym is)
by_data present absent (datum ∷ others) found is = ap (λ b. if b then present else absent) (sym (is ∙ ap not (suc-apart (length others))))

module _ {S : Type 0} (source : Source S) (kind : Kind) where
  abbrev Leads : Asking (List Data) → List Item → S → Asking (List Data) → List Item → S → Type 0
  Leads = LeadsTo source

  -- no alias may be followed
  pub target-zero : (left : ℕ) (name : Labels) (otherwise : Asking (List Data)) (items : List Item) (sets : S) → nat_eq left 0 ≡ true → Leads (at_alias (next_within max_ancestors left kind) name otherwise) items sets otherwise items sets
  target-zero zero name otherwise items sets none = refl
  target-zero (suc left) name otherwise items sets none = let never : false ≡ true = sym (suc-apart left) ∙ none in cc

  -- the first alias of a name, where one may be followed
  pub target-read : (left : ℕ) (name : Labels) (otherwise : Asking (List Data)) (items later : List Item) (sets sets_later : S) (aliases : List Data) (found : Option Labels)
      → nat_eq left 0 ≡ false → ((next : List Data → Asking (List Data)) → Leads (ask (key name Alias) next) items sets (next aliases) later sets_later) → found ≡ first_target aliases
      → Leads (at_alias (next_within max_ancestors left kind) name otherwise) items sets (after_alias (λ target. asking_within max_ancestors (left - 1) target kind) otherwise found) later sets_later
  target-read zero name otherwise items later sets sets_later aliases found some read is = let never : true ≡ false = some in cc
  target-read (suc left) name otherwise items later sets sets_later aliases found some read is =
      let one : left ≡ suc left - 1 = omega arith in
      read (λ set. after_alias (λ target. asking_within max_ancestors left target kind) otherwise (first_target set))
      ∙ ap (λ o. outcome source (after_alias (λ target. asking_within max_ancestors left target kind) otherwise o) later sets_later) (sym is)
      ∙ ap (λ n. outcome source (after_alias (λ target. asking_within max_ancestors n target kind) otherwise found) later sets_later) one

-- the parent of a name is asked for first among its ancestors
pub encloser-ask : (next : Labels → Asking (List Data)) (name parent : Labels) → parent_of name ≡ Some parent
    → at_encloser (length name) name next ≡ ask (key parent Exists) (λ found. elim found as (λ _. Asking (List Data)) [ datum ∷ others ↦ next parent | [] ↦ at_encloser (length parent) parent next ])
encloser-ask next [] parent is = let never : None ≡ Some parent = is in cc
encloser-ask next (label ∷ labels) parent is =
    let same : labels ≡ parent = cc in
    ap (λ p. ask (key p Exists) (λ found. elim found as (λ _. Asking (List Data)) [ datum ∷ others ↦ next p | [] ↦ at_encloser (length p) p next ])) same

-- an answer at a name
module _ {S : Type 0} (source : Source S) (kind : Kind) (left : ℕ) (name : Labels) (items items1 : List Item) (sets sets1 : S) (set : List Data)
    (read : (next : List Data → Asking (List Data)) → LeadsTo source (ask (key name kind) next) items sets (next set) items1 sets1) where
  abbrev onward : Next
  onward = next_within max_ancestors left kind

  abbrev synthesis : Asking (List Data)
  synthesis = unless_exists max_ancestors name (at_source onward kind)

  -- the answer leads to this
  abbrev Goes : Asking (List Data) → List Item → S → Type 0
  Goes later items_then sets_then = LeadsTo source (asking_within max_ancestors left name kind) items sets later items_then sets_then

  abbrev Answers : List Data → List Item → S → Type 0
  Answers value items_then sets_then = Reads source (asking_within max_ancestors left name kind) items sets value items_then sets_then

  own : Goes (after_set (at_alias onward name synthesis) set) items1 sets1
  own = ap (λ a. outcome source a items sets) (asking_within-is max_ancestors left name kind) ∙ read (after_set (at_alias onward name synthesis))

  -- its own data are the answer
  pub own-answer : nat_eq (length set) 0 ≡ false → Answers set items1 sets1
  own-answer some = own ∙ ap (λ a. outcome source a items1 sets1) (after_set-some (at_alias onward name synthesis) set some)

  module _ (none : nat_eq (length set) 0 ≡ true) (items2 : List Item) (sets2 : S) (found : Option Labels) (target : IsTarget source left name items1 sets1 found items2 sets2) where
    at_target : Goes (after_alias (λ target. asking_within max_ancestors (left - 1) target kind) synthesis found) items2 sets2
    at_target = own ∙ ap (λ a. outcome source a items1 sets1) (after_set-none (at_alias onward name synthesis) set none) ∙ target kind synthesis

    -- without data it is that at the target of the alias
    pub alias-answer : (at : Labels) → found ≡ Some at → (value : List Data) (items_then : List Item) (sets_then : S) → Reads source (asking_within max_ancestors (left - 1) at kind) items2 sets2 value items_then sets_then → Answers value items_then sets_then
    alias-answer at is value items_then sets_then later =
        at_target ∙ ap (λ o. outcome source (after_alias (λ target. asking_within max_ancestors (left - 1) target kind) synthesis o) items2 sets2) is ∙ later

    module _ (no_target : found ≡ None) (items3 : List Item) (sets3 : S) (wildcards : Option Labels) (synthesized : IsSynthesizedFrom source name items2 sets2 wildcards items3 sets3) where
      at_wildcard : Goes (after_alias (λ wildcard. at_name onward kind wildcard (done [])) (done []) wildcards) items3 sets3
      at_wildcard =
          at_target ∙ ap (λ o. outcome source (after_alias (λ target. asking_within max_ancestors (left - 1) target kind) synthesis o) items2 sets2) no_target
          ∙ synthesized (λ wildcard. at_name onward kind wildcard (done []))

      -- without a wildcard it is empty
      pub no-answer : wildcards ≡ None → Answers [] items3 sets3
      no-answer absent = at_wildcard ∙ ap (λ o. outcome source (after_alias (λ wildcard. at_name onward kind wildcard (done [])) (done []) o) items3 sets3) absent

      module _ (wildcard : Labels) (there : wildcards ≡ Some wildcard) (items4 : List Item) (sets4 : S) (more : List Data)
          (read_more : (next : List Data → Asking (List Data)) → LeadsTo source (ask (key wildcard kind) next) items3 sets3 (next more) items4 sets4) where
        at_more : Goes (after_set (at_alias onward wildcard (done [])) more) items4 sets4
        at_more =
            at_wildcard ∙ ap (λ o. outcome source (after_alias (λ wildcard. at_name onward kind wildcard (done [])) (done []) o) items3 sets3) there
            ∙ read_more (after_set (at_alias onward wildcard (done [])))

        -- data of the wildcard are the answer
        pub wildcard-answer : nat_eq (length more) 0 ≡ false → Answers more items4 sets4
        wildcard-answer some = at_more ∙ ap (λ a. outcome source a items4 sets4) (after_set-some (at_alias onward wildcard (done [])) more some)

        module _ (empty : nat_eq (length more) 0 ≡ true) (items5 : List Item) (sets5 : S) (last : Option Labels) (target_more : IsTarget source left wildcard items4 sets4 last items5 sets5) where
          at_last : Goes (after_alias (λ target. asking_within max_ancestors (left - 1) target kind) (done []) last) items5 sets5
          at_last = at_more ∙ ap (λ a. outcome source a items4 sets4) (after_set-none (at_alias onward wildcard (done [])) more empty) ∙ target_more kind (done [])

          -- without data it is that at the target of the wildcard's alias
          pub wildcard_alias-answer : (at : Labels) → last ≡ Some at → (value : List Data) (items_then : List Item) (sets_then : S) → Reads source (asking_within max_ancestors (left - 1) at kind) items5 sets5 value items_then sets_then → Answers value items_then sets_then
          wildcard_alias-answer at is value items_then sets_then later =
              at_last ∙ ap (λ o. outcome source (after_alias (λ target. asking_within max_ancestors (left - 1) target kind) (done []) o) items5 sets5) is ∙ later

          -- without an alias it is empty
          pub wildcard_none-answer : last ≡ None → Answers [] items5 sets5
          wildcard_none-answer is =
              at_last ∙ ap (λ o. outcome source (after_alias (λ target. asking_within max_ancestors (left - 1) target kind) (done []) o) items5 sets5) is

-- the answer follows at most 8 aliases
pub all-aliases-read : {S : Type 0} (source : Source S) (name : Labels) (kind : Kind) (items : List Item) (sets : S) → outcome source (asking_within max_ancestors 8 name kind) items sets ≡ outcome source (asking name kind) items sets
all-aliases-read source name kind items sets = ap (λ left. outcome source (asking_within max_ancestors left name kind) items sets) (sym max_aliases-is)
