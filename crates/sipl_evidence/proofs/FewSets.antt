-- How many sets an answer asks for, and that it asks for all ancestors of a name.
use Rattle.std.proofs.Common.{◌≡◌, ℕ, zero, suc, ◌+◌, ◌*◌, ◌≤◌, List, [], ◌∷◌, Option, None, Some, length, refl, ap, sym, ◌∙◌, arith}
use Rattle.sipl_names.specs.Labels.{Labels, IsName}
use Rattle.sipl_names.proofs.Public.{labels-at_most_127}
use Rattle.sipl_records.specs.declared.data.Data.{Data}
use Rattle.sipl_records.specs.declared.kind.Kind.{Kind}
use Rattle.sipl_records.specs.declared.kind.Kind.TheVariants.{Alias, Exists}
use Rattle.sipl_evidence.specs.Looks.{Look, key, Asking, done, ask, asked}
use Rattle.sipl_evidence.specs.Answers.{answering, asking, asking_within, at_alias, at_encloser, at_name, at_source, first_target, max_aliases, max_ancestors, unless_exists}

module _ (look : Look) where
  -- a computation asks for at most so many sets
  abbrev AsksFew : Asking (List Data) → ℕ → Type 0
  AsksFew asking n = length (asked look asking) ≤ n

  few-done : (n : ℕ) → AsksFew (done []) n
  few-done n = omega arith

  -- one set more, then what follows where it is empty
  few-set : (kind : Kind) (name : Labels) (otherwise : Asking (List Data)) (n : ℕ) → AsksFew otherwise n → AsksFew (at_name None kind name otherwise) (suc n)
  few-set kind name otherwise n few = by (look (key name kind))
    where
      by : (set : List Data) → suc (length (asked look (elim set as (λ _. Asking (List Data)) [ datum ∷ others ↦ done (datum ∷ others) | [] ↦ otherwise ]))) ≤ suc n
      by [] = omega (arith, few)
      by (datum ∷ others) = omega arith

  -- two sets more, then what follows where both are empty, or at the target
  few-name : (next : Labels → Asking (List Data)) (kind : Kind) (name : Labels) (otherwise : Asking (List Data)) (m n : ℕ) → m ≤ n → ((target : Labels) → AsksFew (next target) m) → AsksFew otherwise n → AsksFew (at_name (Some next) kind name otherwise) (suc (suc n))
  few-name next kind name otherwise m n below targets few = by (look (key name kind))
    where
      at : (target : Option Labels) → length (asked look (elim target as (λ _. Asking (List Data)) [ Some target ↦ next target | None ↦ otherwise ])) ≤ n
      at None = few
      at (Some target) = omega (arith, targets target, below)

      by : (set : List Data) → suc (length (asked look (elim set as (λ _. Asking (List Data)) [ datum ∷ others ↦ done (datum ∷ others) | [] ↦ at_alias (Some next) name otherwise ]))) ≤ suc (suc n)
      by [] = omega (arith, at (first_target (look (key name Alias))))
      by (datum ∷ others) = omega arith

  few-encloser : (ancestors : ℕ) (name : Labels) (next : Labels → Asking (List Data)) (n : ℕ) → ((encloser : Labels) → AsksFew (next encloser) n) → AsksFew (at_encloser ancestors name next) (ancestors + n)
  few-encloser zero name next n few = omega arith
  few-encloser (suc more) [] next n few = omega arith
  few-encloser (suc more) (label ∷ parent) next n few = by (look (key parent Exists)) (few-encloser more parent next n few)
    where
      by : (found : List Data) → AsksFew (at_encloser more parent next) (more + n) → suc (length (asked look (elim found as (λ _. Asking (List Data)) [ datum ∷ others ↦ next parent | [] ↦ at_encloser more parent next ]))) ≤ suc more + n
      by [] rest = omega (arith, rest)
      by (datum ∷ others) rest = omega (arith, few parent)

  few-unless_exists : (ancestors : ℕ) (name : Labels) (next : Labels → Asking (List Data)) (n : ℕ) → ((encloser : Labels) → AsksFew (next encloser) n) → AsksFew (unless_exists ancestors name next) (suc (ancestors + n))
  few-unless_exists ancestors name next n few = by (look (key name Exists))
    where
      by : (found : List Data) → suc (length (asked look (elim found as (λ _. Asking (List Data)) [ datum ∷ others ↦ done [] | [] ↦ at_encloser ancestors name next ]))) ≤ suc (ancestors + n)
      by [] = omega (arith, few-encloser ancestors name next n few)
      by (datum ∷ others) = omega arith

  -- where no alias is followed: the set, the existence of the name and its ancestors, and the wildcard's
  few-last : (ancestors : ℕ) (kind : Kind) (name : Labels) → AsksFew (answering ancestors None kind name) (ancestors + 3)
  few-last ancestors kind name =
      let all = few-set kind name (unless_exists ancestors name (at_source None kind)) (suc (ancestors + 1)) (few-unless_exists ancestors name (at_source None kind) 1 (λ encloser. few-set kind _ (done []) 0 (few-done 0))) in
      omega (arith, all)

  -- otherwise two sets more of aliases, and those at the target
  few-answering : (ancestors : ℕ) (next : Labels → Asking (List Data)) (kind : Kind) (name : Labels) (m : ℕ) → ((target : Labels) → AsksFew (next target) m) → AsksFew (answering ancestors (Some next) kind name) (ancestors + 5 + m)
  few-answering ancestors next kind name m few =
      let n : ℕ = suc (ancestors + suc (suc m)) in
      let source = few-unless_exists ancestors name (at_source (Some next) kind) (suc (suc m)) (λ encloser. few-name next kind _ (done []) m m (omega arith) few (few-done m)) in
      let all = few-name next kind name (unless_exists ancestors name (at_source (Some next) kind)) m n (omega arith) few source in
      omega (arith, all)

  -- an answer asks for so many sets of each name, and of the last one
  pub length-asked_within : (ancestors left : ℕ) (name : Labels) (kind : Kind) → length (asked look (asking_within ancestors left name kind)) ≤ left * (ancestors + 5) + (ancestors + 3)
  length-asked_within ancestors zero name kind = omega (arith, few-last ancestors kind name)
  length-asked_within ancestors (suc left) name kind =
      let few = few-answering ancestors (λ target. asking_within ancestors left target kind) kind name (left * (ancestors + 5) + (ancestors + 3)) (λ target. length-asked_within ancestors left target kind) in
      grind (arith, few)

  pub length-asking : (name : Labels) (kind : Kind) → length (asked look (asking name kind)) ≤ 1186
  unfolding max_aliases max_ancestors
  length-asking name kind = length-asked_within 127 8 name kind

-- no more ancestors are asked for than a name has labels
pub at_encloser-all : (ancestors : ℕ) (name : Labels) (next : Labels → Asking (List Data)) → length name ≤ ancestors → at_encloser ancestors name next ≡ at_encloser (length name) name next
at_encloser-all zero [] next few = refl
at_encloser-all zero (label ∷ parent) next few = absurd (omega (arith, few))
at_encloser-all (suc more) [] next few = refl
at_encloser-all (suc more) (label ∷ parent) next few =
    ap (λ rest. ask (key parent Exists) (λ found. elim found as (λ _. Asking (List Data)) [ datum ∷ others ↦ next parent | [] ↦ rest ]))
    (at_encloser-all more parent next (omega (arith, few)))

pub max_ancestors-is : max_ancestors ≡ 127
unfolding max_ancestors
max_ancestors-is = refl

pub max_aliases-is : max_aliases ≡ 8
unfolding max_aliases
max_aliases-is = refl

pub at_encloser-root : (name : Labels) (more : ℕ) (next : Labels → Asking (List Data)) → IsName name → max_ancestors ≤ more → at_encloser more name next ≡ at_encloser max_ancestors name next
at_encloser-root name more next valid enough =
    let short = labels-at_most_127 name valid in
    at_encloser-all more name next (omega (arith, short, enough, max_ancestors-is))
    ∙ sym (at_encloser-all max_ancestors name next (omega (arith, short, max_ancestors-is)))
