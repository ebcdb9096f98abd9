-- A computation, one look-up after another.
use Rattle.std.proofs.Common.{◌≡◌, ◌≢◌, suc, true, false, List, [], ◌∷◌, length, Option, None, Some, refl, ap, sym, subst, ◌∙◌, append-nil, arith}
use Rattle.std.specs.Bool.{◌==◌}
use Rattle.std.proofs.lemmas.Map.Views.{exact_unsigned_eq}
use Rattle.sipl_records.specs.declared.data.Data.{Data}
use Rattle.sipl_records.specs.declared.record.Key.{Key}
use Rattle.sipl_evidence.specs.Items.{Item}
use Rattle.sipl_evidence.specs.Looks.{Asking, done, ask, next_key}
use Rattle.sipl_evidence.specs.Known.{known, first_unknown, advance, known_result}
use Rattle.sipl_evidence.proofs.Knowing.{advance-advance}

-- what a computation results in, if it asks for no set
abbrev pub value_of : {A : Type 0} → Asking A → Option A
value_of (done value) = Some value
value_of (ask k next) = None

module _ {A : Type 0} (items : List Item) where
  pub first_unknown-next_key : (asking : Asking A) → first_unknown items asking ≡ next_key (advance items asking)
  first_unknown-next_key (done value) = refl
  first_unknown-next_key (ask k next) = by (known items k) (λ set. first_unknown-next_key (next set))
    where
      by : (o : Option (List Data)) → ((set : List Data) → first_unknown items (next set) ≡ next_key (advance items (next set))) → (let found : Option Key = elim o [ Some set ↦ first_unknown items (next set) | None ↦ Some k ] in found) ≡ next_key (elim o [ Some set ↦ advance items (next set) | None ↦ ask k next ])
      by None rest = refl
      by (Some set) rest = rest set

  pub known_result-value_of : (asking : Asking A) → known_result items asking ≡ value_of (advance items asking)
  known_result-value_of (done value) = refl
  known_result-value_of (ask k next) = by (known items k) (λ set. known_result-value_of (next set))
    where
      by : (o : Option (List Data)) → ((set : List Data) → known_result items (next set) ≡ value_of (advance items (next set))) → (let found : Option A = elim o [ Some set ↦ known_result items (next set) | None ↦ None ] in found) ≡ value_of (elim o [ Some set ↦ advance items (next set) | None ↦ ask k next ])
      by None rest = refl
      by (Some set) rest = rest set

  -- a computation goes on over a known set, and stops at an unknown one
  pub advance-known : (k : Key) (next : List Data → Asking A) (set : List Data) → known items k ≡ Some set → advance items (ask k next) ≡ advance items (next set)
  advance-known k next set is = ap (λ o. let left : Asking A = elim o [ Some set ↦ advance items (next set) | None ↦ ask k next ] in left) is

  pub advance-unknown : (k : Key) (next : List Data → Asking A) → known items k ≡ None → advance items (ask k next) ≡ ask k next
  advance-unknown k next is = ap (λ o. let left : Asking A = elim o [ Some set ↦ advance items (next set) | None ↦ ask k next ] in left) is

pub none_from_length : (set : List Data) → (length set == 0) ≡ true → set ≡ []
none_from_length [] e = refl
none_from_length (datum ∷ others) e =
    let never : suc (length others) ≡ 0 = exact_unsigned_eq (suc (length others)) 0 e in absurd (omega arith)

-- a computation that went on has gone on
pub advance-idempotent : (items : List Item) (asking : Asking (List Data)) → advance items (advance items asking) ≡ advance items asking
advance-idempotent items asking =
    subst (λ all. advance all (advance items asking) ≡ advance all asking) (append-nil items) (advance-advance items [] asking)

pub some_from_length : (set : List Data) → (length set == 0) ≡ false → set ≢ []
some_from_length set e none =
    let never : false ≡ true = sym e ∙ ap (λ s. length s == 0) none in cc never
