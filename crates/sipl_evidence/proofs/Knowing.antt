-- What evidence knows of the sets that a computation asks for.
use Rattle.std.proofs.Common.{◌≡◌, Bool, false, not, cond, List, [], ◌∷◌, ◌++◌, Option, None, Some, is_some, refl, ap, sym, ◌∙◌, inl, inr}
use Rattle.std.specs.List.{All, find}
use Rattle.std.proofs.lemmas.Bool.{cases_Bool}
use Rattle.std.proofs.lemmas.List.Elements.{All-head, All-tail, All-nil, All-cons}
use Rattle.sipl_records.specs.declared.data.Data.{Data}
use Rattle.sipl_records.specs.declared.record.Key.{Key}
use Rattle.sipl_records.specs.Sets.{same_key}
use Rattle.sipl_records.proofs.Public.{same_key-Decides}
use Rattle.sipl_evidence.specs.Items.{Item}
use Rattle.sipl_evidence.specs.Looks.{Look, Asking, done, ask, result_of, asked}
use Rattle.sipl_evidence.specs.Known.{known, is_unknown, Agrees, first_unknown, advance, known_result}

-- records that agree with the items have the sets that are known
pub look-known : (look : Look) (items : List Item) → Agrees look items → (k : Key) (set : List Data) → known items k ≡ Some set → look k ≡ set
look-known look [] agrees k set is = let never : None ≡ Some set = is in cc
look-known look (item ∷ items) agrees k set is = elim (cases_Bool (same_key item.key k)) [
  | inl same ↦
      let own : item.key ≡ k = (same_key-Decides item.key k).0 same in
      let first : Some item.content ≡ Some set = rw same at is in
      let content : item.content ≡ set = cc in
      ap look (sym own) ∙ All-head (λ item. look item.key ≡ item.content) item items agrees ∙ content
  | inr other ↦ look-known look items (All-tail (λ item. look item.key ≡ item.content) item items agrees) k set (rw other at is)
]

-- what is known stays known with more items
pub known-append : (items more : List Item) (k : Key) (set : List Data) → known items k ≡ Some set → known (items ++ more) k ≡ Some set
known-append [] more k set is = let never : None ≡ Some set = is in cc
known-append (item ∷ items) more k set is = elim (cases_Bool (same_key item.key k)) [
  | inl same ↦ rw same (rw same at is)
  | inr other ↦ rw other (known-append items more k set (rw other at is))
]

module _ {A : Type 0} (look : Look) (items : List Item) (agrees : Agrees look items) where
  -- the first unknown key is the first one of those that are asked for
  pub first_unknown-find : (asking : Asking A) → first_unknown items asking ≡ find (is_unknown items) (asked look asking)
  first_unknown-find (done value) = refl
  first_unknown-find (ask k next) = by (known items k) refl (λ set. first_unknown-find (next set))
    where
      by : (o : Option (List Data)) → known items k ≡ o → ((set : List Data) → first_unknown items (next set) ≡ find (is_unknown items) (asked look (next set))) → elim o [ Some set ↦ first_unknown items (next set) | None ↦ Some k ] ≡ cond (not (is_some o)) (Some k) (find (is_unknown items) (asked look (next (look k))))
      by None is rest = refl
      by (Some set) is rest = rest set ∙ ap (λ set. find (is_unknown items) (asked look (next set))) (sym (look-known look items agrees k set is))

  -- what is known results in what the records do
  pub known_result-is : (asking : Asking A) → first_unknown items asking ≡ None → known_result items asking ≡ Some (result_of look asking)
  known_result-is (done value) all = refl
  known_result-is (ask k next) all = by (known items k) refl (λ set. known_result-is (next set)) all
    where
      by : (o : Option (List Data)) → known items k ≡ o → ((set : List Data) → first_unknown items (next set) ≡ None → known_result items (next set) ≡ Some (result_of look (next set))) → ◌≡◌ {A = Option Key} (elim o [ Some set ↦ first_unknown items (next set) | None ↦ Some k ]) None → ◌≡◌ {A = Option A} (elim o [ Some set ↦ known_result items (next set) | None ↦ None ]) (Some (result_of look (next (look k))))
      by None is rest all = let never : Some k ≡ None = all in cc
      by (Some set) is rest all = rest set all ∙ ap (λ set. Some (result_of look (next set))) (sym (look-known look items agrees k set is))

  pub result_of-advance : (asking : Asking A) → result_of look (advance items asking) ≡ result_of look asking
  result_of-advance (done value) = refl
  result_of-advance (ask k next) = by (known items k) refl (λ set. result_of-advance (next set))
    where
      by : (o : Option (List Data)) → known items k ≡ o → ((set : List Data) → result_of look (advance items (next set)) ≡ result_of look (next set)) → result_of look (elim o [ Some set ↦ advance items (next set) | None ↦ ask k next ]) ≡ result_of look (next (look k))
      by None is rest = refl
      by (Some set) is rest = rest set ∙ ap (λ set. result_of look (next set)) (sym (look-known look items agrees k set is))

-- a list in which no value passes
pub All-find_none : {X : Type 0} (test : X → Bool) (xs : List X) → find test xs ≡ None → All (λ x. test x ≡ false) xs
All-find_none test [] none = All-nil (λ x. test x ≡ false)
All-find_none test (x ∷ xs) none = elim (cases_Bool (test x)) [
  | inl passes ↦ let never : Some x ≡ None = rw passes at none in cc
  | inr fails ↦ All-cons (λ x. test x ≡ false) x xs fails (All-find_none test xs (rw fails at none))
]

module _ {A : Type 0} (items more : List Item) where
  -- a computation that went on over what was known goes on as before
  pub first_unknown-advance : (asking : Asking A) → first_unknown (items ++ more) (advance items asking) ≡ first_unknown (items ++ more) asking
  first_unknown-advance (done value) = refl
  first_unknown-advance (ask k next) = by (known items k) refl (λ set. first_unknown-advance (next set))
    where
      by : (o : Option (List Data)) → known items k ≡ o → ((set : List Data) → first_unknown (items ++ more) (advance items (next set)) ≡ first_unknown (items ++ more) (next set)) → first_unknown (items ++ more) (elim o [ Some set ↦ advance items (next set) | None ↦ ask k next ]) ≡ first_unknown (items ++ more) (ask k next)
      by None is rest = refl
      by (Some set) is rest = rest set ∙ sym (ap (λ o. let next_of : Option Key = elim o [ Some set ↦ first_unknown (items ++ more) (next set) | None ↦ Some k ] in next_of) (known-append items more k set is))

  pub known_result-advance : (asking : Asking A) → known_result (items ++ more) (advance items asking) ≡ known_result (items ++ more) asking
  known_result-advance (done value) = refl
  known_result-advance (ask k next) = by (known items k) refl (λ set. known_result-advance (next set))
    where
      by : (o : Option (List Data)) → known items k ≡ o → ((set : List Data) → known_result (items ++ more) (advance items (next set)) ≡ known_result (items ++ more) (next set)) → known_result (items ++ more) (elim o [ Some set ↦ advance items (next set) | None ↦ ask k next ]) ≡ known_result (items ++ more) (ask k next)
      by None is rest = refl
      by (Some set) is rest = rest set ∙ sym (ap (λ o. let next_of : Option A = elim o [ Some set ↦ known_result (items ++ more) (next set) | None ↦ None ] in next_of) (known-append items more k set is))

  pub advance-advance : (asking : Asking A) → advance (items ++ more) (advance items asking) ≡ advance (items ++ more) asking
  advance-advance (done value) = refl
  advance-advance (ask k next) = by (known items k) refl (λ set. advance-advance (next set))
    where
      by : (o : Option (List Data)) → known items k ≡ o → ((set : List Data) → advance (items ++ more) (advance items (next set)) ≡ advance (items ++ more) (next set)) → advance (items ++ more) (elim o [ Some set ↦ advance items (next set) | None ↦ ask k next ]) ≡ advance (items ++ more) (ask k next)
      by None is rest = refl
      by (Some set) is rest = rest set ∙ sym (ap (λ o. let next_of : Asking A = elim o [ Some set ↦ advance (items ++ more) (next set) | None ↦ ask k next ] in next_of) (known-append items more k set is))
