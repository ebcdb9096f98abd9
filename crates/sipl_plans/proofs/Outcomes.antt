-- Outcomes of computations over record sets that are read one after another.
use Rattle.std.proofs.Common.{◌≡◌, ℕ, zero, suc, List, [], ◌∷◌, ◌++◌, length, get_or, Option, None, Some, Result, IfOk, refl, ap, sym, subst, ◌∙◌, inl, inr, arith, length-append}
use Rattle.std.specs.List.{All}
use Rattle.std.proofs.lemmas.Bool.{cases_Bool}
use Rattle.std.proofs.lemmas.List.Elements.{All-nil, All-push}
use Rattle.std.proofs.lemmas.Result.{IfOk-weaker}
use Rattle.sipl_records.specs.Sets.{same_key}
use Rattle.sipl_records.specs.declared.data.Data.{Data}
use Rattle.sipl_records.specs.declared.record.Key.{Key}
use Rattle.sipl_records.proofs.Public.{same_key-refl}
use Rattle.sipl_choice.specs.Abilities.{Client, abilities_fault}
use Rattle.sipl_evidence.specs.Items.{Item}
use Rattle.sipl_evidence.specs.Known.{known, advance, first_unknown, Agrees, IsTrace}
use Rattle.sipl_evidence.specs.Looks.{Asking, done, ask, and_then, next_key}
use Rattle.sipl_evidence.proofs.Public.{advance-advance, trace-push, first_unknown-next_key}
use Rattle.sipl_uri.specs.declared.question.Question.{Question}
use Rattle.sipl_plans.specs.Findings.{Found, IsSound}
use Rattle.sipl_plans.specs.Readings.{Source, HasSets, KeepsSets, Outcome, item_at, outcome, Reads, after_looks, IsLooked, IsReadFrom}
use Rattle.sipl_plans.specs.Route.{asking_route}
use Rattle.sipl_plans.specs.Runs.{IsSet}
use Rattle.sipl_plans.specs.declared.layout.Layout.{Layout}
use Rattle.sipl_plans.proofs.Deciding.{sound-done}

-- the outcome with a value
abbrev pub outcome_with : {S A : Type 0} → List Item → S → A → Outcome S A
outcome_with items sets value = record { value = value; items = items; sets = sets }

-- what leads to where a value is read has that value
pub leads : {S A B E : Type 0} (result : Result A E) (value_of : A → B) (first later : Outcome S B) (items : List Item) (sets : S) → first ≡ later
    → IfOk result (λ value. later ≡ outcome_with items sets (value_of value)) → IfOk result (λ value. first ≡ outcome_with items sets (value_of value))
leads result value_of first later items sets is read = IfOk-weaker result _ _ (λ value same. is ∙ same) read

-- a value that is known in another form
pub reads_as : {S A B E : Type 0} (result : Result A E) (value_of : A → B) (first : Outcome S B) (value : B) (items : List Item) (sets : S) → first ≡ outcome_with items sets value
    → IfOk result (λ own. value_of own ≡ value) → IfOk result (λ own. first ≡ outcome_with items sets (value_of own))
reads_as result value_of first value items sets is own =
    IfOk-weaker result _ _ (λ v same. is ∙ ap (outcome_with items sets) (sym same)) own

module _ {S : Type 0} (source : Source S) where
  -- where an outcome goes on
  abbrev going_on : {A B : Type 0} → (A → Asking B) → Outcome S A → Outcome S B
  going_on next o = outcome source (next o.value) o.items o.sets

  -- a computation after another goes on where that one ends
  pub outcome-and_then : {A B : Type 0} (first : Asking A) (next : A → Asking B) (items : List Item) (sets : S) → outcome source (and_then first next) items sets ≡ going_on next (outcome source first items sets)
  outcome-and_then (done value) next items sets = refl
  outcome-and_then {A} {B} (ask k more) next items sets = by (known items k) (λ set items sets. outcome-and_then (more set) next items sets)
    where
      by : (o : Option (List Data)) → ((set : List Data) (items : List Item) (sets : S) → outcome source (and_then (more set) next) items sets ≡ going_on next (outcome source (more set) items sets))
          → (let whole : Outcome S B = elim o [
            | Some set ↦ outcome source (and_then (more set) next) items sets
            | None ↦ outcome source (and_then (more (source.set_at sets k)) next) (items ++ item_at source sets k ∷ []) (source.after_look sets)
          ] in whole) ≡ going_on next (elim o [
            | Some set ↦ outcome source (more set) items sets
            | None ↦ outcome source (more (source.set_at sets k)) (items ++ item_at source sets k ∷ []) (source.after_look sets)
          ])
      by None rest = rest (source.set_at sets k) (items ++ item_at source sets k ∷ []) (source.after_look sets)
      by (Some set) rest = rest set items sets

  -- after a first computation with a value
  pub reads_then : {A B : Type 0} (first : Asking A) (next : A → Asking B) (items : List Item) (sets : S) (value : A) (known_then : List Item) (sets_then : S)
      → Reads source first items sets value known_then sets_then → outcome source (and_then first next) items sets ≡ outcome source (next value) known_then sets_then
  reads_then first next items sets value known_then sets_then is =
      outcome-and_then first next items sets ∙ ap (going_on next) is

  -- a known set is taken as it is
  pub outcome-known : {A : Type 0} (k : Key) (next : List Data → Asking A) (items : List Item) (sets : S) (set : List Data) → known items k ≡ Some set → outcome source (ask k next) items sets ≡ outcome source (next set) items sets
  outcome-known {A} k next items sets set is =
      ap (λ o. let found : Outcome S A = elim o [
        | Some set ↦ outcome source (next set) items sets
        | None ↦ outcome source (next (source.set_at sets k)) (items ++ item_at source sets k ∷ []) (source.after_look sets)
      ] in found) is

  -- another one is read
  pub outcome-unread : {A : Type 0} (k : Key) (next : List Data → Asking A) (items : List Item) (sets : S) → known items k ≡ None → outcome source (ask k next) items sets ≡ outcome source (next (source.set_at sets k)) (items ++ item_at source sets k ∷ []) (source.after_look sets)
  outcome-unread {A} k next items sets is =
      ap (λ o. let found : Outcome S A = elim o [
        | Some set ↦ outcome source (next set) items sets
        | None ↦ outcome source (next (source.set_at sets k)) (items ++ item_at source sets k ∷ []) (source.after_look sets)
      ] in found) is

  -- one look more
  pub looked_more : (start old new : S) → new ≡ source.after_look old → IsLooked source start old → IsLooked source start new
  looked_more start old new is looked = (suc looked.0, is ∙ ap source.after_look looked.1)

known-new : (items : List Item) (item : Item) → known items item.key ≡ None → known (items ++ item ∷ []) item.key ≡ Some item.content
known-new [] item none = rw (same_key-refl item.key) refl
known-new (first ∷ items) item none = elim (cases_Bool (same_key first.key item.key)) [
  | inl same ↦ let never : Some first.content ≡ None = rw same at none in cc
  | inr other ↦ rw other (known-new items item (rw other at none))
]

advance-known : {A : Type 0} (items : List Item) (k : Key) (next : List Data → Asking A) (set : List Data) → known items k ≡ Some set → advance items (ask k next) ≡ advance items (next set)
advance-known {A} items k next set is =
    ap (λ o. let left : Asking A = elim o [ Some set ↦ advance items (next set) | None ↦ ask k next ] in left) is

advance-unknown : {A : Type 0} (items : List Item) (k : Key) (next : List Data → Asking A) → known items k ≡ None → advance items (ask k next) ≡ ask k next
advance-unknown {A} items k next is =
    ap (λ o. let left : Asking A = elim o [ Some set ↦ advance items (next set) | None ↦ ask k next ] in left) is

module _ {S : Type 0} (source : Source S) (kept : KeepsSets source) (start : S) where
  numbers_after : (count : ℕ) (k : Key) → source.number_at (after_looks source count start) k ≡ source.number_at start k
  numbers_after zero k = refl
  numbers_after (suc count) k = kept.numbers (after_looks source count start) k ∙ numbers_after count k

  sets_after : (count : ℕ) (k : Key) → source.set_at (after_looks source count start) k ≡ source.set_at start k
  sets_after zero k = refl
  sets_after (suc count) k = kept.sets (after_looks source count start) k ∙ sets_after count k

  -- a whole computation has come to what is left of it, over the sets that it asked for
  pub record HasCome {A : Type 0} (whole left : Asking A) (items : List Item) (sets : S) : Type 0 where
    pub rest : advance items whole ≡ advance items left
    pub trace : IsTrace whole items
    pub numbers : All (λ item. source.number_at start item.key ≡ item.number) items
    pub agrees : Agrees (source.set_at start) items
    pub looks : sets ≡ after_looks source (length items) start

  module _ {A : Type 0} (whole : Asking A) where
    come-known : (k : Key) (next : List Data → Asking A) (items : List Item) (sets : S) (set : List Data) → known items k ≡ Some set → HasCome whole (ask k next) items sets → HasCome whole (next set) items sets
    come-known k next items sets set is come = record {
      rest = come.rest ∙ advance-known items k next set is;
      trace = come.trace;
      numbers = come.numbers;
      agrees = come.agrees;
      looks = come.looks;
    }

    come-unread : (k : Key) (next : List Data → Asking A) (items : List Item) (sets : S) → known items k ≡ None → HasCome whole (ask k next) items sets → HasCome whole (next (source.set_at sets k)) (items ++ item_at source sets k ∷ []) (source.after_look sets)
    come-unread k next items sets none come = record {
      rest = sym (advance-advance items (item ∷ []) whole) ∙ ap (advance (items ++ item ∷ [])) come.rest ∙ advance-advance items (item ∷ []) (ask k next)
          ∙ advance-known (items ++ item ∷ []) k next item.content (known-new items item none);
      trace = trace-push whole items item come.trace first;
      numbers = All-push (λ item. source.number_at start item.key ≡ item.number) items item come.numbers
          (sym (numbers_after (length items) k) ∙ ap (λ s. source.number_at s k) (sym come.looks));
      agrees = All-push (λ item. source.set_at start item.key ≡ item.content) items item come.agrees
          (sym (sets_after (length items) k) ∙ ap (λ s. source.set_at s k) (sym come.looks));
      looks = ap source.after_look come.looks ∙ ap (λ n. after_looks source n start) one_more;
    }
      where
        item : Item
        item = item_at source sets k

        first : first_unknown items whole ≡ Some k
        first = first_unknown-next_key items whole ∙ ap next_key (come.rest ∙ advance-unknown items k next none)

        one_more : suc (length items) ≡ length (items ++ item ∷ [])
        one_more = omega (arith, length-append items (item ∷ []))

    -- it comes to its outcome
    come : (left : Asking A) (items : List Item) (sets : S) → HasCome whole left items sets → let o = outcome source left items sets in HasCome whole (done o.value) o.items o.sets
    come (done value) items sets is = is
    come (ask k next) items sets is = by (known items k) refl (λ set items sets is. come (next set) items sets is)
      where
        by : (o : Option (List Data)) → known items k ≡ o → ((set : List Data) (items : List Item) (sets : S) → HasCome whole (next set) items sets → let o = outcome source (next set) items sets in HasCome whole (done o.value) o.items o.sets)
            → let out = outcome source (ask k next) items sets in HasCome whole (done out.value) out.items out.sets
        by None none later =
            subst (λ (out : Outcome S A). HasCome whole (done out.value) out.items out.sets) (sym (outcome-unread source k next items sets none))
            (later (source.set_at sets k) (items ++ item_at source sets k ∷ []) (source.after_look sets) (come-unread k next items sets none is))
        by (Some set) there later =
            subst (λ (out : Outcome S A). HasCome whole (done out.value) out.items out.sets) (sym (outcome-known source k next items sets set there))
            (later set items sets (come-known k next items sets set there is))

    begun : HasCome whole whole [] start
    begun = record {
      rest = refl;
      trace = tt;
      numbers = All-nil (λ item. source.number_at start item.key ≡ item.number);
      agrees = All-nil (λ item. source.set_at start item.key ≡ item.content);
      looks = refl;
    }

    -- what a computation that reads from the start on comes to
    pub come_to : (value : A) (items : List Item) (sets : S) → Reads source whole [] start value items sets → HasCome whole (done value) items sets
    come_to value items sets is =
        subst (λ (out : Outcome S A). HasCome whole (done out.value) out.items out.sets) is (come whole [] start begun)

  module _ (valid : HasSets source start) where
    sets-valid : (items : List Item) → All (λ item. source.number_at start item.key ≡ item.number) items → Agrees (source.set_at start) items → All (λ item. IsSet item.key item.number item.content) items
    sets-valid items numbers agrees = λ n d inside.
        let item = get_or items n d in
        subst (λ content. IsSet item.key item.number content) (agrees n d inside)
        (subst (λ number. IsSet item.key number (source.set_at start item.key)) (numbers n d inside) (valid item.key))

    module _ (question : Question) (client : Client) (fits : abilities_fault client.preference ≡ None) (layout : Layout) (items : List Item) (sets : S) (is : Reads source (asking_route question client) [] start layout items sets) where
      abbrev route_come : HasCome (asking_route question client) (done layout) items sets
      route_come = come_to (asking_route question client) layout items sets is

      -- the finding of a route is sound
      pub sound-read : IsSound (record { question = question; client = client; layout = layout; items = items })
      sound-read =
          sound-done question client items layout (record { trace = route_come.trace; sets = sets-valid items route_come.numbers route_come.agrees; client = fits }) route_come.rest

      pub read_from : (found : Found) → found ≡ record { question = question; client = client; layout = layout; items = items } → IsReadFrom source start question client found
      read_from found is_found =
          subst (IsReadFrom source start question client) (sym is_found) (record {
            question = refl;
            client = refl;
            numbers = route_come.numbers;
            agrees = route_come.agrees;
            sound = sound-read;
          })

      -- with a look at each set
      pub looks-read : (found : Found) → found ≡ record { question = question; client = client; layout = layout; items = items } → sets ≡ after_looks source (length found.items) start
      looks-read found is_found = route_come.looks ∙ ap (λ (f : Found). after_looks source (length f.items) start) (sym is_found)
