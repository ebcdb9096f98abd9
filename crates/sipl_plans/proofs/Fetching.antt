-- The set in a place of the evidence, which was known or is read.
use Rattle.std.proofs.Common.{◌≡◌, ℕ, List, [], ◌∷◌, ◌++◌, length, get_or, None, Some, ap, sym, ◌∙◌, arith, length-append}
use Rattle.std.specs.Prelude.{slice_get}
use Rattle.std.proofs.lemmas.Option.{slice_get-get_or}
use Rattle.std.proofs.Math.Seq.{get_or-append_seam}
use Rattle.sipl_records.specs.declared.data.Data.{Data}
use Rattle.sipl_records.specs.declared.record.Key.{Key}
use Rattle.sipl_evidence.specs.Items.{Item}
use Rattle.sipl_evidence.specs.Known.{known}
use Rattle.sipl_evidence.specs.Looks.{Asking, ask}
use Rattle.sipl_evidence.specs.Places.{place_of}
use Rattle.sipl_evidence.proofs.Public.{known-place, known-no_place, place_of-within}
use Rattle.sipl_plans.specs.Readings.{Source, LeadsTo, content_in, item_at, outcome}
use Rattle.sipl_plans.proofs.Outcomes.{outcome-known, outcome-unread}

an_item : Key → Item
an_item k = record { key = k; number = 0; content = [] }

-- the data in the place of an item
content-item : (items : List Item) (place : ℕ) (item : Item) → slice_get items place ≡ Some item → content_in items place ≡ item.content
content-item items place item at =
    ap (λ o. let found : List Data = elim o [ Some item ↦ item.content | None ↦ [] ] in found) at

-- the data in the place of a key's item are those known of the key
known-content : (items : List Item) (k : Key) (place : ℕ) → place_of items k ≡ Some place → known items k ≡ Some (content_in items place)
known-content items k place at =
    let item : Item = get_or items place (an_item k) in
    known-place items k place (an_item k) at
    ∙ ap Some (sym (content-item items place item (slice_get-get_or items place (an_item k) (place_of-within items k place at))))

-- the data of the item that was appended
content-last : (items : List Item) (item : Item) → content_in (items ++ item ∷ []) (length items) ≡ item.content
content-last items item =
    content-item (items ++ item ∷ []) (length items) item
    (slice_get-get_or (items ++ item ∷ []) (length items) item (omega (arith, length-append items (item ∷ [])))
    ∙ ap Some (get_or-append_seam items item [] item))

module _ {S : Type 0} (source : Source S) (items : List Item) (sets : S) (k : Key) where
  -- a set in a place
  pub fetched-known : (place : ℕ) → place_of items k ≡ Some place → (next : List Data → Asking (List Data)) → LeadsTo source (ask k next) items sets (next (content_in items place)) items sets
  fetched-known place at next = outcome-known source k next items sets (content_in items place) (known-content items k place at)

  -- a set that is read
  pub fetched-unread : place_of items k ≡ None → (item : Item) → item.key ≡ k → item.number ≡ source.number_at sets k → item.content ≡ source.set_at sets k
      → (new : List Item) → new ≡ items ++ item ∷ [] → (place : ℕ) → place ≡ length items → (later : S) → later ≡ source.after_look sets
      → (next : List Data → Asking (List Data)) → LeadsTo source (ask k next) items sets (next (content_in new place)) new later
  fetched-unread none item key number content new new_is place place_is later later_is next =
      let read : item ≡ item_at source sets k = (λ i. record { key = key i; number = number i; content = content i }) in
      let here : content_in new place ≡ source.set_at sets k =
      ap (λ xs. content_in xs place) new_is ∙ ap (content_in (items ++ item ∷ [])) place_is ∙ content-last items item ∙ content in
      outcome-unread source k next items sets (known-no_place items k none)
      ∙ ap (λ set. outcome source (next set) (items ++ item_at source sets k ∷ []) (source.after_look sets)) (sym here)
      ∙ ap (λ one. outcome source (next (content_in new place)) (items ++ one ∷ []) (source.after_look sets)) (sym read)
      ∙ ap (λ xs. outcome source (next (content_in new place)) xs (source.after_look sets)) (sym new_is)
      ∙ ap (λ s. outcome source (next (content_in new place)) new s) (sym later_is)
