-- The latest versions of a book's sets, as a set is read and as the zones are edited.
use Rattle.std.proofs.Common.{◌≡◌, ◌≢◌, ℕ, Bool, true, false, not, List, [], ◌∷◌, ◌++◌, nat_eq, Option, None, Some, IfSome, Ok, refl, ap, sym, subst, ◌∙◌, inl, inr, append-nil, arith}
use Rattle.std.proofs.lemmas.Bool.{cases_Bool}
use Rattle.sipl_records.specs.Sets.{data_of, has_key, same_key, same_record, set_of}
use Rattle.sipl_records.specs.declared.record.Key.{Key}
use Rattle.sipl_records.specs.declared.record.Record.{Record}
use Rattle.sipl_records.proofs.Public.{data_of-append, data_of-filter_kept, has_key-key_of, is_key, same_key-Decides, same_record-Decides, same_set-Decides}
use Rattle.sipl_zonestore.specs.Changes.{is_changed}
use Rattle.sipl_zonestore.specs.Edits.{after as after_edit, records_without}
use Rattle.sipl_zonestore.specs.Numbers.{is_empty, number_after}
use Rattle.sipl_zonestore.specs.Store.{Store, Zones, number_in}
use Rattle.sipl_zonestore.proofs.Public.{number-cases, number-kept, none-changed}
use Rattle.sipl_book.specs.Book.{BookState}
use Rattle.sipl_book.specs.Calls.{IsChanged}
use Rattle.sipl_book.specs.Machine.{zone_edit}
use Rattle.sipl_book.specs.declared.edit.Edit.{Edit}
use Rattle.sipl_book.specs.declared.edit.Edit.TheVariants.{Load, Unload, Add, Remove}
use Rattle.sipl_book.specs.declared.outcome.Done.{Done}
use Rattle.sipl_service.specs.LatestVersions.{AreLatestOf, IsLatestOf, key_edited, latest_at}
use Rattle.sipl_service.specs.declared.latest_versions.Latest.{Latest}

-- one latest version more
pub with-latest : (store : Store) (old new : Key → Option Latest) (key : Key) (latest : Latest) → AreLatestOf store old → IsLatestOf key (number_in store key) (set_of store.zones.records key) latest
    → new key ≡ Some latest → ((other : Key) → same_key key other ≡ false → new other ≡ old other) → AreLatestOf store new
with-latest store old new key latest latest_versions is kept others other = by (same_key key other) refl
  where
    at : Key → Type 0
    at k = IfSome (new k) (IsLatestOf k (number_in store k) (set_of store.zones.records k))

    by : (b : Bool) → same_key key other ≡ b → at other
    by true same = subst at ((same_key-Decides key other).0 same) (subst (λ found. IfSome found (IsLatestOf key (number_in store key) (set_of store.zones.records key))) (sym kept) is)
    by false apart = subst (λ found. IfSome found (IsLatestOf other (number_in store other) (set_of store.zones.records other))) (sym (others other apart)) (latest_versions other)

-- a latest version of this number stays
latest_at-same : (number : ℕ) (latest : Latest) → latest.number ≡ number → latest_at number (Some latest) ≡ Some latest
latest_at-same number latest same = rw same (grind (arith))

same-set : (old new : List Record) (key : Key) → data_of new key ≡ data_of old key → is_changed old new key ≡ false
same-set old new key same = ap not ((same_set-Decides (data_of old key) (data_of new key)).1 (sym same))

-- an edit of one record changes no data of another key
pub others-unchanged : (edit : Edit) (zones : Zones) (key other : Key) → key_edited edit ≡ Some key → same_key key other ≡ false
    → is_changed zones.records (after_edit (zone_edit edit) zones).records other ≡ false
others-unchanged (Load zone) zones key other edited apart = cc
others-unchanged (Unload apex) zones key other edited apart = cc
others-unchanged (Add r) zones key other edited apart =
    let out : has_key other r ≡ false = has_key-key_of other r ∙ ap (is_key other) edited ∙ apart in
    same-set zones.records (zones.records ++ r ∷ []) other (data_of-append zones.records (r ∷ []) other ∙ rw out (append-nil (data_of zones.records other)))
others-unchanged (Remove r) zones key other edited apart =
    let out : has_key other r ≡ false = has_key-key_of other r ∙ ap (is_key other) edited ∙ apart in
    let keeps : (own : Record) → has_key other own ≡ true → not (same_record r own) ≡ true = λ own of. elim (cases_Bool (same_record r own)) [
      | inl same ↦ let never : true ≡ false = sym of ∙ ap (has_key other) (sym ((same_record-Decides r own).0 same)) ∙ out in cc
      | inr apart ↦ ap not apart
    ] in
    same-set zones.records (records_without r zones.records) other (data_of-filter_kept (λ own. not (same_record r own)) other keeps zones.records)

module _ (edit : Edit) (old new : BookState) (done : Done) (h : IsChanged edit old new (Ok done)) where
  -- the latest version of a set that has not changed is that of its number then
  stays : (key : Key) (latest : Latest) → IsLatestOf key (number_in old.store key) (set_of old.store.zones.records key) latest
      → is_changed old.store.zones.records new.store.zones.records key ≡ false → latest_at (number_in new.store key) (Some latest) ≡ Some latest
  stays key latest is same =
      latest_at-same (number_in new.store key) latest
      (is.number ∙ sym (h.numbers key ∙ number-kept old.store.zones.records new.store.zones.records old.store.next (number_in old.store) key is.of_records same is.filled))

  stays-at : (key : Key) (found : Option Latest) → IfSome found (IsLatestOf key (number_in old.store key) (set_of old.store.zones.records key))
      → is_changed old.store.zones.records new.store.zones.records key ≡ false → latest_at (number_in new.store key) found ≡ found
  stays-at key None is same = refl
  stays-at key (Some latest) is same = stays key latest is same

  -- where the edit is of one record, the latest versions of all other keys stay
  pub others-stay : (latest_versions : Key → Option Latest) (key : Key) → AreLatestOf old.store latest_versions → key_edited edit ≡ Some key
      → (other : Key) → same_key key other ≡ false → latest_at (number_in new.store other) (latest_versions other) ≡ latest_versions other
  others-stay latest_versions key are edited other apart =
      stays-at other (latest_versions other) (are other)
      (subst (λ (zones : Zones). is_changed old.store.zones.records zones.records other ≡ false) (sym h.zones) (others-unchanged edit old.store.zones key other edited apart))

  -- where no set of records has changed, all latest versions stay
  pub all-stay : (latest_versions : Key → Option Latest) → AreLatestOf old.store latest_versions → done.changed ≡ 0 → (key : Key) → latest_versions key ≡ latest_at (number_in new.store key) (latest_versions key)
  all-stay latest_versions are zero key =
      sym (stays-at key (latest_versions key) (are key) (none-changed old.store.zones.records new.store.zones.records key (sym h.changed ∙ zero)))

  -- a latest version that has its set's number after the edit is that of the set
  latest_after : (key : Key) (latest : Latest) → IsLatestOf key (number_in old.store key) (set_of old.store.zones.records key) latest → latest.number ≡ number_in new.store key
      → IsLatestOf key (number_in new.store key) (set_of new.store.zones.records key) latest
  latest_after key latest is same =
      let records = old.store.zones.records in
      let number : number_in new.store key ≡ number_after records new.store.zones.records old.store.next (number_in old.store) key = h.numbers key in
      let taken : number_in new.store key ≢ 0 = λ zero. is.taken (sym is.number ∙ same ∙ zero) in
      let nonempty : is_empty (set_of new.store.zones.records key) ≡ false = elim (number-cases records new.store.zones.records old.store.next (number_in old.store) key is.of_records) [
        | inl some ↦ some.filled
        | inr (inl gone) ↦ absurd (taken (number ∙ gone.zero_number))
        | inr (inr kept) ↦ kept.filled
      ] in
      record {
        of_records = is.of_records;
        number = same;
        taken = taken;
        filled = λ empty. let never : true ≡ false = sym (ap is_empty empty) ∙ nonempty in cc;
      }

  latest_after-at : (key : Key) (found : Option Latest) → IfSome found (IsLatestOf key (number_in old.store key) (set_of old.store.zones.records key))
      → IfSome (latest_at (number_in new.store key) found) (IsLatestOf key (number_in new.store key) (set_of new.store.zones.records key))
  latest_after-at key None is = tt
  latest_after-at key (Some latest) is = elim (cases_Bool (nat_eq latest.number (number_in new.store key))) [
    | inl same ↦ rw same (latest_after key latest is (grind (arith, same)))
    | inr apart ↦ rw apart tt
  ]

  -- the latest versions after an edit, of which those are taken out whose number is no longer the set's
  pub latest_versions-after : (latest_versions now : Key → Option Latest) → AreLatestOf old.store latest_versions → ((key : Key) → now key ≡ latest_at (number_in new.store key) (latest_versions key)) → AreLatestOf new.store now
  latest_versions-after latest_versions now are is key =
      subst (λ found. IfSome found (IsLatestOf key (number_in new.store key) (set_of new.store.zones.records key))) (sym (is key)) (latest_after-at key (latest_versions key) (are key))
