-- Edits of a book: which entries stay up to date, and that the book stays consistent.
use Rattle.std.proofs.Common.{◌≡◌, ◌≢◌, ℕ, ◌+◌, ◌<◌, ◌≤◌, ◌||◌, Bool, true, false, not, cond, leb, ltb, List, [], ◌∷◌, ◌++◌, map, length, Option, None, Some, option_map, Ok, Err, inl, inr, refl, sym, ap, subst, ◌∙◌, arith, length-append}
use Rattle.std.specs.Option.{option_or}
use Rattle.std.specs.List.{All, count_by, list_any}
use Rattle.std.proofs.Math.ListN.{length-map}
use Rattle.std.proofs.lemmas.Bool.{cases_Bool, and_parts, cond-false, lt-leb, le-ltb, leb-false, ltb-false}
use Rattle.std.proofs.lemmas.List.Elements.{All-nil, All-cons, All-map, All-weaker}
use Rattle.sipl_names.specs.Labels.{is_wildcard}
use Rattle.sipl_records.specs.declared.record.Key.{Key}
use Rattle.sipl_records.specs.Sets.{same_key, same_record, conflicts, shares_set}
use Rattle.sipl_evidence.specs.Items.{Item}
use Rattle.sipl_evidence.specs.Known.{is_unknown}
use Rattle.sipl_zonestore.specs.declared.changed.Changed.{Changed}
use Rattle.sipl_zonestore.specs.declared.fault.StoreFault.{StoreFault}
use Rattle.sipl_zonestore.specs.declared.fault.StoreFault.TheVariants.{Overlap, NoZone, Duplicate, Absent, AliasBesideData, SetFull, StoreFull, NumberSpent, WildApex, Memory}
use Rattle.sipl_zonestore.specs.Store.{Zones, Store, overlaps, is_covered, records_after_load}
use Rattle.sipl_zonestore.specs.Edits.{Edit as ZoneEdit, load, unload, add, remove, refusal_of}
use Rattle.sipl_zonestore.specs.Edited.{IsEdited, IsKept}
use Rattle.sipl_repair.specs.QueueState.{QueueState}
use Rattle.sipl_book.specs.Book.{BookState, IsConsistent, IsGoodEntry, next_event}
use Rattle.sipl_book.specs.BookFault.{of_store}
use Rattle.sipl_book.specs.Calls.{IsChanged}
use Rattle.sipl_book.specs.Entries.{EntryState, depends_on, after_change}
use Rattle.sipl_book.specs.Repairs.{after_marks, dependents}
use Rattle.sipl_book.specs.Machine.{IsAccepted, zone_edit, after}
use Rattle.sipl_book.specs.declared.edit.Edit.{Edit}
use Rattle.sipl_book.specs.declared.event.Event.{Event}
use Rattle.sipl_book.specs.declared.event.Event.TheVariants.{Change}
use Rattle.sipl_book.specs.declared.fault.BookFault.TheVariants.{JournalFull, Store as OfStore, Memory as BookMemory}
use Rattle.sipl_book.proofs.Committed.{AllPairs-map}
use Rattle.sipl_book.proofs.Honest.{TakesNumbers, read-after}
use Rattle.sipl_book.proofs.Journal.{legal-push, replay-push}

-- ---- an edit that is accepted is accepted where more records may be kept

guarded : (b : Bool) (fault : StoreFault) (p q : Option StoreFault) → (p ≡ None → q ≡ None)
    → cond b (Some fault) p ≡ None → cond b (Some fault) q ≡ None
guarded true fault p q rest accepted = accepted
guarded false fault p q rest accepted = rest accepted

load_with_more : (max larger n : ℕ) → max ≤ larger → cond (ltb max n) (Some StoreFull) None ≡ None → cond (ltb larger n) (Some StoreFull) None ≡ None
load_with_more max larger n within accepted = elim (cases_Bool (ltb max n)) [
  | inl full ↦ let refused : Some StoreFull ≡ None = ap (λ b. cond b (Some StoreFull) None) (sym full) ∙ accepted in cc
  | inr space ↦ cond-false _ _ _ (le-ltb larger n (omega (arith, ltb-false max n space, within)))
]

add_with_more : (max larger n : ℕ) → max ≤ larger → cond (leb max n) (Some StoreFull) None ≡ None → cond (leb larger n) (Some StoreFull) None ≡ None
add_with_more max larger n within accepted = elim (cases_Bool (leb max n)) [
  | inl full ↦ let refused : Some StoreFull ≡ None = ap (λ b. cond b (Some StoreFull) None) (sym full) ∙ accepted in cc
  | inr space ↦ cond-false _ _ _ (lt-leb larger n (omega (arith, leb-false max n space, within)))
]

pub edit_with_more : (max larger : ℕ) (edit : ZoneEdit) (zones : Zones) → max ≤ larger → refusal_of max edit zones ≡ None → refusal_of larger edit zones ≡ None
edit_with_more max larger (load zone) zones within accepted =
    guarded (is_wildcard zone.apex) WildApex _ _
    (guarded (list_any (overlaps zone.apex) zones.apexes) Overlap _ _ (load_with_more max larger (length (records_after_load zone zones.records)) within)) accepted
edit_with_more max larger (unload apex) zones within accepted = accepted
edit_with_more max larger (add r) zones within accepted =
    guarded (not (is_covered zones.apexes r.owner)) NoZone _ _
    (guarded (list_any (same_record r) zones.records) Duplicate _ _
    (guarded (list_any (conflicts r) zones.records) AliasBesideData _ _
    (guarded (leb 32 (count_by (shares_set r) zones.records)) SetFull _ _ (add_with_more max larger (length zones.records) within)))) accepted
edit_with_more max larger (remove r) zones within accepted = accepted

first_none : (first second : Option StoreFault) → option_or first second ≡ None → first ≡ None
first_none None second none = refl
first_none (Some fault) second none = none

-- ---- entries that do not depend on the keys

other_keys : (k : Key) (items : List Item) → is_unknown items k ≡ true → All (λ item. same_key item.key k ≡ false) items
other_keys k [] unknown = All-nil (λ item. same_key item.key k ≡ false)
other_keys k (item ∷ items) unknown = elim (cases_Bool (same_key item.key k)) [
  | inl same ↦ let never : false ≡ true = rw same at unknown in cc
  | inr other ↦ All-cons (λ item. same_key item.key k ≡ false) item items other (other_keys k items (rw other at unknown))
]

was_false : (b : Bool) → not b ≡ false → b ≡ true
was_false true is = refl
was_false false is = sym is

neither : (a b : Bool) → (a || b) ≡ false → (a ≡ false) × (b ≡ false)
neither true b none = let never : true ≡ false = none in cc
neither false b none = (refl, none)

-- none of the keys is that of an item
apart : (keys : List Key) (items : List Item) → list_any (λ k. not (is_unknown items k)) keys ≡ false → All (λ item. list_any (same_key item.key) keys ≡ false) items
apart [] items none = λ i d inside. refl
apart (k ∷ keys) items none =
    let both = neither (not (is_unknown items k)) (list_any (λ k. not (is_unknown items k)) keys) none in
    λ i d inside. λ j. other_keys k items (was_false (is_unknown items k) both.0) i d inside j || apart keys items both.1 i d inside j

-- a good entry stays good: what changed is not in its evidence, or else it is outdated
module _ (old new : BookState) (keys : List Key) (client : new.client ≡ old.client)
    (kept : (key : Key) → list_any (same_key key) keys ≡ false → IsKept old.store new.store key)
    (edited : TakesNumbers old.store new.store) (later : next_event old ≤ next_event new) where
  good-after_change : (entry : EntryState) → IsGoodEntry old entry → IsGoodEntry new (after_change keys entry)
  good-after_change entry good =
      record {
        client = good.client ∙ sym client;
        sound = good.sound;
        read = read-after old.store new.store entry.found.items edited good.read;
        up_to_date = λ current.
            let parts = and_parts entry.is_current (not (depends_on keys entry)) current in
            let others = apart keys entry.found.items (was_true (depends_on keys entry) parts.1) in
            let fresh = good.up_to_date parts.0 in
            record {
              agrees = λ i d inside. (kept _ (others i d inside)).0 ∙ fresh.agrees i d inside;
              numbers = λ i d inside. (kept _ (others i d inside)).1 ∙ fresh.numbers i d inside;
            };
        made = omega (arith, good.made, later);
      } where
        was_true : (b : Bool) → not b ≡ true → b ≡ false
        was_true true is = sym is
        was_true false is = refl

  all_good-after_change : (entries : List EntryState) → All (IsGoodEntry old) entries → All (IsGoodEntry new) (map (after_change keys) entries)
  all_good-after_change entries good =
      All-map (IsGoodEntry new) (after_change keys) entries (All-weaker (IsGoodEntry old) (λ entry. IsGoodEntry new (after_change keys entry)) good-after_change entries good)

-- ---- an edit that is made

pub consistent-changed : (edit : Edit) (old : BookState) (store : Store) (changed : Changed) (journal : List Event) (entries : List EntryState) (queue : QueueState)
    → IsConsistent old → IsEdited (zone_edit edit) old.store store (Ok changed) → length old.journal < old.max_events
    → journal ≡ old.journal ++ Change edit ∷ [] → entries ≡ map (after_change changed.keys) old.entries
    → IsConsistent (record old { store = store; journal = journal; entries = entries; queue = queue })
consistent-changed edit old store changed journal entries queue good edited space journal_is entries_is =
    let keys = changed.keys in
    let events = old.journal ++ Change edit ∷ [] in
    let longer : length events ≡ length old.journal + 1 = length-append old.journal (Change edit ∷ []) in
    let accepted = edit_with_more old.store.max_records 1048576 (zone_edit edit) old.store.zones good.records_limit (first_none (refusal_of old.store.max_records (zone_edit edit) old.store.zones) _ edited.accepted) in
    let new : BookState = record old { store = store; journal = events; entries = map (after_change keys) old.entries; queue = queue } in
    subst (λ (p : List Event × List EntryState). IsConsistent (record old { store = store; journal = p.0; entries = p.1; queue = queue })) (λ i. (sym journal_is i, sym entries_is i))
    (record {
      legal = legal-push old.client old.held old.journal (Change edit) old.base good.legal (subst (IsAccepted old.client old.held (Change edit)) (sym good.replayed) accepted);
      replayed = replay-push old.journal (Change edit) old.base ∙ ap (after (Change edit)) good.replayed ∙ (λ i. record { zones = sym edited.after i; holds = old.board.holds });
      store = edited.consistent;
      board = good.board;
      entries = all_good-after_change old new keys refl edited.kept (record { numbers = edited.numbers; next = edited.next }) (omega (arith, longer)) old.entries good.entries;
      questions = AllPairs-map (after_change keys) (λ a b. a.found.question ≢ b.found.question) (λ a b. a.found.question ≢ b.found.question) (λ a b other. other) old.entries good.questions;
      ids = AllPairs-map (after_change keys) (λ a b. a.id < b.id) (λ a b. a.id < b.id) (λ a b below. below) old.entries good.ids;
      few_entries = omega (arith, length-map old.entries (after_change keys), good.few_entries);
      few_events = omega (arith, longer, space);
      first_limit = good.first_limit;
      records_limit = rw edited.limit good.records_limit;
      entries_limit = good.entries_limit;
      events_limit = good.events_limit;
    })

pub made-change : (edit : Edit) (old : BookState) (store : Store) (changed : Changed) (number : ℕ) (journal : List Event)
    → IsConsistent old → IsEdited (zone_edit edit) old.store store (Ok changed) → length old.journal < old.max_events → number ≡ next_event old → journal ≡ old.journal ++ Change edit ∷ []
    → IsChanged edit old (record old {
      store = store;
      journal = journal;
      entries = map (after_change changed.keys) old.entries;
      queue = after_marks old.queue (dependents changed.keys old.entries);
    }) (Ok (record { number = number; changed = changed.sets }))
made-change edit old store changed number journal good edited space number_is journal_is =
    record {
      accepted = cond-false (leb old.max_events (length old.journal)) (Some JournalFull) _ (lt-leb old.max_events (length old.journal) space)
          ∙ ap (option_map OfStore) edited.accepted;
      number = number_is;
      changed = edited.counted;
      zones = edited.after;
      numbers = edited.numbers;
      next = edited.next;
      journal = journal_is;
      entries = ap (λ keys. map (after_change keys) old.entries) edited.changed;
      queue = ap (λ keys. after_marks old.queue (dependents keys old.entries)) edited.changed;
      refused = tt;
      memory = tt;
      unchanged = tt;
      first = refl;
      base = refl;
      looks = edited.looks;
      max_records = edited.limit;
      board = refl;
      client = refl;
      held = refl;
      max_entries = refl;
      max_events = refl;
      consistent = consistent-changed edit old store changed journal (map (after_change changed.keys) old.entries)
          (after_marks old.queue (dependents changed.keys old.entries)) good edited space journal_is refl;
    }

-- ---- an edit that is refused

fault-of : (fault : StoreFault) → of_store fault ≢ BookMemory → Some (OfStore fault) ≡ Some (of_store fault)
fault-of Overlap some = refl
fault-of NoZone some = refl
fault-of Duplicate some = refl
fault-of Absent some = refl
fault-of AliasBesideData some = refl
fault-of SetFull some = refl
fault-of StoreFull some = refl
fault-of NumberSpent some = refl
fault-of WildApex some = refl
fault-of Memory some = absurd (some refl)

memory-of : (fault : StoreFault) → of_store fault ≡ BookMemory → fault ≡ Memory
memory-of Overlap is = cc
memory-of NoZone is = cc
memory-of Duplicate is = cc
memory-of Absent is = cc
memory-of AliasBesideData is = cc
memory-of SetFull is = cc
memory-of StoreFull is = cc
memory-of NumberSpent is = cc
memory-of WildApex is = cc
memory-of Memory is = refl

pub refused-change : (edit : Edit) (old : BookState) (store : Store) (journal : List Event) (fault : StoreFault)
    → IsConsistent old → IsEdited (zone_edit edit) old.store store (Err fault) → length old.journal < old.max_events → journal ≡ old.journal
    → IsChanged edit old (record old { store = store; journal = journal }) (Err (of_store fault))
refused-change edit old store journal fault good edited space journal_is =
    record {
      accepted = tt;
      number = tt;
      changed = tt;
      zones = tt;
      numbers = tt;
      next = tt;
      journal = tt;
      entries = tt;
      queue = tt;
      refused = λ some.
          cond-false (leb old.max_events (length old.journal)) (Some JournalFull) _ (lt-leb old.max_events (length old.journal) space)
          ∙ ap (option_map OfStore) (edited.refused (λ memory. some (ap of_store memory)))
          ∙ fault-of fault some;
      memory = λ memory.
          cond-false (leb old.max_events (length old.journal)) (Some JournalFull) _ (lt-leb old.max_events (length old.journal) space)
          ∙ ap (option_map OfStore) (edited.memory (memory-of fault memory));
      unchanged = λ i. record old { store = edited.unchanged i; journal = journal_is i };
      first = refl;
      base = refl;
      looks = edited.looks;
      max_records = edited.limit;
      board = refl;
      client = refl;
      held = refl;
      max_entries = refl;
      max_events = refl;
      consistent = subst IsConsistent (λ i. record old { store = sym edited.unchanged i; journal = sym journal_is i }) good;
    }
