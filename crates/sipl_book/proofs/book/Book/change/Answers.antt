use Rattle.std.proofs.Common.{◌≡◌, ◌+◌, Ok, List, [], ◌∷◌, ◌++◌, length, map, refl, sym, ap, subst, ◌∙◌}
use Rattle.sipl_records.specs.declared.record.Key.{Key}
use Rattle.sipl_book.specs.Book.{IsConsistent}
use Rattle.sipl_book.specs.BookFields.{book_of}
use Rattle.sipl_book.specs.Cache.{CacheState}
use Rattle.sipl_book.specs.Calls.{IsChanged}
use Rattle.sipl_book.specs.Entries.{after_change}
use Rattle.sipl_book.specs.Repairs.{after_marks, dependents}
use Rattle.sipl_book.proofs.Changing.{consistent-changed, made-change, refused-change}
use Rattle.sipl_book.proofs.book.Book.change.Goals as goal

pub returns-in-Err-apply : goal.returns-in-Err-apply
returns-in-Err-apply c =
    rw (c.into.ensures, ← c.self.view_is) (refused-change c.args.edit _ c.apply.new.store c.reserve_event.new.journal.items c.in-Err-apply.fault c.self.invariant c.in-Err-apply.ensures c.in_default.ensures.few c.reserve_event.ensures.items)

pub invariant_of-self-2 : goal.invariant_of-self-2
invariant_of-self-2 c =
    let inside = c.self.inside in
    let keys = c.in-Ok.changed.keys in
    let events = c.record_event-number.new.journal.items in
    let changed = λ (changes : List Key). record inside.cache {
      entries = map (after_change changes) inside.cache.entries;
      queue = after_marks inside.cache.queue (dependents changes inside.cache.entries);
    } in
    let cache : c.outdate.new.self ≡ changed keys = c.outdate.ensures ∙ ap changed c.as_slice.ensures in
    subst (λ (k : CacheState). IsConsistent (record (book_of inside) {
      store = c.apply.new.store;
      journal = events;
      entries = k.entries;
      queue = k.queue;
      max_entries = k.max_entries;
    })) (sym cache)
    (consistent-changed c.args.edit _ c.apply.new.store c.in-Ok.changed events (changed keys).entries (changed keys).queue c.self.invariant c.in-Ok.ensures c.in_default.ensures.few
    (c.record_event-number.ensures.items ∙ (λ i. c.reserve_event.ensures.items i ++ c.change_event-event.ensures i ∷ [])) refl)

pub returns : goal.returns
returns c =
    let inside = c.self.inside in
    let keys = c.in-Ok.changed.keys in
    let events = c.record_event-number.new.journal.items in
    let changed = λ (changes : List Key). record inside.cache {
      entries = map (after_change changes) inside.cache.entries;
      queue = after_marks inside.cache.queue (dependents changes inside.cache.entries);
    } in
    let cache : c.outdate.new.self ≡ changed keys = c.outdate.ensures ∙ ap changed c.as_slice.ensures in
    rw (← c.self.view_is)
    (subst (λ (k : CacheState). IsChanged c.args.edit (book_of inside) (record (book_of inside) {
      store = c.apply.new.store;
      journal = events;
      entries = k.entries;
      queue = k.queue;
      max_entries = k.max_entries;
    }) (Ok (record { number = c.record_event-number.result; changed = c.in-Ok.changed.sets }))) (sym cache)
    (made-change c.args.edit (book_of inside) c.apply.new.store c.in-Ok.changed c.record_event-number.result events c.self.invariant c.in-Ok.ensures c.in_default.ensures.few
    (c.record_event-number.ensures.number ∙ ap (λ events. inside.first + length events) c.reserve_event.ensures.items)
    (c.record_event-number.ensures.items ∙ (λ i. c.reserve_event.ensures.items i ++ c.change_event-event.ensures i ∷ []))))
