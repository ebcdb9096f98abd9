use Rattle.std.proofs.Common.{◌≡◌, false, Option, None, Some, Err, is_some, refl, sym, subst, ◌∙◌, true≢false}
use Rattle.sipl_book.specs.Book.{BookState, IsConsistent}
use Rattle.sipl_book.specs.Cache.{CacheState}
use Rattle.sipl_book.specs.Calls.{IsForgotten}
use Rattle.sipl_book.specs.Entries.{EntryState, entry_of}
use Rattle.sipl_book.specs.Repairs.{after_removal}
use Rattle.sipl_book.specs.contracts.book.Book.{the_view}
use Rattle.sipl_book.specs.declared.fault.BookFault.TheVariants.{Unknown}
use Rattle.sipl_book.proofs.Committed.{absent_from_entry_of}
use Rattle.sipl_book.proofs.Removing.{without-absent}
use Rattle.sipl_book.proofs.Settling.{consistent-forgotten}
use Rattle.sipl_book.proofs.book.Book.forget.Goals as goal

pub invariant_of-self : goal.invariant_of-self
invariant_of-self c =
    let inside = c.self.inside in
    let old : BookState = the_view inside in
    let question = c.args.question.now in
    subst (λ (k : CacheState). IsConsistent (record old { entries = k.entries; queue = k.queue; max_entries = k.max_entries })) (sym c.forget.ensures.after)
    (consistent-forgotten old question (after_removal inside.cache.queue (entry_of inside.cache.entries question)) c.self.invariant)

pub invariant_of-self-2 : goal.invariant_of-self-2
invariant_of-self-2 c =
    let inside = c.self.inside in
    let old : BookState = the_view inside in
    let question = c.args.question.now in
    subst (λ (k : CacheState). IsConsistent (record old { entries = k.entries; queue = k.queue; max_entries = k.max_entries })) (sym c.forget.ensures.after)
    (consistent-forgotten old question (after_removal inside.cache.queue (entry_of inside.cache.entries question)) c.self.invariant)

no_entry : (o : Option EntryState) → is_some o ≡ false → o ≡ None
no_entry None is = refl
no_entry (Some e) is = absurd (true≢false is)

pub returns-then-not-forget : goal.returns-then-not-forget
returns-then-not-forget c =
    let inside = c.self.inside in
    let old : BookState = the_view inside in
    let question = c.args.question.now in
    let none = no_entry (entry_of old.entries question) (sym c.forget.ensures.known ∙ c.if-not-forget.true) in
    let new : BookState = record old { entries = c.forget.new.self.entries; queue = c.forget.new.self.queue; max_entries = c.forget.new.self.max_entries } in
    let same : new ≡ old =
    (λ i. record old {
      entries = (c.forget.ensures.after i).entries;
      queue = (c.forget.ensures.after i).queue;
      max_entries = (c.forget.ensures.after i).max_entries;
    })
    ∙ (λ i. record old {
      entries = without-absent question old.entries (absent_from_entry_of question old.entries none) i;
      queue = after_removal old.queue (none i);
    }) in
    subst (λ before. IsForgotten question before new (Err Unknown)) c.self.view_is
    (record { known = tt; after = tt; refused = (refl, none); unchanged = same })
