use Rattle.std.proofs.Common.{◌≡◌, ◌<◌, ◌∷◌, ◌++◌, [], length, sym, ap, subst, ◌∙◌, rules}
use Rattle.sipl_plans.specs.Plan.{draw}
use Rattle.sipl_plans.specs.declared.layout.Layout.{Layout}
use Rattle.sipl_choice.specs.Abilities.{Client}
use Rattle.sipl_records.specs.Sets.{set_of}
use Rattle.sipl_book.specs.Book.{BookState, IsConsistent, answer_now, next_event}
use Rattle.sipl_book.specs.Calls.{after_commit, answer_event}
use Rattle.sipl_book.specs.Entries.{committed, entry_of}
use Rattle.sipl_book.specs.Honesty.{AreCurrent}
use Rattle.sipl_book.specs.Machine.{answer_in}
use Rattle.sipl_book.specs.Repairs.{after_renewal}
use Rattle.sipl_book.specs.contracts.book.Book.{the_view}
use Rattle.sipl_book.specs.declared.event.Event.TheVariants.{Answer}
use Rattle.sipl_book.proofs.Committing.{consistent_committed}
use Rattle.sipl_book.proofs.book.Book.commit_drawn.Goals as goal

pub invariant_of-self : goal.invariant_of-self
invariant_of-self c =
    let inside = c.self.inside in
    let old : BookState = the_view inside in
    let found = c.args.finding in
    let words = c.args.draws in
    let client : found.client ≡ inside.abilities = c.requires.client ∙ sym (ap (λ (b : BookState). b.client) c.self.view_is) in
    let now : AreCurrent inside.store found.items = subst (λ (b : BookState). AreCurrent b.store found.items) (sym c.self.view_is) c.requires.current in
    let space : length old.journal < old.max_events = subst (λ (b : BookState). length b.journal < b.max_events) (sym c.self.view_is) c.requires.space in
    let answer : c.args.answer ≡ answer_now old found.question words =
    c.requires.answer ∙ sym (ap (λ (b : BookState). draw found.layout b.board.holds words b.held) c.self.view_is)
    ∙ ap (λ (layout : Layout). draw layout inside.board.holds words inside.held) (sym (c.requires.sound.route (set_of inside.store.zones.records) now.agrees))
    ∙ ap (λ (client : Client). answer_in (record { zones = inside.store.zones; holds = inside.board.holds }) found.question client inside.held words) client in
    let event : Answer c.args.question words c.args.answer ≡ answer_event old found.question words =
    λ i. Answer (c.requires.question i) words (answer i) in
    let id : c.next_event-id.result ≡ next_event old = search rules in
    let journal : c.record_event-number.new.journal.items ≡ inside.journal.items ++ answer_event old found.question words ∷ [] =
    c.record_event-number.ensures.items ∙ (λ i. c.commit_reserved.ensures.items i ++ event i ∷ []) in
    let cache : c.commit_reserved.new.cache ≡ record inside.cache {
      entries = committed found (next_event old) inside.cache.max_entries inside.cache.entries;
      queue = after_renewal inside.cache.queue (entry_of inside.cache.entries found.question);
    } =
    c.in-Ok.ensures.ok ∙ ap (λ n. record inside.cache {
      entries = committed found n inside.cache.max_entries inside.cache.entries;
      queue = after_renewal inside.cache.queue (entry_of inside.cache.entries found.question);
    }) id in
    subst IsConsistent
    (λ i. record (after_commit found words old) {
      journal = sym journal i;
      entries = (sym cache i).entries;
      queue = (sym cache i).queue;
      max_entries = (sym cache i).max_entries;
    })
    (consistent_committed old found words c.self.invariant c.requires.sound client space now)
