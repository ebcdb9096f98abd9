-- What always holds of a world holds after a step of a worker.
use Rattle.std.proofs.Common.{◌≡◌, ◌≢◌, ◌⊎◌, ℕ, ◌+◌, ◌<◌, eqb, List, [], ◌∷◌, ◌++◌, length, set, Option, Some, None, option_map, Result, Ok, Err, OnOk, inl, inr, refl, sym, ap, subst, ◌∙◌, arith, true≢false}
use Rattle.std.specs.List.{All}
use Rattle.std.proofs.lemmas.Bool.{cases_Bool, cond-false}
use Rattle.std.proofs.lemmas.List.Elements.{All-head, All-tail, All-weaker, All-push}
use Rattle.std.proofs.lemmas.Map.Views.{exact_unsigned_eq}
use Rattle.std.proofs.lemmas.Option.{none-some, same_Some}
use Rattle.sipl_records.specs.Sets.{set_of}
use Rattle.sipl_uri.specs.declared.question.Question.{Question}
use Rattle.sipl_evidence.specs.Items.{Item, IsItem}
use Rattle.sipl_plans.specs.Findings.{Found, IsSound}
use Rattle.sipl_plans.specs.Runs.{RunState}
use Rattle.sipl_repair.specs.QueueState.{after_lease, is_leased}
use Rattle.sipl_zonestore.specs.Store.{Store, number_in}
use Rattle.sipl_book.specs.Book.{BookState, IsConsistent, IsGoodEntry, next_event}
use Rattle.sipl_book.specs.Calls.{IsLeased, IsSettled, after_commit, after_give_back, after_look, after_settlement, after_stale, is_renumbered, with_looks}
use Rattle.sipl_book.specs.Entries.{EntryState, entry_of, renewed}
use Rattle.sipl_book.specs.Honesty.{AreCurrent, WasGiven, WereRead}
use Rattle.sipl_book.specs.Repairs.{entry_with}
use Rattle.sipl_book.specs.declared.fault.BookFault.{BookFault}
use Rattle.sipl_book.specs.declared.fault.BookFault.TheVariants.{JournalFull, NotCurrent, Stale, Unknown, Gone, PagesSpent, Queue, Store as OfStore, Board, Memory}
use Rattle.sipl_book.specs.declared.outcome.Uncommitted.{Uncommitted}
use Rattle.sipl_book.proofs.Public.{consistent-queued, consistent-settled, consistent_looked, id-renewed}
use Rattle.sipl_interleave.specs.Jobs.{Job, job_at, lease_of, with_item}
use Rattle.sipl_interleave.specs.World.{IsGoodJob, IsLeaseOf, IsWorld, WorldState}
use Rattle.sipl_interleave.proofs.Entries.{absent-committed, absent-map}
use Rattle.sipl_interleave.proofs.Keeping.{Moves, changed-world, moved-world}
use Rattle.sipl_interleave.proofs.Leases.{Leases, Spends, leased-renewal, leases-lease, spends-failure, spends-return, spends-settle, was_leased}
use Rattle.sipl_interleave.proofs.Moving.{one_later}
use Rattle.sipl_interleave.proofs.Numbers.{same_or_not}

-- ---- a worker keeps its lease, or has none before and after

pub worked-world : (old : WorldState) (book : BookState) (w : ℕ) (worker : Option Job) → IsWorld old → w < length old.workers → Moves old.book book
    → lease_of worker ≡ lease_of (job_at old.workers w) → ((job : Job) → worker ≡ Some job → IsGoodJob book job)
    → IsWorld (record { book = book; workers = set old.workers w worker })
worked-world old book w worker good within to same job =
    changed-world old book w worker good (record {
      within = within;
      client = to.client;
      read = to.read;
      job = job;
      leases = λ v id other has. to.leases id (good.leases v id has);
      lease = λ id has. to.leases id (good.leases w id (sym same ∙ has));
      own = λ v id other has own. other (good.own v w id has (sym same ∙ own));
      held = λ id leased.
          let p = good.held id (to.held id leased) in
          elim (same_or_not p.0 w) [
            | inl is ↦ inl (same ∙ ap (λ v. lease_of (job_at old.workers v)) (sym is) ∙ p.1)
            | inr other ↦ inr (p.0, other, p.1)
          ];
      consistent = to.consistent;
    })

-- the book stays
pub stays : (old : WorldState) → IsWorld old → Moves old.book old.book
stays old good =
    record { client = refl; read = λ items was. was; leases = λ id out. out; held = λ id held. held; consistent = good.book }

-- sets of the book were looked at
read-looked : (looks : ℕ) (book : BookState) (items : List Item) → WereRead book.store items → WereRead (with_looks looks book).store items
read-looked looks book items was = record { sets = was.sets; given = was.given; honest = was.honest }

pub moves-looked : (looks : ℕ) (old : WorldState) → IsWorld old → Moves old.book (with_looks looks old.book)
moves-looked looks old good =
    record {
      client = refl;
      read = λ items was. read-looked looks old.book items was;
      leases = λ id out. record { made = out.made; leased = out.leased };
      held = λ id held. held;
      consistent = consistent_looked looks old.book good.book;
    }

pub world-looked : (looks : ℕ) (old : WorldState) (book : BookState) → IsWorld old → book ≡ with_looks looks old.book → IsWorld (record { book = book; workers = old.workers })
world-looked looks old book good is =
    subst (λ (b : BookState). IsWorld (record { book = b; workers = old.workers })) (sym is) (moved-world old (with_looks looks old.book) good (moves-looked looks old good))

-- ---- a run is begun

pub good-new : (book : BookState) (run : RunState) → run.client ≡ book.client → run.items ≡ [] → (lease : Option ℕ) → IsGoodJob book (record { run = run; lease = lease })
good-new book run client none lease =
    record {
      client = client;
      read = subst (WereRead book.store) (sym none) (record { sets = λ k d below. absurd (omega arith); given = λ k d below. absurd (omega arith); honest = λ k d below. absurd (omega arith) });
    }

pub world-started : (old : WorldState) (w : ℕ) (run : RunState) → IsWorld old → w < length old.workers → job_at old.workers w ≡ None
    → run.client ≡ old.book.client → run.items ≡ []
    → IsWorld (record { book = old.book; workers = set old.workers w (Some (record { run = run; lease = None })) })
world-started old w run good within idle client none =
    worked-world old old.book w (Some (record { run = run; lease = None })) good within (stays old good) (sym (ap lease_of idle))
    (λ job is. subst (IsGoodJob old.book) (same_Some _ job is) (good-new old.book run client none None))

-- ---- a set is read

read-push : (store : Store) (items : List Item) (item : Item) → WereRead store items → IsItem item → WasGiven store.next item
    → set_of store.zones.records item.key ≡ item.content → WereRead store (items ++ item ∷ [])
read-push store items item was set given content =
    record {
      sets = All-push IsItem items item was.sets set;
      given = All-push (WasGiven store.next) items item was.given given;
      honest = All-push (λ x. number_in store x.key ≡ x.number → set_of store.zones.records x.key ≡ x.content) items item was.honest (λ _. content);
    }

good-read : (book : BookState) (worker : Option Job) (item : Item) → ((job : Job) → worker ≡ Some job → IsGoodJob book job) → IsItem item
    → WasGiven book.store.next item → set_of book.store.zones.records item.key ≡ item.content
    → (job : Job) → with_item item worker ≡ Some job → IsGoodJob (after_look book) job
good-read book None item good set given content job is = cc
good-read book (Some was) item good set given content job is =
    let before = good was refl in
    subst (IsGoodJob (after_look book)) (same_Some _ job is)
    (record {
      client = before.client;
      read = read-looked (after_look book).store.looks book (was.run.items ++ item ∷ []) (read-push book.store was.run.items item before.read set given content);
    })

lease-with_item : (item : Item) (worker : Option Job) → lease_of (with_item item worker) ≡ lease_of worker
lease-with_item item None = refl
lease-with_item item (Some job) = refl

pub world-read : (old : WorldState) (book : BookState) (w : ℕ) (item : Item) → IsWorld old → w < length old.workers → book ≡ after_look old.book
    → IsItem item → WasGiven old.book.store.next item → set_of old.book.store.zones.records item.key ≡ item.content
    → IsWorld (record { book = book; workers = set old.workers w (with_item item (job_at old.workers w)) })
world-read old book w item good within is is_set given content =
    subst (λ (b : BookState). IsWorld (record { book = b; workers = set old.workers w (with_item item (job_at old.workers w)) })) (sym is)
    (worked-world old (after_look old.book) w (with_item item (job_at old.workers w)) good within (moves-looked (after_look old.book).store.looks old good) (lease-with_item item (job_at old.workers w))
    (good-read old.book (job_at old.workers w) item (good.jobs w) is_set given content))

-- ---- a run ends without a lease

pub world-idle : (old : WorldState) (book : BookState) (w : ℕ) → IsWorld old → w < length old.workers → Moves old.book book
    → lease_of (job_at old.workers w) ≡ None → IsWorld (record { book = book; workers = set old.workers w None })
world-idle old book w good within to none = worked-world old book w None good within to (sym none) (λ job is. absurd (none-some job is))

moves-committed : (old : WorldState) (found : Found) (words : List ℕ) → IsConsistent (after_commit found words old.book) → Moves old.book (after_commit found words old.book)
moves-committed old found words consistent =
    let book = old.book in
    let n = next_event book in
    let new = after_commit found words book in
    let longer : next_event new ≡ n + 1 = one_later book new _ refl refl in
    let entry = entry_of book.entries found.question in
    record {
      client = refl;
      read = λ items was. was;
      leases = λ id out. record {
        made = omega (arith, out.made, longer);
        leased = elim out.leased [
          | inl gone ↦ inl (absent-committed found n book.max_entries book.entries id out.made gone)
          | inr held ↦ inr (leased-renewal book.queue entry id ∙ held)
        ];
      };
      held = λ id held. sym (leased-renewal book.queue entry id) ∙ held;
      consistent = consistent;
    }

pub world-committed : (old : WorldState) (book : BookState) (w : ℕ) (found : Found) (words : List ℕ) → IsWorld old → w < length old.workers
    → lease_of (job_at old.workers w) ≡ None → IsConsistent (after_commit found words old.book) → book ≡ after_commit found words old.book → IsWorld (record { book = book; workers = set old.workers w None })
world-committed old book w found words good within none consistent is =
    subst (λ (b : BookState). IsWorld (record { book = b; workers = set old.workers w None })) (sym is)
    (world-idle old (after_commit found words old.book) w good within (moves-committed old found words consistent) none)

pub world-refused : (old : WorldState) (book : BookState) (w : ℕ) → IsWorld old → w < length old.workers
    → lease_of (job_at old.workers w) ≡ None → book ≡ old.book → IsWorld (record { book = book; workers = set old.workers w None })
world-refused old book w good within none is =
    subst (λ (b : BookState). IsWorld (record { book = b; workers = set old.workers w None })) (sym is)
    (world-idle old old.book w good within (stays old good) none)

-- ---- a lease is spent

-- a book in which a lease was spent
pub record IsSpent (id : ℕ) (old new : BookState) : Type 0 where
  pub client : new.client ≡ old.client
  pub held : new.held ≡ old.held
  pub store : new.store ≡ old.store
  pub first : new.first ≡ old.first
  pub journal : new.journal ≡ old.journal
  pub absent : (k : ℕ) → entry_with old.entries k ≡ None → entry_with new.entries k ≡ None
  pub spends : Spends id old.queue new.queue
  pub consistent : IsConsistent old → IsConsistent new

pub world-spent : (old : WorldState) (book : BookState) (w id : ℕ) → IsWorld old → w < length old.workers → lease_of (job_at old.workers w) ≡ Some id
    → IsSpent id old.book book → IsWorld (record { book = book; workers = set old.workers w None })
world-spent old book w id good within own spent =
    let events : next_event book ≡ next_event old.book = λ i. spent.first i + length (spent.journal i) in
    changed-world old book w None good (record {
      within = within;
      client = spent.client;
      read = λ items was. rw spent.store was;
      job = λ job is. absurd (none-some job is);
      leases = λ v k other has.
          let out = good.leases v k has in
          let apart : k ≢ id = λ same. other (good.own v w k has (own ∙ ap (λ n. Some n) (sym same))) in
          record {
            made = omega (arith, out.made, events);
            leased = elim out.leased [
              | inl gone ↦ inl (spent.absent k gone)
              | inr held ↦ inr (spent.spends.others k apart ∙ held)
            ];
          };
      lease = λ k has. absurd (none-some k has);
      own = λ v k other has own. none-some k own;
      held = λ k leased.
          let was = was_leased id old.book.queue book.queue spent.spends k leased in
          let p = good.held k was.1 in
          inr (p.0, (λ same. was.0 (same_Some k id (sym p.1 ∙ ap (λ v. lease_of (job_at old.workers v)) same ∙ own))), p.1);
      consistent = spent.consistent good.book;
    })

pub spent-return : (id : ℕ) (old : BookState) → IsSpent id old (after_give_back id old)
spent-return id old =
    record {
      client = refl;
      held = refl;
      store = refl;
      first = refl;
      journal = refl;
      absent = λ k none. none;
      spends = spends-return old.entries old.queue id;
      consistent = λ so. consistent-queued old _ so;
    }

pub spent-stale : (id : ℕ) (old : BookState) → IsSpent id old (after_stale id old)
spent-stale id old =
    record {
      client = refl;
      held = refl;
      store = refl;
      first = refl;
      journal = refl;
      absent = λ k none. none;
      spends = spends-failure old.entries old.queue id;
      consistent = λ so. consistent-queued old _ so;
    }

pub spent-settled : (id : ℕ) (found : Found) (old : BookState) → IsSound found → found.client ≡ old.client → AreCurrent old.store found.items
    → IsSpent id old (after_settlement id found old)
spent-settled id found old sound client now =
    record {
      client = refl;
      held = refl;
      store = refl;
      first = refl;
      journal = refl;
      absent = λ k none. absent-map (renewed found) (id-renewed found) old.entries k none;
      spends = spends-settle old.queue id;
      consistent = λ so. consistent-settled old found _ so sound client now;
    }

spent-at : (id : ℕ) (old new there : BookState) → new ≡ there → IsSpent id old there → IsSpent id old new
spent-at id old new there is spent = subst (IsSpent id old) (sym is) spent

pub gone_or_not : (fault : BookFault) → (fault ≡ Gone) ⊎ (fault ≢ Gone)
gone_or_not Gone = inl refl
gone_or_not JournalFull = inr (λ is. cc)
gone_or_not NotCurrent = inr (λ is. cc)
gone_or_not (Stale place) = inr (λ is. cc)
gone_or_not Unknown = inr (λ is. cc)
gone_or_not PagesSpent = inr (λ is. cc)
gone_or_not (Queue fault) = inr (λ is. cc)
gone_or_not (OfStore fault) = inr (λ is. cc)
gone_or_not (Board fault) = inr (λ is. cc)
gone_or_not Memory = inr (λ is. cc)

pub spent-refused : (id : ℕ) (found : Found) (old new : BookState) (refused : Uncommitted)
    → IsSettled is_renumbered id found old old new (Err refused) → IsSpent id old new
spent-refused id found old new refused settled = elim (gone_or_not refused.fault) [
  | inl gone ↦ spent-at id old new (after_give_back id old) (settled.gone gone) (spent-return id old)
  | inr other ↦ spent-at id old new (after_stale id old) (settled.stale other) (spent-stale id old)
]

pub spent-by_settling : (id : ℕ) (found : Found) (old new : BookState) (result : Result (Unit {0}) Uncommitted)
    → IsSound found → found.client ≡ old.client → OnOk result (AreCurrent old.store found.items)
    → IsSettled is_renumbered id found old old new result → IsSpent id old new
spent-by_settling id found old new (Ok done) sound client now settled =
    spent-at id old new (after_settlement id found old) settled.after (spent-settled id found old sound client now)
spent-by_settling id found old new (Err refused) sound client now settled = spent-refused id found old new refused settled

-- ---- a lease is taken

-- the entry with an id was made by an event before now
made-with : (n : ℕ) (es : List EntryState) (id : ℕ) → All (λ e. e.id < n) es → entry_with es id ≢ None → id < n
made-with n [] id made some = absurd (some refl)
made-with n (e ∷ es) id made some = elim (cases_Bool (eqb e.id id)) [
  | inl own ↦ subst (λ (k : ℕ). k < n) (exact_unsigned_eq e.id id own) (All-head (λ x. x.id < n) e es made)
  | inr other ↦ made-with n es id (All-tail (λ x. x.id < n) e es made) (λ none. some (cond-false _ _ _ other ∙ none))
]

entries-made : (book : BookState) → IsConsistent book → All (λ e. e.id < next_event book) book.entries
entries-made book so = All-weaker (IsGoodEntry book) (λ e. e.id < next_event book) (λ e good. good.made) book.entries so.entries

there : (entry : Option EntryState) (question : Question) → option_map (λ e. e.found.question) entry ≡ Some question → entry ≢ None
there None question own none = none-some question own
there (Some e) question own none = cc

pub world-leased : (old : WorldState) (book : BookState) (w id : ℕ) (question : Question) (run : RunState) → IsWorld old → w < length old.workers
    → job_at old.workers w ≡ None → IsLeased old.book book (Ok (id, question)) → run.client ≡ old.book.client → run.items ≡ []
    → IsWorld (record { book = book; workers = set old.workers w (Some (record { run = run; lease = Some id })) })
world-leased old book w id question run good within idle lease client none =
    subst (λ (b : BookState). IsWorld (record { book = b; workers = set old.workers w worker })) (sym lease.after)
    (changed-world old leased w worker good (record {
      within = within;
      client = refl;
      read = λ items was. was;
      job = λ job is. subst (IsGoodJob leased) (same_Some _ job is) (good-new leased run client none (Some id));
      leases = λ v k other has.
          let out = good.leases v k has in
          record {
            made = out.made;
            leased = elim out.leased [
              | inl gone ↦ inl gone
              | inr held ↦ inr (takes.others k (λ same. true≢false (sym held ∙ ap (is_leased old.book.queue) same ∙ lease.idle)) ∙ held)
            ];
          };
      lease = λ k has. subst (IsLeaseOf leased) (same_Some id k has)
          (record { made = made-with (next_event old.book) old.book.entries id (entries-made old.book good.book) is_there; leased = inr takes.leased });
      own = λ v k other has own. elim (good.leases v k has).leased [
        | inl gone ↦ is_there (ap (entry_with old.book.entries) (same_Some id k own) ∙ gone)
        | inr held ↦ true≢false (sym held ∙ ap (is_leased old.book.queue) (sym (same_Some id k own)) ∙ lease.idle)
      ];
      held = λ k held. elim (same_or_not k id) [
        | inl same ↦ inl (ap (λ n. Some n) (sym same))
        | inr other ↦
            let p = good.held k (sym (takes.others k other) ∙ held) in
            inr (p.0, (λ same. none-some k (sym (ap lease_of idle) ∙ ap (λ v. lease_of (job_at old.workers v)) (sym same) ∙ p.1)), p.1)
      ];
      consistent = consistent-queued old.book _ good.book;
    }))
  where
    worker : Option Job
    worker = Some (record { run = run; lease = Some id })

    leased : BookState
    leased = record old.book { queue = after_lease old.book.queue }

    takes : Leases id old.book.queue (after_lease old.book.queue)
    takes = leases-lease old.book.queue id lease.id

    is_there : entry_with old.book.entries id ≢ None
    is_there = there (entry_with old.book.entries id) question lease.question
