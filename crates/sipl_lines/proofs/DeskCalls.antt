-- The calls of a desk: seen as those of another desk; at the plain machine with one reply each; and those of a book,
-- seen as those of the plain machine.
use Rattle.std.proofs.Common.{◌≡◌, ℕ, List, [], ◌∷◌, ◌++◌, Result, Ok, Err, length, map, refl, sym, ap, ◌∙◌, inl, inr, codes, ◌≢◌, ◌⊎◌, Bool, true, false, Option, None, Some, IfOk, IfErr, OnOk, OnErr, IsTrue, IsFalse, subst, length-append}
use Rattle.std.proofs.lemmas.List.Elements.{All-head, All-tail}
use Rattle.std.specs.List.{flat_map}
use Rattle.std.specs.Prelude.{◌+◌, ◌-◌, ◌^◌, nat_le, nat_lt, option_map, if◌then◌else◌}
use Rattle.std.specs.Option.{option_or}
use Rattle.std.specs.Result.{result_map_both}
use lib.ListN.{length-map}
use Rattle.sipl_names.specs.Labels.{Octets}
use Rattle.sipl_names.specs.NamePrint.{text_of}
use Rattle.sipl_records.specs.Kinds.{text_of_kind}
use Rattle.sipl_records.specs.declared.data.Data.{Data}
use Rattle.sipl_records.specs.declared.record.Key.{Key}
use Rattle.sipl_records.specs.Sets.{set_of}
use Rattle.sipl_uri.specs.declared.question.Question.{Question}
use Rattle.sipl_evidence.specs.Items.{Item}
use Rattle.sipl_evidence.specs.Known.{Agrees}
use Rattle.sipl_evidence.specs.Looks.{Look}
use Rattle.sipl_outages.specs.Holds.{BoardEvent, after as after_hold}
use Rattle.sipl_zonestore.specs.declared.fault.StoreFault.{StoreFault}
use Rattle.sipl_zonestore.specs.declared.fault.StoreFault.TheVariants.{NumberSpent}
use Rattle.sipl_zonestore.specs.Edits.{refusal_of as zones_refusal}
use Rattle.sipl_zonestore.specs.Changes.{changed_count}
use Rattle.sipl_zonestore.specs.Numbers.{next_after}
use Rattle.sipl_book.specs.declared.edit.Edit.{Edit}
use Rattle.sipl_book.specs.declared.fault.BookFault.{BookFault}
use Rattle.sipl_book.specs.declared.fault.BookFault.TheVariants.{Memory, JournalFull, NotCurrent, Stale, Unknown, Gone, PagesSpent, Queue, Store, Board}
use Rattle.sipl_book.specs.declared.outcome.Done.{Done}
use Rattle.sipl_book.specs.declared.outcome.Extent.{Extent}
use Rattle.sipl_book.specs.declared.outcome.Handed.{Handed}
use Rattle.sipl_book.specs.Machine.{zone_edit}
use Rattle.sipl_book.specs.Book.{BookState, answer_now, next_event}
use Rattle.sipl_book.specs.Calls.{IsChanged, MovesBoard, answer_event, board_event, early_change_refusal, recorded}
use Rattle.sipl_book.specs.Entries.{has_current_entry}
use Rattle.sipl_book.specs.Lookups.{AreDependencies, IsAnswered, IsKept, IsRepaired, after_reads}
use Rattle.sipl_book.specs.Pages.{IsTurned, PageState, after_turn, extent_of, page_of, turn_refusal}
use Rattle.sipl_book.specs.declared.edit.Edit.TheVariants.{Load, Unload, Add, Remove}
use Rattle.sipl_book.specs.declared.event.Event.{Event}
use Rattle.sipl_book.specs.declared.event.Event.TheVariants.{Change}
use Rattle.sipl_lines.specs.Commands.{Keeps, Does, Asked, refused, edits, moves, answers, lists, repairs, pages, Asks, changed_text, page_text, handed_text, result_text}
use Rattle.sipl_lines.specs.Desk.{DeskRules, book_rules}
use Rattle.sipl_lines.specs.OneReply.{EndsInMemory}
use Rattle.sipl_lines.specs.PlainDesk.{Ending, EndsSo, PlainState, change_ending, find_ending, move_ending, page_ending, plain_rules, sets_listed, sets_read, after_change, change_refusal, edited, ending_of, move_refusal, plain_of, unless_at_limit, with_event}
use Rattle.sipl_lines.specs.ReplyText.{counts_line, evidence_line, evidence_text, number_field, refusal_line, word_field}
use Rattle.sipl_lines.proofs.Results.{on_err, on_ok}

-- ---- the desk, as it is seen

-- each rule of a desk implies that of another, where the states are seen so, and the faults have the
-- same texts
pub record Implies {D E F : Type 0} (seen : D → E) (R : DeskRules D F) (R' : DeskRules E F) : Type 0 where
  pub finds : (question : Question) (words : List ℕ) (before : D) (outcome : Result Handed F) (after : D)
      → R.Finds question words before outcome after → R'.Finds question words (seen before) outcome (seen after)
  pub changes : (edit : Edit) (before : D) (outcome : Result Done F) (after : D)
      → R.Changes edit before outcome after → R'.Changes edit (seen before) outcome (seen after)
  pub moves : (event : BoardEvent) (before : D) (outcome : Result ℕ F) (after : D)
      → R.Moves event before outcome after → R'.Moves event (seen before) outcome (seen after)
  pub depends : (question : Question) (before : D) (outcome : Result (List Item) F) (after : D)
      → R.Depends question before outcome after → R'.Depends question (seen before) outcome (seen after)
  pub repairs : (before : D) (outcome : Result (Unit {0}) F) (after : D)
      → R.Repairs before outcome after → R'.Repairs (seen before) outcome (seen after)
  pub pages : (before : D) (outcome : Result Extent F) (after : D)
      → R.Pages before outcome after → R'.Pages (seen before) outcome (seen after)
  pub pauses : (before after : D) → R.Pauses before after → R'.Pauses (seen before) (seen after)
  pub time : (state : D) (now : ℕ) → R.IsTime state now → R'.IsTime (seen state) now
  pub zone_octets : (state : D) → R.zone_octets state ≡ R'.zone_octets (seen state)
  pub fault : (fault : F) → R.fault_text fault ≡ R'.fault_text fault

-- what is done in a state, with this text, is done in the state that is seen
abbrev pub Carries : {D E : Type 0} → (D → E) → (D → Octets → D → Type 0) → (E → Octets → E → Type 0) → Type 0
Carries {D} seen Acts Acts' = (before : D) (text : Octets) (after : D) → Acts before text after → Acts' (seen before) text (seen after)

-- this reply, and nothing else
pub keeps : {D E : Type 0} (seen : D → E) (reply : Octets) → Carries seen (Keeps reply) (Keeps reply)
keeps seen reply before text after kept = (kept.0, ap seen kept.1)

-- the calls of a desk are those of the other one
module _ {D E F : Type 0} (seen : D → E) (R : DeskRules D F) (R' : DeskRules E F) (implies : Implies seen R R') where
  -- the reply to what the desk did
  told : {A : Type 0} (reply_of : A → Octets) (outcome : Result A F) (text : Octets) → text ≡ result_text R reply_of outcome → text ≡ result_text R' reply_of outcome
  told reply_of (Ok value) text is = is
  told reply_of (Err fault) text is = is ∙ ap refusal_line (implies.fault fault)

  pub asks_seen : (asked : Asked) → Carries seen (Asks R asked) (Asks R' asked)
  asks_seen (refused reply) before text after kept = (kept.0, ap seen kept.1)
  asks_seen (edits words counts edit) before text after done = (done.0, implies.changes edit before done.0 after done.1, told _ done.0 text done.2)
  asks_seen (moves reply event) before text after done = (done.0, implies.moves event before done.0 after done.1, told _ done.0 text done.2)
  asks_seen (answers question words) before text after (inl done) = inl (done.0, implies.finds question words before done.0 after done.1, told _ done.0 text done.2)
  asks_seen (answers question words) before text after (inr done) = inr (done.0, implies.finds question words before (Ok done.0) after done.1, done.2, done.3)
  asks_seen (lists question) before text after (inl done) = inl (done.0, implies.depends question before done.0 after done.1, told _ done.0 text done.2)
  asks_seen (lists question) before text after (inr done) = inr (done.0, implies.depends question before (Ok done.0) after done.1, done.2, done.3)
  asks_seen repairs before text after done = (done.0, implies.repairs before done.0 after done.1, told _ done.0 text done.2)
  asks_seen pages before text after done = (done.0, implies.pages before done.0 after done.1, told _ done.0 text done.2)

-- ---- one reply of the plain machine

-- what is done in a state has one text and leaves one state, where no allocation fails
abbrev pub HasOne : {S : Type 0} → (S → Octets → S → Type 0) → Type 0
HasOne {S} Acts = (before : S) (t u : Octets) (a b : S) → Acts before t a → Acts before u b → (EndsInMemory t → ⊥) → (EndsInMemory u → ⊥) → (t ≡ u) × (a ≡ b)

pub same_reply : {S : Type 0} (reply : Octets) → HasOne {S = S} (Keeps reply)
same_reply reply before t u a b kept kept' well well' = (kept.0 ∙ sym kept'.0, kept.1 ∙ sym kept'.1)

-- a call that does not fail for memory has one result, and leaves one state
abbrev pub IsOne : {A : Type 0} → (PlainState → Result A BookFault → PlainState → Type 0) → Type 0
IsOne {A} Acts = (before : PlainState) (o p : Result A BookFault) (a b : PlainState) → Acts before o a → Acts before p b → (o ≡ Err Memory → ⊥) → (p ≡ Err Memory → ⊥) → (o ≡ p) × (a ≡ b)

pub ends_one : {A : Type 0} (ending : PlainState → Ending A) → IsOne (λ before outcome after. EndsSo (ending before) before outcome after)
ends_one ending before o p a b (inl is) (inl is') well well' = (is.0 ∙ sym is'.0, is.1 ∙ sym is'.1)
ends_one ending before o p a b (inl is) (inr failed) well well' = absurd (well' failed.1)
ends_one ending before o p a b (inr failed) is well well' = absurd (well failed.1)

does : {A : Type 0} (Acts : PlainState → Result A BookFault → PlainState → Type 0) (reply_of : A → Octets) → IsOne Acts → HasOne (Does plain_rules Acts reply_of)
does Acts reply_of one before t u a b done done' well well' =
    let told = one before done.0 done'.0 a b done.1 done'.1
    (λ failed. well ([], done.2 ∙ ap (result_text plain_rules reply_of) failed))
    (λ failed. well' ([], done'.2 ∙ ap (result_text plain_rules reply_of) failed)) in
    (done.2 ∙ ap (result_text plain_rules reply_of) told.0 ∙ sym done'.2, told.1)

one_answer : (question : Question) (words : List ℕ) → HasOne (Asks plain_rules (answers question words))
one_answer question words before t u a b (inl done) (inl done') well well' =
    does (plain_rules.Finds question words) handed_text (ends_one (find_ending question words)) before t u a b done done' well well'
one_answer question words before t u a b (inl done) (inr failed) well well' = absurd (well' ([], failed.3))
one_answer question words before t u a b (inr failed) done well well' = absurd (well ([], failed.3))

-- ---- the sets that a question depends on: their numbers are not in the reply

-- the set of an item of evidence, without its number
abbrev item_set : Item → Key × List Data
item_set item = (item.key, item.content)

-- the sets of evidence
abbrev sets_of : List Item → List (Key × List Data)
sets_of items = map item_set items

evidence_alike : (items others : List Item) → sets_of items ≡ sets_of others → flat_map evidence_line items ≡ flat_map evidence_line others
evidence_alike [] [] same = refl
evidence_alike [] (other ∷ others) same = cc
evidence_alike (item ∷ items) [] same = cc
evidence_alike (item ∷ items) (other ∷ others) same =
    let first : item_set item ≡ item_set other = cc in
    let rest : sets_of items ≡ sets_of others = cc in
    let same_line : evidence_line item ≡ evidence_line other =
    λ i. codes "dep" ++ word_field (text_of (first i).0.name) ++ word_field (text_of_kind (first i).0.kind) ++ number_field (length (first i).1) ++ 10 ∷ [] in
    λ i. same_line i ++ evidence_alike items others rest i

listed_alike : (o p : Result (List Item) BookFault) → sets_listed o ≡ sets_listed p → result_text plain_rules evidence_text o ≡ result_text plain_rules evidence_text p
listed_alike (Ok items) (Ok others) same =
    let sets : sets_of items ≡ sets_of others = cc in
    let count : length items ≡ length others = sym (length-map items item_set) ∙ ap length sets ∙ length-map others item_set in
    λ i. evidence_alike items others sets i ++ counts_line (codes "ok deps") (count i ∷ [])
listed_alike (Ok items) (Err fault) same = cc
listed_alike (Err fault) (Ok items) same = cc
listed_alike (Err fault) (Err other) same =
    let is : fault ≡ other = cc in
    ap (λ f. refusal_line (plain_rules.fault_text f)) is

listed_memory : (o : Result (List Item) BookFault) → sets_listed o ≡ Err Memory → result_text plain_rules evidence_text o ≡ refusal_line (codes "Memory")
listed_memory (Ok items) same = cc
listed_memory (Err fault) same =
    let is : fault ≡ Memory = cc in
    ap (λ f. refusal_line (plain_rules.fault_text f)) is

one_list : (question : Question) → HasOne (Asks plain_rules (lists question))
one_list question before t u a b (inl done) (inl done') well well' =
    let told = ends_one (λ plain. (Ok (sets_read question plain), plain)) before (sets_listed done.0) (sets_listed done'.0) a b done.1 done'.1
    (λ failed. well ([], done.2 ∙ listed_memory done.0 failed)) (λ failed. well' ([], done'.2 ∙ listed_memory done'.0 failed)) in
    (done.2 ∙ listed_alike done.0 done'.0 told.0 ∙ sym done'.2, told.1)
one_list question before t u a b (inl done) (inr failed) well well' = absurd (well' ([], failed.3))
one_list question before t u a b (inr failed) done well well' = absurd (well ([], failed.3))

pub asks_one : (asked : Asked) → HasOne (Asks plain_rules asked)
asks_one (refused reply) = same_reply reply
asks_one (edits words counts edit) = does (plain_rules.Changes edit) (changed_text words counts) (ends_one (change_ending edit))
asks_one (moves reply event) = does (plain_rules.Moves event) (λ number. reply) (ends_one (move_ending event))
asks_one (answers question words) = one_answer question words
asks_one (lists question) = one_list question
asks_one repairs = does plain_rules.Repairs (λ done. counts_line (codes "ok repair") []) (ends_one (λ plain. (Ok tt, plain)))
asks_one pages = does plain_rules.Pages page_text (ends_one page_ending)

-- ---- the calls of a book: how one ends

memory_or_not : (fault : BookFault) → (fault ≡ Memory) ⊎ (fault ≢ Memory)
memory_or_not JournalFull = inr (λ same. cc)
memory_or_not NotCurrent = inr (λ same. cc)
memory_or_not (Stale place) = inr (λ same. cc)
memory_or_not Unknown = inr (λ same. cc)
memory_or_not Gone = inr (λ same. cc)
memory_or_not PagesSpent = inr (λ same. cc)
memory_or_not (Queue fault) = inr (λ same. cc)
memory_or_not (Store fault) = inr (λ same. cc)
memory_or_not (Board fault) = inr (λ same. cc)
memory_or_not Memory = inl refl

-- the fault where there may be no more events is B3
abbrev limited : Bool → Option BookFault → Option BookFault
limited full fault = if full then Some JournalFull else fault

-- a result that has no fault but too few numbers of sets
abbrev IsOpen : {A : Type 0} → Result A BookFault → Type 0
IsOpen result = IfErr result (λ fault. fault ≡ Store NumberSpent)

-- where no fault applies a call does not end with one
none_open : {A : Type 0} (fault : Option BookFault) (value : A) (after before : PlainState) → fault ≡ None → IsOpen (ending_of fault value after before).0
none_open None value after before none = tt
none_open (Some e) value after before none = cc

-- where the zones have none either, it may be that too few numbers are left
spent_open : {A : Type 0} (full : Bool) (zones : Option StoreFault) (spent : Bool) (value : A) (after before : PlainState)
    → limited full (option_map Store zones) ≡ None
    → IsOpen (ending_of (limited full (option_map Store (option_or zones (if spent then Some NumberSpent else None)))) value after before).0
spent_open true zones spent value after before none = cc
spent_open false None true value after before none = refl
spent_open false None false value after before none = tt
spent_open false (Some fault) spent value after before none = cc

if_err : {A E : Type 0} {P Q : E → Type 0} (r : Result A E) → ((e : E) → P e → Q e) → IfErr r P → IfErr r Q
if_err (Ok value) weaker fact = tt
if_err (Err e) weaker fact = weaker e fact

-- a call that fails exactly with this fault, or for memory, and else has this value and this state
ends_so : {A : Type 0} (fault : Option BookFault) (value : A) (after before : PlainState) (outcome : Result A BookFault) (new : PlainState)
    → OnOk outcome (fault ≡ None) → IfOk outcome (λ v. v ≡ value) → OnOk outcome (new ≡ after)
    → IfErr outcome (λ e. e ≢ Memory → fault ≡ Some e)
    → IfErr outcome (λ e. e ≡ Memory → IsOpen (ending_of fault value after before).0) → OnErr outcome (new ≡ before)
    → EndsSo (ending_of fault value after before) before outcome new
ends_so {A} fault value after before (Ok v) new accepted is moved refusal memory kept =
    inl (subst (λ f. (Ok v ≡ (ending_of f value after before).0) × (new ≡ (ending_of f value after before).1)) (sym accepted) (ap Ok is, moved))
ends_so {A} fault value after before (Err e) new accepted is moved refusal memory kept =
    elim (memory_or_not e) as (λ _. EndsSo (ending_of fault value after before) before (Err e) new) [
      | inl same ↦ inr (memory same, ap Err same, kept)
      | inr other ↦ inl (subst (λ f. (Err e ≡ (ending_of f value after before).0) × (new ≡ (ending_of f value after before).1)) (sym (refusal other)) (refl, kept))
    ]

recorded-plain : (event : Event) (book : BookState) → plain_of (recorded event book) ≡ with_event (plain_of book)
recorded-plain event book = λ i. record (plain_of book) { events = length-append book.journal (event ∷ []) i }

-- ---- the answer to a question

found_value : (question : Question) (words : List ℕ) (old : BookState) (outcome : Result Handed BookFault)
    → IfOk outcome (λ handed. handed.number ≡ next_event old) → IfOk outcome (λ handed. handed.answer ≡ answer_now old question words)
    → IfOk outcome (λ handed. handed ≡ record { number = next_event old; answer = answer_now old question words })
found_value question words old (Ok handed) number answer = λ i. record { number = number i; answer = answer i }
found_value question words old (Err e) number answer = tt

-- a question with a current entry, and one without
found_after : (current : Bool) (outcome : Result Handed BookFault) (question : Question) (words : List ℕ) (old new : BookState) (event : Event)
    → (IsTrue current → OnOk outcome (new ≡ recorded event old)) → (IsFalse current → OnOk outcome (IsKept question words old new))
    → OnOk outcome (plain_of new ≡ with_event (plain_of old))
found_after true (Ok handed) question words old new event from_entry committed = ap plain_of (from_entry refl) ∙ recorded-plain event old
found_after false (Ok handed) question words old new event from_entry committed =
    let kept = committed refl in
    ap plain_of kept.2 ∙ recorded-plain (answer_event (after_reads (length kept.0.items) old) kept.0.question words) old
found_after current (Err e) question words old new event from_entry committed = tt

book_finds : (question : Question) (words : List ℕ) (old : BookState) (outcome : Result Handed BookFault) (new : BookState)
    → IsAnswered question words old new outcome → EndsSo (find_ending question words (plain_of old)) (plain_of old) outcome (plain_of new)
book_finds question words old outcome new found =
    ends_so (unless_at_limit (plain_of old) None) (record { number = next_event old; answer = answer_now old question words }) (with_event (plain_of old)) (plain_of old) outcome (plain_of new)
    found.accepted (found_value question words old outcome found.number found.answer)
    (found_after (has_current_entry old.entries question) outcome question words old new (answer_event old question words) found.from_entry found.committed)
    found.refused
    (if_err outcome (λ e none same. none_open (unless_at_limit (plain_of old) None) (record { number = next_event old; answer = answer_now old question words }) (with_event (plain_of old)) (plain_of old) (none same)) found.memory)
    (on_err outcome (ap plain_of) found.unchanged)

-- ---- an edit

-- where no early refusal of an edit comes before, it ends with none but too few numbers
change_open : (edit : Edit) (old : BookState) → early_change_refusal edit old ≡ None → IsOpen (change_ending edit (plain_of old)).0
change_open (Load zone) old none =
    let plain = plain_of old in
    spent_open (nat_le old.max_events (length old.journal)) (zones_refusal plain.max_records (zone_edit (Load zone)) plain.zones)
    (nat_lt (2 ^ 52 + 1) (next_after plain.zones.records (edited (Load zone) plain).records plain.next))
    (record { number = next_event old; changed = changed_count plain.zones.records (edited (Load zone) plain).records }) (after_change (Load zone) plain) plain none
change_open (Unload apex) old none =
    let plain = plain_of old in
    none_open (change_refusal (Unload apex) plain)
    (record { number = next_event old; changed = changed_count plain.zones.records (edited (Unload apex) plain).records }) (after_change (Unload apex) plain) plain none
change_open (Add r) old none =
    let plain = plain_of old in
    none_open (change_refusal (Add r) plain)
    (record { number = next_event old; changed = changed_count plain.zones.records (edited (Add r) plain).records }) (after_change (Add r) plain) plain none
change_open (Remove r) old none =
    let plain = plain_of old in
    none_open (change_refusal (Remove r) plain)
    (record { number = next_event old; changed = changed_count plain.zones.records (edited (Remove r) plain).records }) (after_change (Remove r) plain) plain none

changed_value : (edit : Edit) (old new : BookState) (outcome : Result Done BookFault)
    → IfOk outcome (λ done. done.number ≡ next_event old)
    → IfOk outcome (λ done. done.changed ≡ changed_count old.store.zones.records new.store.zones.records)
    → OnOk outcome (new.store.zones ≡ edited edit (plain_of old))
    → IfOk outcome (λ done. done ≡ record { number = next_event old; changed = changed_count old.store.zones.records (edited edit (plain_of old)).records })
changed_value edit old new (Ok done) number changed zones =
    let count = changed ∙ ap (λ z. changed_count old.store.zones.records z.records) zones in
    λ i. record { number = number i; changed = count i }
changed_value edit old new (Err e) number changed zones = tt

changed_after : (edit : Edit) (old new : BookState) (outcome : Result Done BookFault) → IsChanged edit old new outcome
    → OnOk outcome (plain_of new ≡ after_change edit (plain_of old))
changed_after edit old new (Ok done) is =
    let next = is.next ∙ ap (λ z. next_after old.store.zones.records z.records old.store.next) is.zones in
    let events = ap length is.journal ∙ length-append old.journal (Change edit ∷ []) in
    λ i. record {
      client = is.client i;
      held = is.held i;
      zones = is.zones i;
      holds = (is.board i).holds;
      max_records = is.max_records i;
      max_holds = (is.board i).max_holds;
      max_events = is.max_events i;
      first = is.first i;
      events = events i;
      next = next i;
    }
changed_after edit old new (Err e) is = tt

book_changes : (edit : Edit) (old : BookState) (outcome : Result Done BookFault) (new : BookState)
    → IsChanged edit old new outcome → EndsSo (change_ending edit (plain_of old)) (plain_of old) outcome (plain_of new)
book_changes edit old outcome new is =
    ends_so (change_refusal edit (plain_of old))
    (record { number = next_event old; changed = changed_count old.store.zones.records (edited edit (plain_of old)).records })
    (after_change edit (plain_of old)) (plain_of old) outcome (plain_of new)
    is.accepted (changed_value edit old new outcome is.number is.changed is.zones) (changed_after edit old new outcome is)
    is.refused
    (if_err outcome (λ e none same. change_open edit old (none same)) is.memory)
    (on_err outcome (ap plain_of) is.unchanged)

-- ---- a hold, a release or a move of the clock

book_moves : (event : BoardEvent) (old : BookState) (outcome : Result ℕ BookFault) (new : BookState)
    → MovesBoard event old new outcome → EndsSo (move_ending event (plain_of old)) (plain_of old) outcome (plain_of new)
book_moves event old outcome new is =
    let moved : BookState = record old { board = record { holds = after_hold event old.board.holds; max_holds = old.board.max_holds } } in
    ends_so (move_refusal event (plain_of old)) (next_event old) (with_event (plain_of moved)) (plain_of old) outcome (plain_of new)
    is.accepted is.number (on_ok outcome (λ after. ap plain_of after ∙ recorded-plain (board_event event) moved) is.after)
    is.refused
    (if_err outcome (λ e none same. none_open (move_refusal event (plain_of old)) (next_event old) (with_event (plain_of moved)) (plain_of old) (none same)) is.memory)
    (on_err outcome (ap plain_of) is.unchanged)

-- ---- the dependencies of a question

-- a key with its set
abbrev keyed : Look → Key → Key × List Data
keyed look key = (key, look key)

listed-agree : (look : Look) (items : List Item) → Agrees look items → map item_set items ≡ map (keyed look) (map (λ item. item.key) items)
listed-agree look [] agrees = refl
listed-agree look (item ∷ items) agrees =
    let P : Item → Type 0 = λ i. look i.key ≡ i.content in
    let here : look item.key ≡ item.content = All-head P item items agrees in
    λ i. (item.key, sym here i) ∷ listed-agree look items (All-tail P item items agrees) i

book_depends : (question : Question) (old : BookState) (outcome : Result (List Item) BookFault) (new : BookState)
    → AreDependencies question old new outcome → EndsSo (Ok (sets_read question (plain_of old)), plain_of old) (plain_of old) (sets_listed outcome) (plain_of new)
book_depends question old (Ok items) new are =
    let look : Look = set_of old.store.zones.records in
    inl (ap Ok (listed-agree look items are.sets.agrees ∙ ap (map (keyed look)) are.keys), ap plain_of are.unchanged)
book_depends question old (Err e) new are = inr (tt, ap Err are.failed, ap plain_of are.unchanged)

-- ---- a repair

book_repairs : (old : BookState) (outcome : Result (Unit {0}) BookFault) (new : BookState)
    → IsRepaired old new outcome → EndsSo (Ok tt, plain_of old) (plain_of old) outcome (plain_of new)
book_repairs old (Ok done) new is = inl (refl, ap plain_of is.renewed.others)
book_repairs old (Err e) new is = inr (tt, ap Err is.failed, ap plain_of is.renewed.others)

-- ---- a page

book_turns : (old : BookState) (turned : Result PageState BookFault) (new : BookState)
    → IsTurned old new turned → EndsSo (page_ending (plain_of old)) (plain_of old) (result_map_both extent_of (λ fault. fault) turned) (plain_of new)
book_turns old (Ok page) new is =
    ends_so (turn_refusal old) (extent_of (page_of old)) (plain_of (after_turn old)) (plain_of old) (Ok (extent_of page)) (plain_of new)
    is.accepted (ap extent_of is.page) (ap plain_of is.after) tt tt tt
book_turns old (Err e) new is =
    ends_so (turn_refusal old) (extent_of (page_of old)) (plain_of (after_turn old)) (plain_of old) (Err e) (plain_of new)
    tt tt tt is.refused
    (λ same. none_open (turn_refusal old) (extent_of (page_of old)) (plain_of (after_turn old)) (plain_of old) (is.memory same))
    (ap plain_of is.unchanged)

book_pages : (old : BookState) (outcome : Result Extent BookFault) (new : BookState)
    → book_rules.Pages old outcome new → EndsSo (page_ending (plain_of old)) (plain_of old) outcome (plain_of new)
book_pages old outcome new done =
    subst (λ o. EndsSo (page_ending (plain_of old)) (plain_of old) o (plain_of new)) (sym done.2) (book_turns old done.0 new done.1)

pub book_implies_plain : Implies plain_of book_rules plain_rules
book_implies_plain = record { finds = book_finds; changes = book_changes; moves = book_moves; depends = book_depends; repairs = book_repairs; pages = book_pages; pauses = λ old new same. ap plain_of same; time = λ book now is. is; zone_octets = λ book. refl; fault = λ fault. refl }
