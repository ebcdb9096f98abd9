-- A page is read, and carried out again.
use Rattle.std.proofs.Common.{◌≡◌, ℕ, suc, ◌-◌, ◌^◌, ◌<◌, ◌≤◌, List, [], ◌∷◌, ◌++◌, length, map, Option, Some, refl, sym, ap, ◌∙◌, arith, append_assoc, append-nil, codes, decimal}
use Rattle.std.specs.List.{AllByRecursion, flat_map}
use Rattle.std.proofs.lemmas.Fmt.{decimal_nonempty}
use Rattle.sipl_names.specs.Labels.{Octets}
use Rattle.sipl_records.specs.Fields.{fields_of}
use Rattle.sipl_records.specs.Numbers.{number_of}
use Rattle.sipl_uri.specs.QuestionText.{IsAskable, question_text}
use Rattle.sipl_uri.specs.declared.question.Question.{Question}
use Rattle.sipl_book.specs.Pages.{PageState}
use Rattle.sipl_book.specs.declared.event.Event.{Event}
use Rattle.sipl_archive.specs.Archive.{IsHead, body_text, both, extent_in, file_text, page_head, page_name}
use Rattle.sipl_archive.specs.Plain.{PlainState}
use Rattle.sipl_archive.specs.Replay.{Exchange, RepeatsAll, RepeatsSome, exchange_text}
use Rattle.sipl_lines.specs.CommandText.{event_lines}
use Rattle.sipl_laws.specs.Asked.{event_reply}
use Rattle.sipl_laws.specs.Carried.{AcceptsAll, LoadsZone, all_after, event_command, plain_after}
use Rattle.sipl_laws.specs.Events.{IsEvent, IsPage}
use Rattle.sipl_laws.specs.ReadBack.{ReadsBack}
use Rattle.sipl_laws.proofs.CarriedOut.{command-reply, told}
use Rattle.sipl_laws.proofs.FieldLists.{first-field, number-read, only-field}
use Rattle.sipl_laws.proofs.LineEntries.{Printing}
use Rattle.sipl_laws.proofs.LineRequests.{seen-number}
use Rattle.sipl_laws.proofs.LoadedAgain.{repeats}
use Rattle.sipl_laws.proofs.PageNames.{name-read}
use Rattle.sipl_laws.proofs.SameEvents.{Readers}

-- the event of a page, and what is replied to it

abbrev pub exchange : Event → Exchange
exchange event = record { command = event_command event; reply = event_reply event; told = told event }

as-many : (events : List Event) → length (map exchange events) ≡ length events
as-many [] = refl
as-many (event ∷ events) = ap suc (as-many events)

same-text : (events : List Event) → flat_map event_lines events ≡ flat_map exchange_text (map exchange events)
same-text [] = refl
same-text (event ∷ events) = λ i. command-reply event i ++ same-text events i

module _ (reads : Readers) (printing : Printing) (short : (question : Question) → IsAskable question → length (question_text question) ≤ 1030) where
  all-repeat : (events : List Event) (before : PlainState) → AllByRecursion IsEvent events → AllByRecursion LoadsZone events → AcceptsAll before events → RepeatsAll (map exchange events) before (all_after events before)
  all-repeat [] before all zones accepts = refl
  all-repeat (event ∷ events) before all zones accepts =
      (plain_after event before, repeats reads printing short before event all.0 zones.0 accepts.0, all-repeat events (plain_after event before) all.1 zones.1 accepts.1)

  pub page-repeats : (events : List Event) (before : PlainState) → AllByRecursion IsEvent events → AllByRecursion LoadsZone events → AcceptsAll before events → RepeatsSome (flat_map event_lines events) [] (length events) before (all_after events before)
  page-repeats events before all zones accepts = record {
    exchanges = map exchange events;
    len = as-many events;
    text_is = same-text events ∙ sym (append-nil (flat_map exchange_text (map exchange events)));
    repeats = all-repeat events before all zones accepts;
  }

-- the head of a page is read

head-regroup : (w f c l e r : Octets) → (w ++ f ++ c ++ l ++ e) ++ r ≡ (w ++ (f ++ c) ++ l) ++ (e ++ r)
head-regroup w f c l e r = simp append_assoc

extent-read : (first count : ℕ) → first < 2 ^ 64 → count < 2 ^ 64 → extent_in (fields_of (decimal first ++ 32 ∷ decimal count)) ≡ Some (first, count)
extent-read first count small few =
    ap extent_in
    (first-field (decimal first) (decimal count) (decimal_nonempty first small) (seen-number first small)
    ∙ ap (λ (fs : List Octets). decimal first ∷ fs) (only-field (decimal count) (decimal_nonempty count few) (seen-number count few)))
    ∙ ap (λ (n : Option ℕ). both n (number_of (decimal count) (2 ^ 64 - 1))) (number-read first (2 ^ 64 - 1) small (omega (arith, small)))
    ∙ ap (λ (n : Option ℕ). both (Some first) n) (number-read count (2 ^ 64 - 1) few (omega (arith, few)))

pub head-read : (first count : ℕ) (client : Octets) (events : List Event) → first < 2 ^ 64 → count < 2 ^ 64 → IsHead (body_text (page_head first count client) events) first count client (flat_map event_lines events)
head-read first count client events small few = record {
  fields = decimal first ++ 32 ∷ decimal count;
  extent = extent-read first count small few;
  text_is = head-regroup (codes "siplocd page ") (decimal first) (32 ∷ decimal count) (10 ∷ client) (10 ∷ []) (flat_map event_lines events);
}

-- a file is read

module _ (reads : Readers) (printing : Printing) (short : (question : Question) → IsAskable question → length (question_text question) ≤ 1030) where
  pub page-reads : (run : ℕ) (client : Octets) (page : PageState) (before : PlainState) → run < 10 ^ 6 → page.first < 10 ^ 16 → IsPage page → AllByRecursion LoadsZone page.events → AcceptsAll before page.events → ReadsBack (page_name run page.first) (file_text client page) run client page before (all_after page.events before)
  page-reads run client page before few small is zones accepts = record {
    named = name-read run page.first few small;
    body = body_text (page_head page.first (length page.events) client) page.events;
    digested = refl;
    events = flat_map event_lines page.events;
    head = head-read page.first (length page.events) client page.events is.first is.few;
    replays = page-repeats reads printing short page.events before is.events zones accepts;
  }
