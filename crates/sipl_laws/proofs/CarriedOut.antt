-- The plain machine carries out again events of one line.
use Rattle.std.proofs.Common.{◌≡◌, ℕ, ◌≤◌, Bool, true, false, not, ◌&&◌, List, [], ◌∷◌, ◌++◌, length, None, Result, Ok, Err, inl, refl, sym, ap, subst, ◌∙◌, append_assoc, append-nil, nat_eq, codes, decimal}
use Rattle.std.specs.Prelude.{◌||◌, ◌==◌, if◌then◌else◌}
use Rattle.std.specs.List.{starts_with}
use lib.Pointwise.{pointwise, bytes_decides}
use Rattle.sipl_names.specs.Labels.{Octets}
use Rattle.sipl_names.proofs.Public.{name_of-text_of}
use Rattle.sipl_records.specs.Fields.{fields_of}
use Rattle.sipl_records.specs.declared.record.Record.{Record}
use Rattle.sipl_masterfile.specs.ZoneFault.{code_of as zone_code}
use Rattle.sipl_masterfile.specs.declared.fault.ZoneFault.{ZoneFault}
use Rattle.sipl_uri.specs.QuestionText.{IsAskable, question_text}
use Rattle.sipl_uri.specs.declared.question.Question.{Question}
use Rattle.sipl_outages.specs.Holds.{BoardEvent, refusal_of}
use Rattle.sipl_outages.specs.Holds.BoardEvent.{Hold as HoldFor, Release as ReleaseOf, Advance as AdvanceTo}
use Rattle.sipl_zonestore.specs.Edited.{store_refusal}
use Rattle.sipl_zonestore.specs.Looks.{looked}
use Rattle.sipl_plans.specs.declared.answer.Answer.{Answer}
use Rattle.sipl_plans.specs.declared.answer.Answer.TheVariants.{Targets, None as no_targets}
use Rattle.sipl_book.specs.Machine.{zone_edit}
use Rattle.sipl_book.specs.declared.edit.Edit.{Edit}
use Rattle.sipl_book.specs.declared.edit.Edit.TheVariants.{Load, Unload, Add, Remove}
use Rattle.sipl_book.specs.declared.event.Event.{Event}
use Rattle.sipl_book.specs.declared.event.Event.TheVariants.{Change, Hold, Release, Advance, Answer as Answered}
use Rattle.sipl_book.specs.declared.outcome.Done.{Done}
use Rattle.sipl_book.specs.declared.outcome.Handed.{Handed}
use Rattle.sipl_lines.specs.Commands.{AnswersUri, Asked, Asks, Unloads, edits as asks_edit, refused_with}
use Rattle.sipl_lines.specs.Items.{end_of_input, items_of, line}
use Rattle.sipl_lines.specs.Replies.{Serves}
use Rattle.sipl_lines.specs.ReplyText.{answer_text, counts_line}
use Rattle.sipl_lines.specs.Requests.{request_of}
use Rattle.sipl_lines.specs.Session.{AtDesk, Performs, SessionState, new_session, session_protocol}
use Rattle.sipl_lines.specs.CommandLines.{after_command, edits, first_line, is_find, moves, taken_by_fields}
use Rattle.sipl_archive.specs.Plain.{MakesEdit, MakesMove, PlainState, plain_rules}
use Rattle.sipl_archive.specs.Replay.{Repeats, is_expected}
use Rattle.sipl_lines.specs.CommandText.{endpoint_text, event_lines, words_field}
use Rattle.sipl_laws.specs.Asked.{event_reply, event_request}
use Rattle.sipl_laws.specs.Carried.{Accepts, edited, event_command, moved, plain_after}
use Rattle.sipl_laws.specs.Events.{IsEvent}
use Rattle.sipl_laws.proofs.Cutting.{one-line}
use Rattle.sipl_laws.proofs.EventReads.{asks, by-word, from-line, taken, word, words_after}
use Rattle.sipl_laws.proofs.FieldLists.{line-before}
use Rattle.sipl_laws.proofs.Gathers.{item-first, serves-end}
use Rattle.sipl_laws.proofs.SameEvents.{Readers}

-- the event loads no zone, so its command is one line
abbrev pub LoadsNothing : Event → Type 0
LoadsNothing (Change (Load zone)) = ⊥
LoadsNothing _ = Unit {0}

-- a session at the plain machine

abbrev pub at : PlainState → SessionState PlainState
at plain = new_session plain

-- a line that does something, and then the end, are served
serves-line : (text told : Octets) (before after : PlainState) → Performs plain_rules (request_of text) (at before) told (at after)
    → Serves (session_protocol plain_rules) (at before) (line text ∷ end_of_input ∷ []) told (at after)
serves-line text told before after performs = record {
  reply = told;
  replies = [];
  between = at after;
  first = (at before, ([], refl), (tt, inl performs));
  others = serves-end plain_rules after;
  joined = sym (append-nil told);
}

-- what a move and an edit do

makes-move : (event : BoardEvent) (before : PlainState) → refusal_of before.board.max_holds event before.board.holds ≡ None → MakesMove {A = ℕ} event before (moved event before) (Ok 0)
makes-move event before none = record {
  board = record { accepted = none; after = refl; refused = tt; memory = tt; unchanged = tt; limit = refl };
  others = refl;
}

pub makes-edit : (edit : Edit) (before : PlainState) (it : Done) → store_refusal (zone_edit edit) before.store ≡ None → MakesEdit {A = Done} edit before (edited edit before) (Ok it)
makes-edit edit before it none = record {
  store = record { accepted = none; after = refl; next = refl; refused = tt; memory = tt; unchanged = tt; limit = refl };
  others = refl;
}

-- what each event's request does

abbrev pub nothing_changed : Done
nothing_changed = record { number = 0; changed = 0 }

abbrev handed : Answer → Handed
handed answer = record { number = 0; answer = answer }

-- the record of a text is added or removed
abbrev record_asked : Octets → (Record → Edit) → Result Record ZoneFault → Asked
record_asked words edit (Err fault) = refused_with (zone_code fault)
record_asked words edit (Ok r) = asks_edit words [] (edit r)

hold-command : (a b c : Octets) → a ++ b ++ c ++ 10 ∷ [] ≡ (a ++ (b ++ c)) ++ 10 ∷ []
hold-command a b c = simp append_assoc

-- the reply to an event
abbrev pub told : Event → Octets
told (Change (Load zone)) = counts_line (codes "ok zone") (length zone.records ∷ 0 ∷ 0 ∷ 0 ∷ [])
told (Change (Unload apex)) = counts_line (codes "ok drop") (0 ∷ [])
told (Change (Add r)) = counts_line (codes "ok add") (0 ∷ [])
told (Change (Remove r)) = counts_line (codes "ok del") (0 ∷ [])
told (Hold endpoint ms) = counts_line (codes "ok hold") []
told (Release endpoint) = counts_line (codes "ok release") []
told (Advance to) = counts_line (codes "ok clock") (to ∷ [])
told (Answered question words answer) = answer_text answer

module _ (reads : Readers) (before : PlainState) where
  performs : (e : Event) → IsEvent e → LoadsNothing e → Accepts before e → Performs plain_rules (event_request e) (at before) (told e) (at (plain_after e before))
  performs (Change (Load zone)) is none accepts = absurd none
  performs (Change (Unload apex)) is none accepts =
      subst (λ read. AtDesk (Unloads plain_rules read) (at before) (told (Change (Unload apex))) (at (edited (Unload apex) before))) (sym (name_of-text_of apex [] is))
      ((Ok nothing_changed, makes-edit (Unload apex) before nothing_changed accepts, refl), refl)
  performs (Change (Add r)) is none accepts =
      subst (λ read. AtDesk (Asks plain_rules (record_asked (codes "ok add") (λ one. Add one) read)) (at before) (told (Change (Add r))) (at (edited (Add r) before))) (sym (reads.records r [] is))
      ((Ok nothing_changed, makes-edit (Add r) before nothing_changed accepts, refl), refl)
  performs (Change (Remove r)) is none accepts =
      subst (λ read. AtDesk (Asks plain_rules (record_asked (codes "ok del") (λ one. Remove one) read)) (at before) (told (Change (Remove r))) (at (edited (Remove r) before))) (sym (reads.records r [] is))
      ((Ok nothing_changed, makes-edit (Remove r) before nothing_changed accepts, refl), refl)
  performs (Hold endpoint ms) is none accepts = ((Ok 0, makes-move (HoldFor endpoint ms) before accepts, refl), refl)
  performs (Release endpoint) is none accepts = ((Ok 0, makes-move (ReleaseOf endpoint) before accepts, refl), refl)
  performs (Advance to) is none accepts =
      ((Ok 0, moved (AdvanceTo to) before, makes-move (AdvanceTo to) before accepts, (refl, refl)), refl)
  performs (Answered question words answer) is none accepts =
      subst (λ read. AtDesk (AnswersUri plain_rules read (Ok words)) (at before) (answer_text answer) (at (record before { store = looked before.store }))) (sym (reads.questions question is.askable))
      (inl (Ok (handed answer), (refl, accepts, tt), refl), refl)

-- the command of an event is one line

command-line : (e : Event) → LoadsNothing e → event_command e ≡ (word e ++ 32 ∷ words_after e) ++ 10 ∷ []
command-line (Change (Load zone)) none = absurd none
command-line (Change (Unload apex)) none = refl
command-line (Change (Add r)) none = refl
command-line (Change (Remove r)) none = refl
command-line (Hold endpoint ms) none = hold-command (codes "hold ") (endpoint_text endpoint) (32 ∷ decimal ms)
command-line (Release endpoint) none = refl
command-line (Advance to) none = refl
command-line (Answered question words answer) none = hold-command (codes "find ") (question_text question) (words_field words)

takes-none : (e : Event) → LoadsNothing e → (fields : List Octets) → taken_by_fields (word e ∷ fields) ≡ 0
takes-none (Change (Load zone)) none fields = absurd none
takes-none (Change (Unload apex)) none fields = refl
takes-none (Change (Add r)) none fields = refl
takes-none (Change (Remove r)) none fields = refl
takes-none (Hold endpoint ms) none fields = refl
takes-none (Release endpoint) none fields = refl
takes-none (Advance to) none fields = refl
takes-none (Answered question words answer) none fields = refl

-- the lines of an event are its command and its reply
pub command-reply : (e : Event) → event_lines e ≡ event_command e ++ event_reply e
command-reply (Change edit) = sym (append-nil (event_lines (Change edit)))
command-reply (Hold endpoint ms) = sym (append-nil (event_lines (Hold endpoint ms)))
command-reply (Release endpoint) = sym (append-nil (event_lines (Release endpoint)))
command-reply (Advance to) = sym (append-nil (event_lines (Advance to)))
command-reply (Answered question words answer) = sym (append_assoc (codes "find " ++ question_text question ++ words_field words) (10 ∷ []) (answer_text answer))

-- what is replied is expected

is_no_error : (answer : Answer) → starts_with nat_eq (answer_text answer) (codes "err") ≡ false
is_no_error (Targets []) = refl
is_no_error (Targets (t ∷ ts)) = refl
is_no_error (no_targets reason) = refl

pub expects : (e : Event) → is_expected (word e ++ 32 ∷ words_after e) (event_reply e) (told e) ≡ true
expects e =
    ap (λ (b : Bool). if b then length (event_reply e) == 0 && starts_with nat_eq (told e) (codes "ok ") else is_find (word e ++ 32 ∷ words_after e) && pointwise nat_eq (event_reply e) (told e) && not (starts_with nat_eq (told e) (codes "err"))) (by-word (λ w. edits w || moves w) e)
    ∙ ap (λ (b : Bool). if edits (word e) || moves (word e) then length (event_reply e) == 0 && starts_with nat_eq (told e) (codes "ok ") else b && pointwise nat_eq (event_reply e) (told e) && not (starts_with nat_eq (told e) (codes "err"))) (by-word (λ w. pointwise nat_eq w (codes "find")) e)
    ∙ by e
  where
    by : (x : Event) → (if edits (word x) || moves (word x) then length (event_reply x) == 0 && starts_with nat_eq (told x) (codes "ok ") else pointwise nat_eq (word x) (codes "find") && pointwise nat_eq (event_reply x) (told x) && not (starts_with nat_eq (told x) (codes "err"))) ≡ true
    by (Change (Load zone)) = refl
    by (Change (Unload apex)) = refl
    by (Change (Add r)) = refl
    by (Change (Remove r)) = refl
    by (Hold endpoint ms) = refl
    by (Release endpoint) = refl
    by (Advance to) = refl
    by (Answered question words answer) =
        let same : pointwise nat_eq (answer_text answer) (answer_text answer) ≡ true = (bytes_decides (answer_text answer) (answer_text answer)).1 refl in
        ap (λ (b : Bool). b && not (starts_with nat_eq (answer_text answer) (codes "err"))) same ∙ ap not (is_no_error answer)

module _ (reads : Readers) (before : PlainState) where
  -- a machine that accepts an event of one line carries it out
  pub repeats-line : (short : (question : Question) → IsAskable question → length (question_text question) ≤ 1030) (e : Event) → IsEvent e → LoadsNothing e → Accepts before e
      → Repeats (record { command = event_command e; reply = event_reply e; told = told e }) before (plain_after e before)
  repeats-line short e is none accepts =
      let text : Octets = word e ++ 32 ∷ words_after e in
      let own : event_command e ≡ text ++ 10 ∷ [] = command-line e none in
      record {
        one = ap after_command own ∙ one-line text [] (from-line e is) (taken short e is ∙ takes-none e none (fields_of (words_after e)));
        replies = record {
          session = at (plain_after e before);
          desk = refl;
          serves = subst (λ items. Serves (session_protocol plain_rules) (at before) items (told e) (at (plain_after e before)))
              (sym (ap items_of own ∙ item-first text [] (from-line e is)))
              (serves-line text (told e) before (plain_after e before)
              (subst (λ request. Performs plain_rules request (at before) (told e) (at (plain_after e before))) (sym (asks short reads.addresses e is)) (performs reads before e is none accepts)));
        };
        expected = ap (λ (t : Octets). is_expected t (event_reply e) (told e)) (ap first_line own ∙ line-before text [] (from-line e is)) ∙ expects e;
      }
