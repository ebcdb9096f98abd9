-- The plain machine carries out again the loads of zones, and so each event.
use Rattle.std.proofs.Common.{◌≡◌, ◌≤◌, List, [], ◌∷◌, ◌++◌, length, Ok, refl, sym, ap, subst, ◌∙◌, append_assoc, append-nil, codes, decimal}
use Rattle.sipl_names.specs.Labels.{Octets}
use Rattle.sipl_names.specs.NamePrint.{text_of}
use Rattle.sipl_masterfile.specs.ZoneText.{zone_with}
use Rattle.sipl_masterfile.specs.Zones.{IsZone, Zone, zone_of}
use Rattle.sipl_uri.specs.QuestionText.{IsAskable, question_text}
use Rattle.sipl_uri.specs.declared.question.Question.{Question}
use Rattle.sipl_book.specs.declared.edit.Edit.TheVariants.{Load, Unload, Add, Remove}
use Rattle.sipl_book.specs.declared.event.Event.{Event}
use Rattle.sipl_book.specs.declared.event.Event.TheVariants.{Change, Hold, Release, Advance, Answer as Answered}
use Rattle.sipl_lines.specs.Gathering.{LoadsOrRefuses, text_read}
use Rattle.sipl_lines.specs.Items.{Item, items_of, line}
use Rattle.sipl_lines.specs.Replies.{Serves}
use Rattle.sipl_lines.specs.CommandLines.{after_command, first_line}
use Rattle.sipl_lines.specs.Session.{session_loader, session_protocol}
use Rattle.sipl_archive.specs.Plain.{PlainState, plain_rules}
use Rattle.sipl_archive.specs.Replay.{Repeats, is_expected}
use Rattle.sipl_laws.specs.Asked.{event_reply}
use Rattle.sipl_laws.specs.Carried.{Accepts, LoadsZone, event_command, plain_after}
use Rattle.sipl_laws.specs.Events.{IsEvent, IsLoadable}
use Rattle.sipl_laws.proofs.CarriedOut.{at, expects, makes-edit, nothing_changed, repeats-line, told}
use Rattle.sipl_laws.proofs.EventReads.{asks, event-command, from-line, word, words_after}
use Rattle.sipl_laws.proofs.FieldLists.{line-before}
use Rattle.sipl_laws.proofs.Gathers.{item-first, items-records, record_items, records_text, serves-zone}
use Rattle.sipl_laws.proofs.LineEntries.{Printing}
use Rattle.sipl_laws.proofs.SameEvents.{Readers}
use Rattle.sipl_laws.proofs.ZoneReads.{zone-read}

first-and-others : (a b c d : Octets) → (a ++ b ++ c ++ 10 ∷ []) ++ d ≡ (a ++ (b ++ c)) ++ 10 ∷ d
first-and-others a b c d = simp append_assoc

module _ (reads : Readers) (printing : Printing) (short : (question : Question) → IsAskable question → length (question_text question) ≤ 1030) (before : PlainState) where
  -- the event of a load, and what its first line is
  abbrev loading : Zone → Event
  loading z = Change (Load z)

  abbrev zone_line : Zone → Octets
  zone_line z = word (loading z) ++ 32 ∷ words_after (loading z)

  -- the records are the zone's, and none of them is left out
  same-zone : (z : Zone) → IsZone z → IsZone (zone_with z.apex z.records 0 0)
  same-zone z zone = record { within = zone.within; distinct = zone.distinct; aliases = zone.aliases; fits = zone.fits }

  loads-again : (z : Zone) → IsLoadable z → IsZone z → Accepts before (loading z) → LoadsOrRefuses (session_loader plain_rules) (text_read (zone_of (records_text z.records) z.apex)) (at before) (told (loading z)) (at (plain_after (loading z) before))
  loads-again z is zone accepts =
      subst (λ read. LoadsOrRefuses (session_loader plain_rules) (text_read read) (at before) (told (loading z)) (at (plain_after (loading z) before)))
      (sym (zone-read printing z.apex z.records is.records (same-zone z zone)))
      ((Ok nothing_changed, makes-edit (Load (zone_with z.apex z.records 0 0)) before nothing_changed accepts, refl), refl)

  items-zone : (z : Zone) → IsLoadable z → items_of (event_command (loading z)) ≡ line (zone_line z) ∷ record_items z.records
  items-zone z is =
      ap items_of (first-and-others (codes "zone ") (text_of z.apex) (32 ∷ decimal (length z.records)) (records_text z.records))
      ∙ item-first (zone_line z) (records_text z.records) (from-line (loading z) is)
      ∙ ap (λ (items : List Item). line (zone_line z) ∷ items) (items-records z.records is.records)

  repeats-load : (z : Zone) → IsLoadable z → IsZone z → Accepts before (loading z)
      → Repeats (record { command = event_command (loading z); reply = event_reply (loading z); told = told (loading z) }) before (plain_after (loading z) before)
  repeats-load z is zone accepts =
      let own : event_command (loading z) ≡ zone_line z ++ 10 ∷ records_text z.records = first-and-others (codes "zone ") (text_of z.apex) (32 ∷ decimal (length z.records)) (records_text z.records) in
      record {
        one = ap after_command (sym (append-nil (event_command (loading z)))) ∙ event-command short (loading z) [] is;
        replies = record {
          session = at (plain_after (loading z) before);
          desk = refl;
          serves = subst (λ items. Serves (session_protocol plain_rules) (at before) items (told (loading z)) (at (plain_after (loading z) before)))
              (sym (items-zone z is))
              (serves-zone plain_rules z.apex before (told (loading z)) (plain_after (loading z) before) z.records (zone_line z) refl is.apex is.records (asks short reads.addresses (loading z) is) (loads-again z is zone accepts));
        };
        expected = ap (λ (t : Octets). is_expected t (event_reply (loading z)) (told (loading z))) (ap first_line own ∙ line-before (zone_line z) (records_text z.records) (from-line (loading z) is)) ∙ expects (loading z);
      }

  -- a machine that accepts an event carries it out
  pub repeats : (e : Event) → IsEvent e → LoadsZone e → Accepts before e
      → Repeats (record { command = event_command e; reply = event_reply e; told = told e }) before (plain_after e before)
  repeats (Change (Load z)) is zone accepts = repeats-load z is zone accepts
  repeats (Change (Unload apex)) is zone accepts = repeats-line reads before short (Change (Unload apex)) is tt accepts
  repeats (Change (Add r)) is zone accepts = repeats-line reads before short (Change (Add r)) is tt accepts
  repeats (Change (Remove r)) is zone accepts = repeats-line reads before short (Change (Remove r)) is tt accepts
  repeats (Hold endpoint ms) is zone accepts = repeats-line reads before short (Hold endpoint ms) is tt accepts
  repeats (Release endpoint) is zone accepts = repeats-line reads before short (Release endpoint) is tt accepts
  repeats (Advance to) is zone accepts = repeats-line reads before short (Advance to) is tt accepts
  repeats (Answered question words answer) is zone accepts = repeats-line reads before short (Answered question words answer) is tt accepts
