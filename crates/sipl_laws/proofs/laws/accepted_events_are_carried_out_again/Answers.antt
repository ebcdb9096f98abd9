use Rattle.std.proofs.Common.{ap}
use Rattle.sipl_masterfile.specs.Readers.{◌>>=◌}
use Rattle.sipl_masterfile.specs.Zones.{after_statement}
use Rattle.sipl_laws.proofs.CarriedOut.{command-reply, told}
use Rattle.sipl_laws.proofs.LineEntries.{Printing}
use Rattle.sipl_laws.proofs.LoadedAgain.{repeats}
use Rattle.sipl_laws.proofs.SameEvents.{Readers}
use Rattle.sipl_laws.proofs.laws.accepted_events_are_carried_out_again.Goals as goal

pub returns : goal.returns
returns c = record {
  lines = command-reply;
  repeats = λ event before is zone accepts. (told event, repeats readers printing c.question_text_has_at_most_1030_octets.ensures.most before event is zone accepts);
}
  where
    readers : Readers
    readers = record {
      addresses = c.printing_addresses_reads_back.ensures;
      records = c.printing_records_reads_back.ensures.text;
      questions = c.printed_questions_read_back.ensures;
    }

    printing : Printing
    printing = record {
      joins = c.joining_texts_joins_entries.ensures;
      conflicts_swapped = c.conflicts_are_mutual.ensures;
      entry = c.printing_records_reads_back.ensures.entry;
      fields = λ r reading is. ap (λ stated. stated >>= (λ it. after_statement it reading)) (c.printing_records_reads_back.ensures.fields r reading.origin reading.owner is);
    }
