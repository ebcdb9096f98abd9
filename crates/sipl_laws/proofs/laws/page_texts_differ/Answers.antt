use Rattle.sipl_laws.proofs.SameEvents.{Readers}
use Rattle.sipl_laws.proofs.SamePages.{same-files, same-pages}
use Rattle.sipl_laws.proofs.laws.page_texts_differ.Goals as goal

pub returns : goal.returns
returns c = record {
  page = same-pages readers;
  first = λ client page other is are same. (same-files readers client page other is are same).0;
  file = λ client page other is are same. (same-files readers client page other is are same).1;
}
  where
    readers : Readers
    readers = record {
      addresses = c.printing_addresses_reads_back.ensures;
      records = c.printing_records_reads_back.ensures.text;
      questions = c.printed_questions_read_back.ensures;
    }
