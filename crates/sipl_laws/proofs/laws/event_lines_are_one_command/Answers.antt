use Rattle.sipl_laws.proofs.EventReads.{event-asks, event-command, event-kept}
use Rattle.sipl_laws.proofs.laws.event_lines_are_one_command.Goals as goal

pub returns : goal.returns
returns c = record {
  command = event-command c.question_text_has_at_most_1030_octets.ensures.most;
  reply = event-kept;
  request = event-asks c.question_text_has_at_most_1030_octets.ensures.most c.printing_addresses_reads_back.ensures;
}
