-- The candidates among NAPTR records, as choices.
use Rattle.sipl_choice.specs.declared.pointer.Candidate.{Candidate}
use Rattle.sipl_choice.specs.Pointers.{Choice}

-- what a candidate chooses
abbrev pub choice_by : Candidate → Choice
choice_by candidate = record {
  order = candidate.order;
  preference = candidate.preference;
  transport = candidate.transport;
  replacement = candidate.replacement.now;
}
