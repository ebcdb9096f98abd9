use Rattle.std.proofs.Common.{◌+◌, length}
use Rattle.std.specs.Option.{option_copied, option_map_or}
use Rattle.sipl_names.specs.Labels.{Octets}
use Rattle.sipl_lines.proofs.Words.{ReadTo}
use Rattle.sipl_lines.proofs.draws_field.read_words.Given as goal

abbrev pub invariant-loop-rest : goal.invariant-loop-rest
invariant-loop-rest l = ReadTo l.text (option_copied l.rest) l.words l.count

abbrev pub decreases-loop-rest : goal.decreases-loop-rest
decreases-loop-rest l = option_map_or (λ (text : Octets). length text + 1) (option_copied l.rest) 0
