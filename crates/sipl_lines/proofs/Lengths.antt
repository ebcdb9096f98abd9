-- The lengths of the texts of names, kinds and commands.
use Rattle.std.proofs.Common.{◌*◌, ◌≤◌, [], ◌∷◌, length, arith, length-append}
use Rattle.std.specs.List.{flat_map}
use Rattle.sipl_names.specs.Labels.{Labels, wire_of, wire_length}
use Rattle.sipl_names.specs.NamePrint.{printed_label, text_of}
use Rattle.sipl_names.proofs.Public.{length-printed_label}
use Rattle.sipl_records.specs.Kinds.{text_of_kind}
use Rattle.sipl_records.specs.declared.kind.Kind.{Kind}
use Rattle.sipl_records.specs.declared.kind.Kind.TheVariants.{Exists}
use Rattle.sipl_lines.specs.Requests.{ok_words}
use Rattle.sipl_lines.specs.declared.command.CommandWord.{CommandWord}
use Rattle.sipl_lines.specs.declared.command.CommandWord.TheVariants as command

length-printed : (labels : Labels) → length (flat_map printed_label labels) ≤ 4 * length (wire_of labels)
length-printed [] = omega arith
length-printed (label ∷ labels) =
    omega (arith, length-append (printed_label label) (flat_map printed_label labels), length-append label (wire_of labels), length-printed_label label, length-printed labels)

-- an octet of the wire form is printed in at most four
pub name_text_is_short : (labels : Labels) → length (text_of labels) ≤ 4 * wire_length labels
name_text_is_short [] = omega arith
name_text_is_short (label ∷ labels) = omega (arith, length-printed (label ∷ labels))

pub kind_text_is_short : (kind : Kind) → length (text_of_kind kind) ≤ 6
kind_text_is_short Exists = omega arith
kind_text_is_short _ = omega arith

pub words_are_short : (word : CommandWord) → length (ok_words word) ≤ 10
words_are_short command.Quit = omega arith
words_are_short _ = omega arith
