use Rattle.std.proofs.Common.{◌≡◌, ◌++◌, Some, List, ℕ, false, refl, ap, sym, ◌∙◌}
use Rattle.std.proofs.lemmas.Bool.Decides.{Decides-eqb}
use Rattle.std.proofs.lemmas.Slice.Eq.{strip_prefix_is}
use Rattle.sipl_lines.specs.Requests.{is_comment}
use Rattle.sipl_lines.proofs.Asking.{find_line, first_word, no_comment}
use Rattle.sipl_lines.proofs.command.read_command.Goals as goal

pub returns-in-Some-read_find : goal.returns-in-Some-read_find
returns-in-Some-read_find c =
    let whole = strip_prefix_is Decides-eqb c.args.line.now c.start.result.now (Some c.in-Some.rest) c.in-Some.ensures.cases
    ∙ ap (λ (head : List ℕ). head ++ c.in-Some.rest.now) c.start.ensures in
    c.in-Some-read_find.ensures ∙ sym (find_line c.args.line.now c.in-Some.rest.now c.if-line-gt-MAX_LINE_LEN.false whole)

pub returns-in-Some-read_fields : goal.returns-in-Some-read_fields
returns-in-Some-read_fields c =
    let line = c.args.line.now in
    let word = c.in-Some-next_field.word.now in
    let rest = c.in-Some-next_field.rest.now in
    let plain : is_comment line ≡ false = no_comment line c.first.result _ c.first.ensures.value c.if-eq.ensures refl in
    c.in-Some-read_fields.ensures ∙ sym (first_word line word rest c.if-line-gt-MAX_LINE_LEN.false plain c.in-Some-next_field.ensures.fields c.in-Some-next_field.ensures.after)
