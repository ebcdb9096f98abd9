use Rattle.std.proofs.Common.{◌≡◌, ℕ, List, Some, None, Result, ap, sym, subst, ◌∙◌}
use Rattle.std.specs.Option.{option_copied}
use Rattle.sipl_names.specs.Labels.{Octets}
use Rattle.sipl_records.specs.Numbers.{number_of}
use Rattle.sipl_records.specs.Parts.{split_once}
use Rattle.sipl_srv.specs.declared.fault.DrawsFault.{DrawsFault}
use Rattle.sipl_lines.specs.DrawsField.{word_of}
use Rattle.sipl_lines.proofs.Words.{ReadTo, read_fails, read_kept, read_dropped, read_all}
use Rattle.sipl_lines.proofs.draws_field.read_words.Goals as goal

pub returns-in_err-word : goal.returns-in_err-word
returns-in_err-word c =
    let rest : Octets = c.in-Some.text.now in
    let read : ReadTo c.args.text.now (Some rest) c.loop-rest.words c.loop-rest.count =
    subst (λ left. ReadTo c.args.text.now left c.loop-rest.words c.loop-rest.count) (ap option_copied c.in-Some.is) c.loop-rest.invariant in
    let bad : word_of (split_once 44 rest).0 ≡ None =
    ap word_of (sym c.split_once.ensures.before) ∙ ap (number_of c.split_once.result.0.now) (sym c.from.ensures) ∙ sym c.read_number.ensures ∙ c.in_err-word.was in
    c.from_residual.ensures ∙ sym (read_fails read bad)

pub loop-rest-preserved-then-count-lt-MAX_KEPT_WORDS :
    goal.loop-rest-preserved-then-count-lt-MAX_KEPT_WORDS
loop-rest-preserved-then-count-lt-MAX_KEPT_WORDS c =
    let rest : Octets = c.in-Some.text.now in
    let read : ReadTo c.args.text.now (Some rest) c.loop-rest.words c.loop-rest.count =
    subst (λ left. ReadTo c.args.text.now left c.loop-rest.words c.loop-rest.count) (ap option_copied c.in-Some.is) c.loop-rest.invariant in
    let good : word_of (split_once 44 rest).0 ≡ Some c.in_ok-word.word =
    ap word_of (sym c.split_once.ensures.before) ∙ ap (number_of c.split_once.result.0.now) (sym c.from.ensures) ∙ sym c.read_number.ensures ∙ c.in_ok-word.was in
    read_kept c.in_ok-word.word read good (sym c.split_once.ensures.after) c.if-count-lt-MAX_KEPT_WORDS.true

pub loop-rest-preserved : goal.loop-rest-preserved
loop-rest-preserved c =
    let rest : Octets = c.in-Some.text.now in
    let read : ReadTo c.args.text.now (Some rest) c.loop-rest.words c.loop-rest.count =
    subst (λ left. ReadTo c.args.text.now left c.loop-rest.words c.loop-rest.count) (ap option_copied c.in-Some.is) c.loop-rest.invariant in
    let good : word_of (split_once 44 rest).0 ≡ Some c.in_ok-word.word =
    ap word_of (sym c.split_once.ensures.before) ∙ ap (number_of c.split_once.result.0.now) (sym c.from.ensures) ∙ sym c.read_number.ensures ∙ c.in_ok-word.was in
    read_dropped c.in_ok-word.word read good (sym c.split_once.ensures.after) c.if-count-lt-MAX_KEPT_WORDS.false

pub returns : goal.returns
returns c =
    let read : ReadTo c.args.text.now None c.loop-rest.words c.loop-rest.count =
    subst (λ left. ReadTo c.args.text.now left c.loop-rest.words c.loop-rest.count) (ap option_copied c.in_default.is) c.loop-rest.invariant in
    ap (λ (draws : Result (List ℕ) DrawsFault). Some draws) c.from_words.ensures ∙ sym (read_all read)
