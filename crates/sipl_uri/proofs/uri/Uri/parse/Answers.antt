use Rattle.std.proofs.Common.{◌≡◌, Ok, IfOk, rules}
use Rattle.std.proofs.lemmas.Result.{IfOk-weaker}
use Rattle.sipl_uri.specs.declared.question.Question.{Question}
use Rattle.sipl_uri.specs.QuestionText.{IsAskable}
use Rattle.sipl_uri.specs.Uris.{question_of}
use Rattle.sipl_uri.proofs.Askable.{question_of-askable}
use Rattle.sipl_uri.proofs.uri.Uri.parse.Goals as goal

pub returns-clause-askable : goal.returns-clause-askable
returns-clause-askable c =
    let read : IfOk c.read_after_scheme.result (λ (question : Question). question_of c.args.bytes.now ≡ Ok question) = search rules in
    IfOk-weaker c.read_after_scheme.result (λ (question : Question). question_of c.args.bytes.now ≡ Ok question) IsAskable (question_of-askable c.args.bytes.now) read
