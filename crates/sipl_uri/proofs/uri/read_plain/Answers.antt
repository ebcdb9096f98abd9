use Rattle.std.proofs.Common.{◌∙◌, sym}
use Rattle.sipl_uri.proofs.PlainQuestions.{plain_allowed, plain_question, on_err}
use Rattle.sipl_uri.proofs.uri.read_plain.Goals as goal

pub returns-in_err-name-clause-memory : goal.returns-in_err-name-clause-memory
returns-in_err-name-clause-memory c =
    on_err c.from_residual.result (plain_allowed c.args.text.now c.split_once.result.0.now c.split_once.result.1 c.in-Ok.port c.split_once.ensures.whole (sym c.in-Ok.ensures) c.in_err-name.ensures.memory)

pub returns-clause-read : goal.returns-clause-read
returns-clause-read c =
    plain_question c.args.secure c.args.text.now c.split_once.result.0.now c.split_once.result.1 c.in-Ok.port c.in-Some.name c.split_once.ensures.whole (sym c.in-Ok.ensures) (sym c.in_ok-name.ensures.value ∙ c.in-Some.is)
