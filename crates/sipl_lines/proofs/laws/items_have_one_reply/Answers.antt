use Rattle.sipl_lines.proofs.OneReply.{may_reply}
use Rattle.sipl_lines.proofs.laws.items_have_one_reply.Goals as goal

pub returns-clause-text : goal.returns-clause-text
returns-clause-text c = λ item before a b t u reply other well well'. (may_reply item before t u a b reply other well well').0

pub returns-clause-state : goal.returns-clause-state
returns-clause-state c = λ item before a b t u reply other well well'. (may_reply item before t u a b reply other well well').1
