use Rattle.sipl_lines.specs.PlainDesk.{plain_rules}
use Rattle.sipl_lines.specs.Session.{session_protocol}
use Rattle.sipl_lines.specs.SessionLaws.{session_rules}
use Rattle.sipl_lines.proofs.Pieces.{taken_more, taken_none}
use Rattle.sipl_lines.proofs.laws.pieces_have_the_replies_of_the_whole.Goals as goal

pub returns-clause-none : goal.returns-clause-none
returns-clause-none c = λ state old. taken_none (session_protocol plain_rules) state old

pub returns-clause-more : goal.returns-clause-more
returns-clause-more c = λ first now later octets old pending new piece pending' newer so_far takes. taken_more (session_protocol plain_rules) (session_rules plain_rules) first now later octets old pending new piece pending' newer so_far takes
