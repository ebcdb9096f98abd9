use Rattle.sipl_lines.specs.Desk.{book_rules}
use Rattle.sipl_lines.specs.PlainDesk.{plain_of, plain_rules}
use Rattle.sipl_lines.proofs.DeskCalls.{book_implies_plain}
use Rattle.sipl_lines.proofs.Seen.{serves_desk}
use Rattle.sipl_lines.proofs.book.serve_book_within.Goals as goal

pub returns-clause-plain : goal.returns-clause-plain
returns-clause-plain g c =
    serves_desk plain_of book_rules plain_rules book_implies_plain c.args.limit c.serve_within.result g.R.Read.remaining g.W.Write.contents c.args.book.now c.serve_within.new.desk
    c.args.reader.now c.serve_within.new.reader c.args.writer.now c.serve_within.new.writer c.serve_within.ensures
