use Rattle.sipl_lines.specs.Items.{line}
use Rattle.sipl_lines.proofs.Scripts.{at_play}
use Rattle.sipl_lines.proofs.script.Script.process_line.Goals as goal

pub returns-in-Playing-clause-ok : goal.returns-in-Playing-clause-ok
returns-in-Playing-clause-ok c =
    at_play c.process_line.result (line c.args.line.now) c.args.self.now c.in-Playing.play c.process_line.new.self c.args.out.now.items c.process_line.new.out.items c.in-Playing.is c.process_line.ensures.ok
