use Rattle.sipl_lines.specs.Items.{end_of_input}
use Rattle.sipl_lines.proofs.Scripts.{at_play}
use Rattle.sipl_lines.proofs.script.Script.finish.Goals as goal

pub returns-in-Playing-clause-ok : goal.returns-in-Playing-clause-ok
returns-in-Playing-clause-ok c =
    at_play c.finish.result end_of_input c.args.self.now c.in-Playing.play c.finish.new.self c.args.out.now.items c.finish.new.out.items c.in-Playing.is c.finish.ensures.ok
