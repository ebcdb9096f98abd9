use Rattle.sipl_lines.proofs.Scripts.{step_made}
use Rattle.sipl_lines.proofs.play.make_step.Goals as goal

pub returns : goal.returns
returns c =
    step_made c.args.step c.of-shown.result c.step-reply.result c.args.world.now c.step-reply.new.self c.args.out.now.items c.write_reply.new.out.items
    c.of-shown.ensures c.step-reply.ensures c.write_reply.ensures
