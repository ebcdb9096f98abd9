use Rattle.sipl_lines.proofs.Steps.{answered_uri}
use Rattle.sipl_lines.proofs.desk_commands.find.Goals as goal

pub returns-in-Ok-find-clause-replies : goal.returns-in-Ok-find-clause-replies
returns-in-Ok-find-clause-replies g c = record {
  replied = answered_uri g.D.Desk.rules c.args.desk.now c.find.new.self c.args.out.now.items c.reply_handed.new.out.items _ _ c.in-Ok.question c.in-Ok-draws.draws c.in-Ok-find.handed
      c.in-Ok.ensures.read c.in-Ok-draws.is c.in-Ok-find.ensures c.reply_handed.ensures.text;
  unchanged = tt;
  unwritten = tt;
  capacity = c.reply_handed.ensures.capacity;
}
