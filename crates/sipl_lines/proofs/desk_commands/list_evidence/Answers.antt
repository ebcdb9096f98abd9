use Rattle.std.proofs.Common.{sym, ◌∙◌}
use Rattle.sipl_lines.proofs.Steps.{listed_uri}
use Rattle.sipl_lines.proofs.desk_commands.list_evidence.Goals as goal

pub returns-in-Ok-deps-clause-replies : goal.returns-in-Ok-deps-clause-replies
returns-in-Ok-deps-clause-replies g c = record {
  replied = listed_uri g.D.Desk.rules c.args.desk.now c.deps.new.self c.args.out.now.items c.reply_evidence.new.out.items _ c.in-Ok.question c.in-Ok-deps.evidence
      (sym c.in_ok-question.ensures.read ∙ c.in-Ok.is) c.in-Ok-deps.ensures c.reply_evidence.ensures.text;
  unchanged = tt;
  unwritten = tt;
  capacity = c.reply_evidence.ensures.capacity;
}
