use Rattle.std.proofs.Common.{rules, arith}
use Rattle.sipl_outages.proofs.Steps.{advance_keeps}
use Rattle.sipl_outages.proofs.board.Board.advance.Goals as goal

pub invariant_of-self : goal.invariant_of-self
invariant_of-self c =
    let b = c.self.inside in
    advance_keeps b.time b.ends.entries b.max_holds c.self.invariant c.args.to (omega arith) c.drop_ended.new.ends.entries c.drop_ended.ensures.unique c.drop_ended.ensures.ends

pub returns-clause-event : goal.returns-clause-event
returns-clause-event c =
    let b = c.self.inside in
    record {
      accepted = search rules;
      after = search rules;
      refused = tt;
      unchanged = tt;
      limit = search rules;
      consistent = advance_keeps b.time b.ends.entries b.max_holds c.self.invariant c.args.to (omega arith) c.drop_ended.new.ends.entries c.drop_ended.ensures.unique c.drop_ended.ensures.ends;
    }
