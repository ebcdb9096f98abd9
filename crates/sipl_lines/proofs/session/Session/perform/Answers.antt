use Rattle.std.proofs.Common.{◌≡◌, sym, ap, subst}
use Rattle.sipl_lines.specs.Requests.{hold, meaning_of, release}
use Rattle.sipl_lines.specs.Session.{AppendsText, Performs, at_desk}
use Rattle.sipl_lines.proofs.Steps.{held_at_desk, released_at_desk}
use Rattle.sipl_lines.proofs.session.Session.perform.Goals as goal

pub returns-in-Hold-clause-replies : goal.returns-in-Hold-clause-replies
returns-in-Hold-clause-replies g c =
    let is : meaning_of c.args.command.now ≡ hold c.in-Hold.endpoint c.in-Hold.ms = ap meaning_of c.in-Hold.is in
    let done = subst (λ r. AppendsText (Performs g.D.Desk.rules r) (at_desk c.args.desk.now c.args.self.now) c.args.out.now.items (at_desk c.change_hold.new.desk c.args.self.now) c.change_hold.new.out.items) (sym is)
    (held_at_desk g.D.Desk.rules c.args.desk.now c.change_hold.new.desk c.args.out.now.items c.change_hold.new.out.items c.args.self.now c.in-Hold.endpoint c.in-Hold.ms c.change_hold.ensures.done) in
    record { replied = done; unchanged = tt; unwritten = tt; capacity = c.change_hold.ensures.capacity }

pub returns-in-Release-clause-replies : goal.returns-in-Release-clause-replies
returns-in-Release-clause-replies g c =
    let is : meaning_of c.args.command.now ≡ release c.in-Release.endpoint = ap meaning_of c.in-Release.is in
    let done = subst (λ r. AppendsText (Performs g.D.Desk.rules r) (at_desk c.args.desk.now c.args.self.now) c.args.out.now.items (at_desk c.change_hold-in-Release.new.desk c.args.self.now) c.change_hold-in-Release.new.out.items) (sym is)
    (released_at_desk g.D.Desk.rules c.args.desk.now c.change_hold-in-Release.new.desk c.args.out.now.items c.change_hold-in-Release.new.out.items c.args.self.now c.in-Release.endpoint c.change_hold-in-Release.ensures.done) in
    record { replied = done; unchanged = tt; unwritten = tt; capacity = c.change_hold-in-Release.ensures.capacity }
