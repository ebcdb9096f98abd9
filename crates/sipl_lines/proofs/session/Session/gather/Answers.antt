use Rattle.std.proofs.Common.{◌≡◌, ◌==◌, true, Ok, Err, None, refl, rules}
use Rattle.sipl_lines.specs.Gathering.{load_fault_text}
use Rattle.sipl_lines.specs.Session.{at_desk, session_loader, with_desk, with_gathering}
use Rattle.sipl_lines.proofs.Steps.{all_taken}
use Rattle.sipl_lines.proofs.session.Session.gather.Goals as goal

pub returns-in-Ok-clause-done : goal.returns-in-Ok-clause-done
returns-in-Ok-clause-done g c =
    let before = at_desk c.args.desk.now c.args.self.now in
    let all : (c.args.gathering.left == 0) ≡ true = search rules in
    let done = c.load_zone.ensures.done in
    all_taken (session_loader g.D.Desk.rules) c.args.gathering (Ok c.in-Ok.zone) before (with_desk c.load_zone.new.desk (with_gathering None before))
    c.args.out.now.items c.load_zone.new.out.items all c.in-Ok.ensures (done.0, (done.1, refl), done.2)

pub returns-in-Err-clause-done : goal.returns-in-Err-clause-done
returns-in-Err-clause-done g c =
    let before = at_desk c.args.desk.now c.args.self.now in
    let all : (c.args.gathering.left == 0) ≡ true = search rules in
    all_taken (session_loader g.D.Desk.rules) c.args.gathering (Err c.in-Err.fault) before (with_gathering None before)
    c.args.out.now.items c.write_load_fault.new.out.items all c.in-Err.ensures (load_fault_text c.in-Err.fault, (refl, refl), c.write_load_fault.ensures.text)
