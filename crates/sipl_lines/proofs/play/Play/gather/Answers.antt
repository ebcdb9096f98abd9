use Rattle.std.proofs.Common.{◌≡◌, ◌==◌, true, Ok, Err, None, refl, rules}
use Rattle.sipl_lines.specs.Gathering.{load_fault_text}
use Rattle.sipl_lines.specs.Script.{play_loader}
use Rattle.sipl_lines.proofs.Steps.{all_taken}
use Rattle.sipl_lines.proofs.play.Play.gather.Goals as goal

pub returns-in-Ok : goal.returns-in-Ok
returns-in-Ok c =
    let all : (c.args.gathering.left == 0) ≡ true = search rules in
    let made = c.make_step.ensures in
    all_taken play_loader c.args.gathering (Ok c.in-Ok.zone) c.args.self.now (record { world = c.make_step.new.world; gathering = None })
    c.args.out.now.items c.make_step.new.out.items all c.in-Ok.ensures (made.0, (made.1, refl), made.2)

pub returns-in-Err : goal.returns-in-Err
returns-in-Err c =
    let all : (c.args.gathering.left == 0) ≡ true = search rules in
    all_taken play_loader c.args.gathering (Err c.in-Err.fault) c.args.self.now (record { world = c.args.self.now.world; gathering = None })
    c.args.out.now.items c.write_load_fault.new.out.items all c.in-Err.ensures (load_fault_text c.in-Err.fault, (refl, refl), c.write_load_fault.ensures.text)
