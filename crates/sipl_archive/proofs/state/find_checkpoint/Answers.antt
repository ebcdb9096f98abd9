use Rattle.std.proofs.Common.{◌≡◌, ◌∷◌, [], ◌++◌, ◌∙◌, ℕ, false, Option, Some, ap, sym, take, drop, length-drop, arith}
use Rattle.std.specs.Prelude.{nat_eq}
use Rattle.std.specs.Option.{option_eq}
use Rattle.std.proofs.lemmas.List.{take_rest}
use Rattle.sipl_lines.specs.CommandLines.{first_line}
use Rattle.sipl_archive.specs.Commands.{checkpoint_in}
use Rattle.sipl_archive.proofs.Beginning.{begins_more, has_none_more}
use Rattle.sipl_archive.proofs.state.find_checkpoint.Goals as goal

pub loop-len-preserved : goal.loop-len-preserved
loop-len-preserved c =
    let text = c.args.text.now in
    let octets = c.loop-len.octets in
    let len = c.in-Some.len in
    let commands = c.loop-len.invariant.commands in
    let found = rw (take_rest text octets) at c.in-Some.ensures.octets in
    let line = rw (take_rest text octets) at c.split_line.ensures.line in
    let differs : false ≡ option_eq nat_eq (checkpoint_in (first_line (drop octets text))) (Some c.args.checkpoint) =
    sym c.if-is_checkpoint.false ∙ c.eq-is_checkpoint.ensures ∙ ap (λ (m : Option ℕ). option_eq nat_eq m (Some c.args.checkpoint)) (c.checkpoint_of.ensures ∙ ap checkpoint_in line) in
    record {
      within = omega (arith, found.1, length-drop octets text, c.loop-len.invariant.within);
      commands = (
        commands.0 ++ take len (drop octets text) ∷ [],
        begins_more commands.0 text octets len commands.1 found.2,
        has_none_more c.args.checkpoint commands.0 text octets len commands.2 found.2 differs,
      );
    }
