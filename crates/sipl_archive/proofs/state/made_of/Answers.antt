use Rattle.std.proofs.Common.{◌≡◌, ◌∷◌, [], ◌++◌, ◌-◌, ◌∙◌, None, Some, List, ℕ, Option, ap, length, take, drop, length-drop, arith, sym}
use Rattle.std.proofs.lemmas.List.{take_rest}
use Rattle.std.specs.Option.{option_or}
use Rattle.sipl_archive.specs.Commands.{checkpoint_in}
use Rattle.sipl_archive.specs.Restoring.{after_made}
use Rattle.sipl_archive.proofs.Making.{makes_more}
use Rattle.sipl_archive.proofs.state.made_of.Goals as goal

pub loop-len-preserved : goal.loop-len-preserved
loop-len-preserved c =
    let text = c.args.text.now in
    let octets = c.loop-len.made.octets in
    let rest = c.loop-len.rest.now in
    let makes = c.loop-len.invariant.makes in
    let found = rw (take_rest text octets) at c.in-Some.ensures.octets in
    let line = rw (take_rest text octets) at c.split_line.ensures.line in
    let n = c.in-Some-made_reply_of.reply_len in
    let replied : after_made c.split_line.result.0.now rest ≡ Some (take (length rest - n) (drop n rest)) =
    c.in-Some-made_reply_of.ensures.1 ∙ ap (λ (r : List ℕ). Some r) (sym (take_rest rest n)) in
    let checkpoint : c.or-made.result ≡ option_or (checkpoint_in c.split_line.result.0.now) c.loop-len.made.checkpoint =
    c.or-made.ensures ∙ ap (λ (m : Option ℕ). option_or m c.loop-len.made.checkpoint) c.checkpoint_of.ensures in
    record {
      within = omega (arith, found.1, length-drop octets text, c.loop-len.invariant.within);
      makes = (
        makes.0 ++ take c.in-Some.len (drop octets text) ∷ [],
        makes_more makes.0 text c.args.replies.now c.split_line.result.0.now octets c.in-Some.len rest _ None c.loop-len.made.checkpoint _
            makes.1 found.2 line replied checkpoint,
      );
      none = c.loop-len.invariant.none;
    }
