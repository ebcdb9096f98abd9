use Rattle.std.proofs.Common.{◌∷◌, [], ◌++◌, take, drop, length-drop, arith}
use Rattle.std.proofs.lemmas.List.{take_rest}
use Rattle.sipl_archive.proofs.Beginning.{begins_more}
use Rattle.sipl_archive.proofs.state.whole_len.Goals as goal

pub loop-len-preserved : goal.loop-len-preserved
loop-len-preserved c =
    let text = c.args.text.now in
    let octets = c.loop-len.octets in
    let begins = c.loop-len.invariant.begins in
    let found = rw (take_rest text octets) at c.in-Some.ensures.octets in
    record {
      within = omega (arith, found.1, length-drop octets text, c.loop-len.invariant.within);
      begins = (begins.0 ++ take c.in-Some.len (drop octets text) ∷ [], begins_more begins.0 text octets c.in-Some.len begins.1 found.2);
    }
