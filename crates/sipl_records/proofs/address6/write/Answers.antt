use Rattle.std.proofs.Common.{◌++◌, ◌+◌, take, drop, set, get_or, refl, ap, ◌∙◌, arith}
use Rattle.std.specs.Net.Text.{hex}
use Rattle.sipl_records.specs.Ipv6.{groups_of_number}
use Rattle.sipl_records.proofs.Ipv6Prints.{length-text_of_address6}
use Rattle.sipl_records.proofs.Ipv6Texts.{next_group_written}
use Rattle.sipl_records.proofs.address6.write.Goals as goal

pub loop-group-preserved : goal.loop-group-preserved
loop-group-preserved c =
    let l = c.loop-group in
    let w = c.write_group-end-in-loop-group in
    let size = l.invariant.size in
    record {
      size = omega arith;
      written = next_group_written (groups_of_number c.args.number) l.text w.new.text l.group-index l.end w.result refl (omega arith) (omega arith) l.invariant.written
          (w.ensures.written ∙ ap (λ gs. take (l.end + 1) (set l.text l.end 58) ++ hex (get_or (take 7 (drop 1 gs)) l.group-index 0)) c.groups_of-groups.ensures);
      fits = omega (arith, w.ensures.end);
    }

pub returns-clause-short : goal.returns-clause-short
returns-clause-short c = length-text_of_address6 c.args.number
