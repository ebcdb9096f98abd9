use Rattle.std.proofs.Common.{length, not, ◌==◌, ◌∙◌, sym, subst}
use Rattle.std.proofs.lemmas.List.{take_rest}
use Rattle.sipl_lines.specs.Tapped.{tapped_inner, has_failed}
use Rattle.sipl_lines.proofs.Turning.{SentTo, sent_more, or_same}
use Rattle.sipl_lines.proofs.server.send.Goals as goal

pub loop-rest-preserved : goal.loop-rest-preserved
loop-rest-preserved g c =
    let old = g.W.Write.contents (tapped_inner c.args.writer.now) in
    let new = g.W.Write.contents (tapped_inner c.write.new.self) in
    let rest = c.loop-rest.rest.now in (
      subst (λ r. SentTo old c.args.text.now new r) (sym (take_rest rest c.in-Ok.count))
          (sent_more new c.in-Ok.count c.loop-rest.invariant.0 c.in-Ok.ensures.bytes),
      c.in-Ok.ensures.failed ∙ or_same (has_failed c.loop-rest.writer) (not (length rest == 0)) c.in-Ok.count c.in-Ok.count-test.1 ∙ c.loop-rest.invariant.1,
    )
