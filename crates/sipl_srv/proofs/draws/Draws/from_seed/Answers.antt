use Rattle.std.proofs.Common.{refl, sym, ap, ◌∙◌, arith}
use Rattle.std.proofs.lemmas.List.{length-set}
use Rattle.rand_core.specs.Steps.{first_words}
use Rattle.rand_pcg.specs.Pcg.{pcg32}
use Rattle.sipl_srv.proofs.Seeds.{first_words-more, first_words-all}
use Rattle.sipl_srv.proofs.draws.Draws.from_seed.Goals as goal

pub loop-word-init : goal.loop-word-init
loop-word-init c = (refl, ap (first_words pcg32 32) c.new-generator.ensures)

pub loop-word-preserved : goal.loop-word-preserved
loop-word-preserved c =
    let xs = c.loop-word.word-items in
    let i = c.loop-word.word-index in (
      length-set xs i c.next_word.result ∙ c.loop-word.invariant.0,
      first_words-more xs i c.next_word.result c.loop-word.generator c.next_word.new.self c.loop-word.invariant.0 (omega arith) c.next_word.ensures
          ∙ c.loop-word.invariant.1,
    )

pub returns : goal.returns
returns c =
    sym (first_words-all c.loop-word.word-items c.loop-word.word-index c.loop-word.generator c.loop-word.invariant.0 (omega arith))
    ∙ c.loop-word.invariant.1
