use Rattle.std.proofs.Common.{◌≡◌, ◌-◌, ◌++◌, length, take}
use Rattle.rand_core.specs.Steps.{first_words}
use Rattle.rand_pcg.specs.Pcg.{pcg32}
use Rattle.sipl_srv.specs.Draws.{words_of_seed}
use Rattle.sipl_srv.proofs.draws.Draws.from_seed.Given as goal

abbrev pub invariant-loop-word : goal.invariant-loop-word
invariant-loop-word l = (length l.word-items ≡ 32)
    × (take l.word-index l.word-items ++ first_words pcg32 (32 - l.word-index) l.generator ≡ words_of_seed l.seed)
