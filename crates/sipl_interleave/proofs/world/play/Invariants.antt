use Rattle.std.proofs.Common.{◌≡◌, ◌+◌, ◌≤◌, ◌++◌, length, vec_len, vec_capacity}
use Rattle.std.specs.Vec.Iter.{into_iter_items, into_iter_len}
use Rattle.sipl_interleave.specs.Plays.{Plays}
use Rattle.sipl_interleave.specs.World.{IsWorld}
use Rattle.sipl_interleave.proofs.world.play.Given as goal

abbrev pub invariant-loop-step : goal.invariant-loop-step
invariant-loop-step l =
    record {
      steps : l.yielded ++ into_iter_items l.step-iterator ≡ into_iter_items l.initial.step-iterator;
      played : Plays l.yielded l.initial.world l.replies.items l.world;
      good : IsWorld l.world;
      len : into_iter_len l.step-iterator ≡ length (into_iter_items l.step-iterator);
      space : vec_len l.replies + length (into_iter_items l.step-iterator) ≤ vec_capacity l.replies;
    }
