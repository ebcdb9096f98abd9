use Rattle.std.proofs.Common.{◌≤◌, ◌++◌, Ok, length, ap, arith}
use Rattle.std.proofs.lemmas.Bool.{le-leb}
use Rattle.std.proofs.lemmas.List.{drop-replicate}
use Rattle.sipl_srv.proofs.draws.Draws.from_words.Goals as goal

pub returns : goal.returns
returns c =
    let given = c.args.given.now in
    let few : length given ≤ 32 = omega arith in
    rw (le-leb (length given) 32 few, c.copy_from_slice.ensures.after) (ap (λ ys. Ok (given ++ ys)) (drop-replicate (length given) 32 0))
