use Rattle.std.proofs.Common.{◌++◌, ◌∷◌, [], ap, ◌∙◌, arith}
use Rattle.indexmap.proofs.CallerLemmas.{insert_entry-new}
use Rattle.sipl_evidence.specs.Lists.{len_of}
use Rattle.sipl_evidence.specs.Spots.{spot, same_spot}
use Rattle.sipl_evidence.proofs.Linking.{none_after, some_within}
use Rattle.sipl_evidence.proofs.Pairs.{len-le-entries}
use Rattle.sipl_evidence.proofs.lists.Lists.push.Goals as goal

pub add_one-requires-clause-fits : goal.add_one-requires-clause-fits
add_one-requires-clause-fits c =
    let lists = c.args.self.now in
    let most = len-le-entries c.args.list (len_of lists c.args.list) lists.spots.entries (some_within lists c.requires.dense c.args.list) in
    omega (arith, most, c.len.ensures.len, c.len.ensures.small)

pub returns-clause-entries : goal.returns-clause-entries
returns-clause-entries c =
    let lists = c.args.self.now in
    let none = none_after lists c.requires.dense c.args.list c.len-index.result (omega (arith, c.len-index.ensures)) in
    let inserted = rw c.unwrap-none.ensures at c.insert.ensures.entries in
    inserted
    ∙ insert_entry-new same_spot lists.spots (spot c.args.list c.len-index.result) c.args.value none
    ∙ ap (λ n. lists.spots.entries ++ (spot c.args.list n, c.args.value) ∷ []) c.len-index.ensures
