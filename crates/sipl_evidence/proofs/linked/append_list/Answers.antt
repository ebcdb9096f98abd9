use Rattle.std.proofs.Common.{◌≡◌, ◌++◌, length, ap, ◌∙◌, arith, length-append}
use Rattle.sipl_evidence.specs.Lists.{at, len_of}
use Rattle.sipl_evidence.proofs.Listing.{first_ids, length-first_ids, AreIdsOf-all, len-le-count}
use Rattle.sipl_evidence.proofs.linked.append_list.Goals as goal

pub push_reserved-requires : goal.push_reserved-requires
push_reserved-requires c =
    let lists = c.args.by_code.now in
    let first = first_ids (at lists) c.args.code c.loop-index.index in
    omega (arith, ap length c.loop-index.invariant.ids, length-append c.args.ids.now.items first, length-first_ids (at lists) c.args.code c.loop-index.index, c.loop-index.ids.ok, c.loop-index.invariant.capacity, len-le-count lists c.requires.dense c.requires.once c.args.code, c.requires.space, c.len-index-end.ensures)

pub returns-clause-appended : goal.returns-clause-appended
returns-clause-appended c =
    let lists = c.args.by_code.now in
    let all : c.loop-index.index ≡ len_of lists c.args.code = omega (arith, c.len-index-end.ensures) in
    (first_ids (at lists) c.args.code (len_of lists c.args.code), c.loop-index.invariant.ids ∙ ap (λ n. c.args.ids.now.items ++ first_ids (at lists) c.args.code n) all, AreIdsOf-all lists c.requires.dense c.requires.once c.args.code)
