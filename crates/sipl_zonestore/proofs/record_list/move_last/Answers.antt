use Rattle.std.proofs.Common.{◌≡◌, ◌≤◌, ◌-◌, ◌++◌, length, take, drop, arith, ap, sym, ◌∙◌, length-append}
use Rattle.sipl_zonestore.proofs.Rotations.{rotated, rotated-length, cut-off, written}
use Rattle.sipl_zonestore.proofs.record_list.move_last.Goals as goal

pub returns-clause-items : goal.returns-clause-items
returns-clause-items g c = λ kept last is long.
    let start = c.args.start in
    let end = c.args.end in
    let count = c.args.items.now.len in
    let rest = c.len.result - end - c.args.added in
    let total : length (kept ++ last) ≡ count = ap length (sym is) ∙ sym c.args.items.now.ok.0 in
    let parts = length-append kept last in
    let once : c.rotate_from.new.items ≡ rotated end rest (kept ++ last) = c.rotate_from.ensures ∙ ap (rotated end rest) (c.deref_mut.ensures.value ∙ is) in
    let whole : c.deref_mut-2.result.now ≡ rotated end rest (kept ++ last) = c.deref_mut-2.ensures.value ∙ written count c.rotate_from.new.items c.args.items.now.items (ap length once ∙ rotated-length end rest (kept ++ last) ∙ total) ∙ once in
    let twice : c.rotate_from-2.new.items ≡ rotated start (end - start) (rotated end rest (kept ++ last)) = c.rotate_from-2.ensures ∙ ap (rotated start (end - start)) whole in
    let long_twice : length c.rotate_from-2.new.items ≡ count = ap length twice ∙ rotated-length start (end - start) (rotated end rest (kept ++ last)) ∙ rotated-length end rest (kept ++ last) ∙ total in
    let rest_is : rest ≡ length kept - end = omega (arith, c.len.ensures, total, parts, long) in
    let limit : end ≤ length kept = omega (arith, c.requires.limit, total, parts, long) in
    c.truncate.ensures.items ∙ ap (take (c.len-2.result - (end - start))) (written count c.rotate_from-2.new.items (take count (c.rotate_from.new.items ++ drop (length c.rotate_from.new.items) c.args.items.now.items)) long_twice) ∙ cut-off kept last c.rotate_from-2.new.items start end c.len-2.result c.requires.order limit (c.len-2.ensures ∙ sym total) (twice ∙ ap (λ n. rotated start (end - start) (rotated end n (kept ++ last))) rest_is)
