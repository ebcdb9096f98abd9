use Rattle.std.proofs.Common.{◌-◌, length, refl, sym, ◌∙◌, arith, take, drop}
use Rattle.std.proofs.lemmas.List.{length-drop, take_all}
use Rattle.sipl_zonestore.proofs.PatchedLists.{found-patch}
use Rattle.sipl_zonestore.proofs.patches.patch_of.Goals as goal

pub returns : goal.returns
returns c =
    let records = c.args.records.now in
    let text = c.args.text.now in
    let place = c.first_within-place.result in
    let same = c.common_start-same.result in
    let zone = take (length records - place) (drop place records) in
    found-patch c.args.apex.now records text zone (take (length zone - same) (drop same zone)) (take (length text - same) (drop same text)) _ place same c.common_end-ends.result (take_all (length records - place) (drop place records) (omega (arith, length-drop place records))) (take_all (length zone - same) (drop same zone) (omega (arith, length-drop same zone))) (take_all (length text - same) (drop same text) (omega (arith, length-drop same text))) refl c.first_within-place.ensures.limit c.first_within-place.ensures.none c.common_start-same.ensures.limits.0 c.common_start-same.ensures.limits.1 c.common_start-same.ensures.same c.common_end-ends.ensures.limits.0 c.common_end-ends.ensures.limits.1 c.common_end-ends.ensures.same (sym c.are_within.ensures ∙ c.if-not-are_within.false) c.requires.within
