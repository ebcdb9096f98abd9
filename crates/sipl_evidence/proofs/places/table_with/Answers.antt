use Rattle.std.proofs.Common.{cond, length, Some, ap, sym, subst, ◌∙◌}
use Rattle.std.proofs.lemmas.List.{take_all}
use Rattle.indexmap.specs.IndexMap.{get}
use Rattle.sipl_names.specs.Labels.{same_name}
use Rattle.sipl_records.specs.Sets.{same_key}
use Rattle.sipl_evidence.specs.Places.{IsIndexed, place_in, place_of}
use Rattle.sipl_evidence.proofs.Placing.{indexed-next, indexed-push}
use Rattle.sipl_evidence.proofs.places.table_with.Goals as goal

pub loop-place-preserved : goal.loop-place-preserved
loop-place-preserved c =
    let old = get same_name c.loop-place.table in
    indexed-next c.args.items.now c.loop-place.place c.index-items-place.result old (get same_name c.insert_place.new.table)
    c.requires.distinct c.loop-place-test.true (sym c.index-items-place.is) c.loop-place.invariant
    (λ k. c.in_ok-insert_place.ensures.ok k ∙ ap (λ own. cond (same_key own k) (Some c.loop-place.place) (place_in old k)) c.key.ensures.key)

pub returns : goal.returns
returns c = λ item same.
    let items = c.args.items.now in
    let old = get same_name c.loop-place.table in
    let all = subst (λ xs. IsIndexed xs old) (take_all c.loop-place.place items c.loop-place-test.false) c.loop-place.invariant in
    indexed-push items item old (get same_name c.insert_place-2.new.table) all (ap (place_of items) same ∙ c.requires.new)
    (λ k. c.in_ok-insert_place-2.ensures.ok k ∙ ap (λ own. cond (same_key own k) (Some (length items)) (place_in old k)) (sym same))
