use Rattle.std.proofs.Common.{cond, length, Some, ap, sym, subst, ◌∙◌, ◌++◌, ◌∷◌, []}
use Rattle.indexmap.specs.IndexMap.{get}
use Rattle.indexmap.proofs.MapLemmas.{OnOk-map}
use Rattle.sipl_names.specs.Labels.{same_name}
use Rattle.sipl_records.specs.Sets.{same_key}
use Rattle.sipl_evidence.specs.Places.{IsEvidence, place_in, place_of, table_of}
use Rattle.sipl_evidence.proofs.Placing.{evidence-push}
use Rattle.sipl_evidence.proofs.evidence.index_next.Goals as goal

pub returns-in-Some-clause-ok : goal.returns-in-Some-clause-ok
returns-in-Some-clause-ok c =
    let items = c.args.items.now in
    let old = table_of c.args.places.now in
    OnOk-map c.insert_place.result _ _
    (λ after item same. evidence-push items item old (get same_name c.insert_place.new.table) (c.requires.evidence.indexed c.if-len-gt-MAX_SEARCHED.true) (ap (place_of items) same ∙ c.requires.new)
    (λ k. after k
    ∙ ap (λ table. cond (same_key c.args.key.now k) (Some (length items)) (place_in (get same_name table) k)) c.deref_mut.ensures.value
    ∙ ap (λ places. cond (same_key c.args.key.now k) (Some (length items)) (place_in (table_of places) k)) (sym c.in-Some.is)
    ∙ ap (λ own. cond (same_key own k) (Some (length items)) (place_in old k)) (sym same)))
    c.insert_place.ensures.ok

pub returns-clause-ok : goal.returns-clause-ok
returns-clause-ok c = λ item same.
    let indexed = c.in_ok-table.ensures item same in
    subst (λ table. IsEvidence (c.args.items.now ++ item ∷ []) (get same_name table)) (sym c.in_ok-new.ensures.ok)
    (record { distinct = indexed.distinct; indexed = λ _. indexed })
