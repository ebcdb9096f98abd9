use Rattle.std.proofs.Common.{Some, cond, ap, ◌∙◌, unwrap_or}
use Rattle.indexmap.specs.IndexMap.{get}
use Rattle.indexmap.proofs.MapLemmas.{OnOk-map}
use Rattle.sipl_names.specs.Labels.{same_name}
use Rattle.sipl_records.specs.Sets.{same_kind}
use Rattle.sipl_evidence.proofs.Placing.{place_at-own, place_in-set}
use Rattle.sipl_evidence.proofs.places.insert_place.Goals as goal

pub returns-clause-ok : goal.returns-clause-ok
returns-clause-ok c =
    let key = c.args.key.now in
    let own_is = c.unwrap_or-places.ensures ∙ ap (λ o. unwrap_or o c.empty.result) (c.copied.ensures ∙ c.get.ensures.value) in
    let own = place_at-own (get same_name c.args.table.now key.name) c.empty.result c.unwrap_or-places.result c.empty.ensures own_is in
    OnOk-map c.replace_places.result _ _ (λ new. place_in-set _ _ key (Some c.args.place) c.set.new.self (λ kind. c.set.ensures kind ∙ ap (λ o. cond (same_kind key.kind kind) (Some c.args.place) o) (own kind)) new) c.replace_places.ensures.ok
