use Rattle.std.proofs.Common.{◌≡◌, ◌&&◌, ◌++◌, map, nat_eq, ap, ◌∙◌, append_assoc}
use Rattle.std.specs.List.{filter}
use Rattle.std.specs.Map.{keys_of}
use Rattle.indexmap.proofs.MapLemmas.{OnOk-map}
use Rattle.sipl_zonestore.specs.NameTable.{count_at}
use Rattle.sipl_zonestore.specs.Changes.{existence_key}
use Rattle.sipl_zonestore.specs.Loading.{existence_changed}
use Rattle.sipl_zonestore.proofs.existence.push_replaced.Goals as goal

pub returns : goal.returns
returns c =
    let names = c.args.names.now.entries in
    let old = c.args.old.now.entries in
    let new = c.args.new.now.entries in
    OnOk-map c.push_counted.result _ _ (λ pushed.
    pushed
    ∙ ap (λ keys. keys ++ map existence_key (filter (λ name. nat_eq (count_at names name) 0) c.as_slice.result.now)) c.in_ok-push_left.ensures
    ∙ append_assoc c.args.keys.now.items (map existence_key (filter (λ name. nat_eq (count_at names name) (count_at old name) && nat_eq (count_at new name) 0) (keys_of old))) (map existence_key (filter (λ name. nat_eq (count_at names name) 0) c.as_slice.result.now))
    ∙ ap (λ among. c.args.keys.now.items ++ existence_changed names old new (keys_of old) among) (c.as_slice.ensures ∙ c.keys.ensures.rest))
    c.push_counted.ensures
