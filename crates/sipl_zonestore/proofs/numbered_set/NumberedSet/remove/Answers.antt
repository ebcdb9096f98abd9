use Rattle.std.proofs.Common.{◌≡◌, not, ◌∙◌, ap, rules}
use Rattle.std.specs.List.{filter}
use Rattle.std.proofs.lemmas.Fn.{filter_same}
use Rattle.sipl_records.specs.declared.data.Data.{Data}
use Rattle.sipl_records.specs.Sets.{same_data}
use Rattle.sipl_records.proofs.Public.{same_data_is}
use Rattle.sipl_zonestore.specs.Content.{data_without}
use Rattle.sipl_zonestore.proofs.numbered_set.NumberedSet.remove.Goals as goal

pub returns : goal.returns
returns c =
    let kept : c.retain.new.self.items ≡ filter (λ (other : Data). not (same_data c.args.value.now other)) c.self.inside.values.items = filter_same _ (λ (other : Data). not (same_data c.args.value.now other)) _ (λ x b f k. search (rules, same_data_is)) _ _ c.retain.ensures.filtered in
    (λ i. record { number = c.self.inside.number; values = kept i }) ∙ ap (data_without c.args.value.now) c.self.view_is
