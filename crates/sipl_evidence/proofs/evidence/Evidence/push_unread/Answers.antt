use Rattle.std.proofs.Common.{ap, ◌∙◌}
use Rattle.sipl_evidence.specs.Places.{place_of}
use Rattle.sipl_evidence.proofs.evidence.Evidence.push_unread.Goals as goal

pub reserve_item-requires : goal.reserve_item-requires
reserve_item-requires c =
    let items = c.self.inside.items.items in
    record { evidence = c.self.invariant; new = ap (place_of items) c.key.ensures.key ∙ ap (λ xs. place_of xs c.args.item.key) c.self.view_is ∙ c.requires }
