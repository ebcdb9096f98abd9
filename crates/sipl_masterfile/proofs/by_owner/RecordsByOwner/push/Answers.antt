use Rattle.std.proofs.Common.{◌+◌, Some, length, cond, nat_eq, ap, ◌∙◌}
use Rattle.std.specs.Option.{unwrap_or}
use Rattle.indexmap.specs.IndexMap.{get}
use Rattle.sipl_masterfile.proofs.Owners.{indexed-push}
use Rattle.sipl_masterfile.proofs.by_owner.RecordsByOwner.push.Goals as goal

pub invariant_of-self-2 : goal.invariant_of-self-2
invariant_of-self-2 c =
    rw (c.push_reserved.ensures.items, c.in_ok-link.ensures.records, c.in_ok-link.ensures.earlier) (indexed-push _ _ _ _ _ _ c.self.invariant (ap (λ code. unwrap_or (get nat_eq c.self.inside.ends code) 0) c.name_code.ensures) (λ other. c.in_ok-link.ensures.ends other ∙ ap (λ code. cond (nat_eq code other) (Some (length c.self.inside.records.items + 1)) (get nat_eq c.self.inside.ends other)) c.name_code.ensures))
