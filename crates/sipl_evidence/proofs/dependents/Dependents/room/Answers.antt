use Rattle.std.proofs.Common.{subst, nat_eq}
use Rattle.std.specs.List.{IsDistinct}
use Rattle.sipl_evidence.specs.Dependents.{DependentsState, ids_of}
use Rattle.sipl_evidence.proofs.Listing.{distinct_ids}
use Rattle.sipl_evidence.proofs.dependents.Dependents.room.Goals as goal

pub returns-clause-distinct : goal.returns-clause-distinct
returns-clause-distinct c = λ code.
    let paired = c.self.invariant.paired in
    subst (λ (s : DependentsState). IsDistinct nat_eq (ids_of s.pairs code)) c.self.view_is
    (distinct_ids c.self.inside.by_code paired.codes paired.once code)
