use Rattle.std.proofs.Common.{length, subst, ap, ◌∙◌, nat_eq}
use Rattle.std.specs.List.{IsDistinct}
use Rattle.sipl_evidence.specs.Lists.{len_of}
use Rattle.sipl_evidence.specs.Dependents.{DependentsState, code_of_key, ids_of}
use Rattle.sipl_evidence.proofs.Listing.{distinct_ids, len-is-count}
use Rattle.sipl_evidence.proofs.dependents.Dependents.count.Goals as goal

pub returns-clause-count : goal.returns-clause-count
returns-clause-count c =
    let paired = c.self.invariant.paired in
    let code = code_of_key c.args.key.now in
    c.len.ensures ∙ ap (len_of c.self.inside.by_code) c.code_of_key.ensures
    ∙ len-is-count c.self.inside.by_code paired.codes paired.once code
    ∙ ap (λ (s : DependentsState). length (ids_of s.pairs code)) c.self.view_is

pub returns-clause-distinct : goal.returns-clause-distinct
returns-clause-distinct c = λ code.
    let paired = c.self.invariant.paired in
    subst (λ (s : DependentsState). IsDistinct nat_eq (ids_of s.pairs code)) c.self.view_is
    (distinct_ids c.self.inside.by_code paired.codes paired.once code)
