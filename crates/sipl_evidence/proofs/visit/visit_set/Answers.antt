use Rattle.std.proofs.Common.{sym, ◌∙◌}
use Rattle.sipl_evidence.specs.Answers.{at_alias, at_name, max_ancestors}
use Rattle.sipl_evidence.specs.Walks.{next_within}
use Rattle.sipl_evidence.proofs.Legs.{IsVisit-same, set-passed}
use Rattle.sipl_evidence.proofs.Walking.{none_from_length}
use Rattle.sipl_evidence.proofs.visit.visit_set.Goals as goal

pub returns : goal.returns
returns c = λ otherwise.
    let items = c.args.evidence.now in
    let kind = c.args.kind in
    let name = c.args.name.now in
    let next = next_within max_ancestors c.args.left kind in
    let set = c.in-Some.set.now in
    let none = none_from_length set (sym c.is_empty.ensures ∙ c.if-not-is_empty.false) in
    let passed = set-passed items next kind name otherwise set (sym c.in-Some.ensures.content) none in
    IsVisit-same items (at_name next kind name otherwise) (at_alias next name otherwise) passed next kind name otherwise c.visit_alias.result (c.visit_alias.ensures kind otherwise)
