use Rattle.std.proofs.Common.{ap, sym, ◌∙◌}
use Rattle.sipl_records.specs.declared.kind.Kind.TheVariants.{Exists}
use Rattle.sipl_evidence.specs.Answers.{at_encloser, at_source, max_ancestors, unless_exists}
use Rattle.sipl_evidence.specs.Known.{advance, known}
use Rattle.sipl_evidence.specs.Looks.{key}
use Rattle.sipl_evidence.specs.WalkPlaces.{name_of}
use Rattle.sipl_evidence.specs.Walks.{next_within}
use Rattle.sipl_evidence.proofs.FewSets.{max_ancestors-is}
use Rattle.sipl_evidence.proofs.Legs.{IfOk-weaken, IsLeg-same, absence-passed}
use Rattle.sipl_evidence.proofs.Walking.{none_from_length}
use Rattle.sipl_evidence.proofs.reach.existence_leg.Goals as goal

pub returns-clause-leg : goal.returns-clause-leg
returns-clause-leg c =
    let items = c.args.evidence.now in
    let kind = c.args.kind in
    let left = c.args.left in
    let name = name_of c.args.name in
    let source = at_source (next_within max_ancestors left kind) kind in
    let found = c.in-Some.existence.now in
    let none = none_from_length found (sym c.is_empty.ensures ∙ c.if-not-is_empty.false) in
    let absent = ap (λ n. known items (key n Exists)) (sym c.get.ensures) ∙ sym c.in-Some.ensures.content in
    let passed = absence-passed items max_ancestors name source found absent none
    ∙ ap (λ n. advance items (at_encloser n name source)) max_ancestors-is
    ∙ ap (λ n. advance items (at_encloser 127 n source)) (sym c.in_ok-name.ensures) in
    IfOk-weaken c.ancestor_leg.result _ _
    (IsLeg-same items (unless_exists max_ancestors name source) (at_encloser 127 c.in_ok-name.name source) passed left kind)
    c.ancestor_leg.ensures
