use Rattle.std.proofs.Common.{rules, ◌≡◌, [], None, refl}
use Rattle.std.specs.Arc.{arc_value}
use Rattle.sipl_choice.specs.Abilities.{abilities_fault}
use Rattle.sipl_plans.specs.Readings.{Reads}
use Rattle.sipl_plans.specs.Route.{asking_route}
use Rattle.sipl_plans.proofs.Outcomes.{sound-read, read_from, looks-read}
use Rattle.sipl_plans.proofs.direct.locate.Goals as goal

pub returns-in_err-layout-clause-looked : goal.returns-in_err-layout-clause-looked
returns-in_err-layout-clause-looked g c = c.route.ensures.looked c.args.sets.now (0, refl)

pub returns-in_err-evidence-clause-looked : goal.returns-in_err-evidence-clause-looked
returns-in_err-evidence-clause-looked g c = c.route.ensures.looked c.args.sets.now (0, refl)

pub returns-clause-looked : goal.returns-clause-looked
returns-clause-looked g c = c.route.ensures.looked c.args.sets.now (0, refl)

pub new-requires-2 : goal.new-requires-2
new-requires-2 g c =
    let fits : abilities_fault c.args.abilities.preference ≡ None = search rules in
    let is : Reads g.S.Sets.source (asking_route c.args.question c.args.abilities) [] c.args.sets.now c.in_ok-layout.layout (arc_value c.in_ok-evidence.evidence) c.route.new.sets = search rules in
    record { sound = sound-read g.S.Sets.source g.met.S.Sets.kept c.args.sets.now c.requires.sets c.args.question c.args.abilities fits c.in_ok-layout.layout (arc_value c.in_ok-evidence.evidence) c.route.new.sets is }

pub returns-clause-found : goal.returns-clause-found
returns-clause-found g c =
    let fits : abilities_fault c.args.abilities.preference ≡ None = search rules in
    let is : Reads g.S.Sets.source (asking_route c.args.question c.args.abilities) [] c.args.sets.now c.in_ok-layout.layout (arc_value c.in_ok-evidence.evidence) c.route.new.sets = search rules in
    read_from g.S.Sets.source g.met.S.Sets.kept c.args.sets.now c.requires.sets c.args.question c.args.abilities fits c.in_ok-layout.layout (arc_value c.in_ok-evidence.evidence) c.route.new.sets is c.new-2.result c.new-2.ensures

pub returns-clause-looks : goal.returns-clause-looks
returns-clause-looks g c =
    let fits : abilities_fault c.args.abilities.preference ≡ None = search rules in
    let is : Reads g.S.Sets.source (asking_route c.args.question c.args.abilities) [] c.args.sets.now c.in_ok-layout.layout (arc_value c.in_ok-evidence.evidence) c.route.new.sets = search rules in
    looks-read g.S.Sets.source g.met.S.Sets.kept c.args.sets.now c.requires.sets c.args.question c.args.abilities fits c.in_ok-layout.layout (arc_value c.in_ok-evidence.evidence) c.route.new.sets is c.new-2.result c.new-2.ensures
