use Rattle.std.proofs.Common.{◌≡◌, Some, sym, ap, ◌∙◌}
use Rattle.sipl_evidence.specs.Looks.{key}
use Rattle.sipl_evidence.specs.WalkPlaces.{name_of, stage_key}
use Rattle.sipl_evidence.proofs.WalkKeys.{stage_key-set, stage_key-alias, stage_key-existence}
use Rattle.sipl_evidence.proofs.walk_place.Place.wanted.Goals as goal
use Rattle.sipl_evidence.proofs.walk_place.Place.wanted.Goals.{in-Set, in-Alias, in-Existence}

pub returns : goal.returns
returns c =
    let place = c.args.self.now in
    let name = name_of place.name in
    let asked : stage_key place.stage c.args.kind name ≡ Some (key name c.match-self.kind) = elim c.match-self.branch [
      | in-Set w ↦ stage_key-set place.stage c.args.kind name w.in-Set.is ∙ ap (λ kind. Some (key name kind)) (sym w.kind-is)
      | in-Alias w ↦ stage_key-alias place.stage c.args.kind name w.in-Alias.is ∙ ap (λ kind. Some (key name kind)) (sym w.kind-is)
      | in-Existence w ↦ stage_key-existence place.stage c.args.kind name w.in-Existence.is ∙ ap (λ kind. Some (key name kind)) (sym w.kind-is)
    ] in
    c.requires.key ∙ asked ∙ ap (λ name. Some (key name c.match-self.kind)) (sym (c.in_ok-name.ensures.value ∙ c.get-name.ensures))
