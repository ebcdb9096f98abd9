use Rattle.std.proofs.Common.{ap, ◌∙◌, is_some}
use Rattle.std.specs.Map.{lookup}
use Rattle.sipl_choice.specs.Endpoints.{same_endpoint}
use Rattle.sipl_outages.specs.Holds.{is_held}
use Rattle.sipl_outages.proofs.Ends.{derived_eq, is_some-lookup_lasting}
use Rattle.sipl_outages.proofs.board.Board.is_held.Goals as goal

pub returns-clause-held : goal.returns-clause-held
returns-clause-held c =
    let b = c.self.inside in
    c.contains_key.ensures
    ∙ ap (λ same. is_some (lookup (same c.args.endpoint.now) b.ends.entries)) derived_eq
    ∙ is_some-lookup_lasting b.time (same_endpoint c.args.endpoint.now) b.ends.entries c.self.invariant.lasting
    ∙ ap (λ board. is_held board.holds c.args.endpoint.now) c.self.view_is
