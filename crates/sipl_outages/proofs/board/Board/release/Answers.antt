use Rattle.std.proofs.Common.{Ok, ap, sym, subst, ◌∙◌}
use Rattle.std.specs.List.{IsDistinct}
use Rattle.std.specs.Map.{keys_of, lookup, remove_entry}
use Rattle.sipl_outages.specs.Holds.BoardEvent.{Release}
use Rattle.sipl_outages.specs.Board.{Makes}
use Rattle.sipl_outages.proofs.Ends.{derived_eq}
use Rattle.sipl_outages.proofs.Steps.{board_of, release_makes, release_keeps}
use Rattle.sipl_outages.proofs.board.Board.release.Goals as goal

pub invariant_of-self : goal.invariant_of-self
invariant_of-self c =
    let b = c.self.inside in
    let new = c.shift_remove.new.self.entries in
    release_keeps b.time b.ends.entries b.max_holds c.self.invariant c.args.endpoint.now new
    (subst (λ same. IsDistinct same (keys_of new)) derived_eq c.shift_remove.ensures.unique)
    (c.shift_remove.ensures.entries ∙ ap (λ same. remove_entry (same c.args.endpoint.now) b.ends.entries) derived_eq)

pub invariant_of-self-2 : goal.invariant_of-self-2
invariant_of-self-2 c =
    let b = c.self.inside in
    let new = c.shift_remove.new.self.entries in
    release_keeps b.time b.ends.entries b.max_holds c.self.invariant c.args.endpoint.now new
    (subst (λ same. IsDistinct same (keys_of new)) derived_eq c.shift_remove.ensures.unique)
    (c.shift_remove.ensures.entries ∙ ap (λ same. remove_entry (same c.args.endpoint.now) b.ends.entries) derived_eq)

pub returns-clause-event : goal.returns-clause-event
returns-clause-event c =
    let b = c.self.inside in
    let k = c.args.endpoint.now in
    let new = c.shift_remove.new.self.entries in
    let found = ap (λ same. lookup (same k) b.ends.entries) (sym derived_eq) ∙ sym c.shift_remove.ensures.value ∙ c.in-Some.is in
    let is = c.shift_remove.ensures.entries ∙ ap (λ same. remove_entry (same k) b.ends.entries) derived_eq in
    subst (λ old. Makes (Release k) old (board_of b.time new b.max_holds) (Ok (tt {0}))) c.self.view_is
    (release_makes b.time b.ends.entries b.max_holds c.self.invariant k new c.in-Some.field-0 found is
    (subst (λ same. IsDistinct same (keys_of new)) derived_eq c.shift_remove.ensures.unique))
