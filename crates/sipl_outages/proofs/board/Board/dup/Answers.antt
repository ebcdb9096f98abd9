use Rattle.std.proofs.Common.{◌≡◌, [], ap, sym, subst, ◌∙◌}
use Rattle.indexmap.specs.IndexMap.{insert_all}
use Rattle.sipl_outages.specs.Board.{BoardState, IsConsistent}
use Rattle.sipl_outages.proofs.Ends.{Ends, derived_eq, map-deref_pair, insert_all-distinct}
use Rattle.sipl_outages.proofs.board.Board.dup.Goals as goal

pub invariant_of-result : goal.invariant_of-result
invariant_of-result c =
    let b = c.self.inside in
    let ran = c.in_ok-extend.ensures.ran in
    let taken = map-deref_pair ran.0 ran.1 ran.2.2 ran.4 ∙ ran.2.0 in
    let copied : c.extend.new.self.entries ≡ b.ends.entries =
    ran.3.0
    ∙ (λ i. insert_all (derived_eq i) (c.new-ends.ensures.empty i) (taken i))
    ∙ insert_all-distinct [] b.ends.entries c.self.invariant.distinct in
    subst (λ (es : Ends). IsConsistent (record { holds = record { now = b.time; ends = es }; max_holds = b.max_holds })) (sym copied) c.self.invariant

pub returns : goal.returns
returns c =
    let b = c.self.inside in
    let ran = c.in_ok-extend.ensures.ran in
    let taken = map-deref_pair ran.0 ran.1 ran.2.2 ran.4 ∙ ran.2.0 in
    let copied : c.extend.new.self.entries ≡ b.ends.entries =
    ran.3.0
    ∙ (λ i. insert_all (derived_eq i) (c.new-ends.ensures.empty i) (taken i))
    ∙ insert_all-distinct [] b.ends.entries c.self.invariant.distinct in
    ap (λ (es : Ends). let board : BoardState = record { holds = record { now = b.time; ends = es }; max_holds = b.max_holds } in board) copied ∙ c.self.view_is
