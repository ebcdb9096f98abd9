use Rattle.std.proofs.Common.{◌≡◌, ◌==◌, ◌&&◌, subst, ◌∙◌}
use Rattle.std.specs.Bool.{Decides}
use lib.Pointwise.{pointwise}
use Rattle.sipl_outages.specs.Board.{BoardState}
use Rattle.sipl_outages.specs.BoardView.{state_of}
use Rattle.sipl_outages.proofs.Ends.{derived_eq}
use Rattle.sipl_outages.proofs.SameHolds.{same_holds_decides}
use Rattle.sipl_outages.proofs.board.Board.same_holds.Goals as goal

pub returns-then-self-other : goal.returns-then-self-other
returns-then-self-other c =
    let a = state_of c.self.inside in
    let b = state_of c.other.inside in
    let is = c.eq.ensures
    ∙ (λ i. pointwise (λ p q. derived_eq i p.0 q.0 && p.1 == q.1) (c.as_slice.ensures.entries i) (c.as_slice-then-self-other.ensures.entries i)) in
    subst (λ (board : BoardState). Decides c.eq.result (board.holds ≡ c.args.other.now.holds)) c.self.view_is
    (subst (λ (board : BoardState). Decides c.eq.result (a.holds ≡ board.holds)) c.other.view_is
    (same_holds_decides a.holds b.holds c.eq.result c.if-self-other.true is))
