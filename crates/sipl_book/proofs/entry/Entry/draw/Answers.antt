use Rattle.std.proofs.Common.{◌≡◌, ◌∙◌}
use Rattle.std.proofs.lemmas.Result.{IfOk-weaker}
use Rattle.sipl_plans.specs.Plan.{draw}
use Rattle.sipl_book.proofs.Free.{draw-free}
use Rattle.sipl_book.proofs.entry.Entry.draw.Goals as goal

pub returns : goal.returns
returns c =
    let layout = c.args.self.now.found.layout in
    let holds = c.args.board.now.holds in
    let words = c.args.draws.now in
    let kept = c.in-Some.answer.now in
    let drawn : kept ≡ draw layout holds words c.args.held =
    c.in-Some.ensures c.args.held
    ∙ draw-free holds (c.is_empty.ensures.empty.0 c.if-is_empty.true) layout words c.args.held in
    IfOk-weaker c.dup.result (λ copy. copy ≡ kept) (λ answer. answer ≡ draw layout holds words c.args.held) (λ copy same. same ∙ drawn) c.dup.ensures.value
