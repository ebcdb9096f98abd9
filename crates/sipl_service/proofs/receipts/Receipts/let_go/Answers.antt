use Rattle.std.proofs.Common.{◌≡◌, drop, arith, ap, sym, subst, ◌∙◌}
use Rattle.sipl_service.specs.Receipts.{IsAscending}
use Rattle.sipl_service.proofs.Handed.{drop_ascending, drop_next}
use Rattle.sipl_service.proofs.receipts.Receipts.let_go.Goals as goal

pub invariant_of-self : goal.invariant_of-self
invariant_of-self c = subst IsAscending (sym c.loop-gone.invariant) (drop_ascending c.loop-gone._gone c.self.inside.queue.items c.self.invariant)

pub loop-gone-preserved : goal.loop-gone-preserved
loop-gone-preserved c = drop_next c.loop-gone._gone c.self.inside.queue.items c.loop-gone.self-inside.queue.items c.pop_front.new.self.items c.loop-gone.invariant c.pop_front.ensures.rest

pub returns : goal.returns
returns c =
    let all : c.loop-gone._gone ≡ c.count_due-count.result = omega arith in
    c.loop-gone.invariant ∙ ap (λ n. drop n c.self.inside.queue.items) all ∙ ap (drop c.count_due-count.result) c.self.view_is ∙ c.count_due-count.ensures.later
