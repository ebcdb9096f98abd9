use Rattle.std.proofs.Common.{List, length, not, nat_eq, arith, rules}
use Rattle.std.proofs.lemmas.Fn.{filter_same}
use Rattle.sipl_service.specs.declared.receipt.Receipt.{Receipt}
use Rattle.sipl_service.proofs.Handed.{let_go-step, let_go-all}
use Rattle.sipl_service.proofs.due.let_go.Goals as goal

pub loop-place-preserved : goal.loop-place-preserved
loop-place-preserved c =
    let_go-step c.args.end c.loop-place.place c.args.waiting.now.items c.loop-place.waiting.items c.index_mut.result.now c.let_go_of_handed.new.handed c.loop-place.invariant (omega arith) c.index_mut.ensures.value c.let_go_of_handed.ensures

pub returns : goal.returns
returns c =
    let_go-all c.args.end c.loop-place.place c.args.waiting.now.items c.loop-place.waiting.items c.retain.new.self.items c.loop-place.invariant (omega arith)
    (filter_same _ (λ (xs : List Receipt). not (nat_eq (length xs) 0)) _ (λ x r f' k. search rules) _ _ c.retain.ensures.filtered)
