use Rattle.std.proofs.Common.{◌≡◌, ◌+◌, max, [], ◌∷◌, ◌++◌, Ok, ap, sym, subst, ◌∙◌, arith}
use Rattle.std.specs.List.{IsDistinct}
use Rattle.std.specs.Map.{keys_of, lookup}
use Rattle.indexmap.specs.IndexMap.{insert_entry}
use Rattle.indexmap.proofs.CallerLemmas.{insert_entry-new}
use Rattle.sipl_choice.specs.contracts.endpoint.EndpointPartialEq.TheImpl.{eq-value}
use Rattle.sipl_choice.specs.Endpoints.{same_endpoint}
use Rattle.sipl_outages.specs.Holds.BoardEvent.{Hold}
use Rattle.sipl_outages.specs.Board.{Makes}
use Rattle.sipl_outages.proofs.Ends.{derived_eq}
use Rattle.sipl_outages.proofs.Steps.{board_of, extend_makes, extend_keeps, add_makes, add_keeps}
use Rattle.sipl_outages.proofs.board.Board.hold.Goals as goal

pub invariant_of-self : goal.invariant_of-self
invariant_of-self c =
    let b = c.self.inside in
    let es = b.ends.entries in
    let k = c.args.endpoint.now in
    let new = c.insert.new.self.entries in
    let found = ap (λ same. lookup (same k) es) (sym derived_eq) ∙ sym c.get.ensures.value ∙ sym c.copied.ensures ∙ c.in-Some.is in
    let is : new ≡ insert_entry same_endpoint es k (max c.in-Some.old (b.time + c.args.ms)) =
    c.in_ok-insert-in-Some.ensures.entries ∙ (λ i. insert_entry (derived_eq i) es k (c.max.ensures i)) in
    extend_keeps b.time es b.max_holds c.self.invariant k new c.args.ms (omega arith) c.in-Some.old found is
    (subst (λ same. IsDistinct same (keys_of new)) derived_eq c.insert.ensures.unique)

pub returns-in_ok-insert-in-Some-clause-event : goal.returns-in_ok-insert-in-Some-clause-event
returns-in_ok-insert-in-Some-clause-event c =
    let b = c.self.inside in
    let es = b.ends.entries in
    let k = c.args.endpoint.now in
    let new = c.insert.new.self.entries in
    let found = ap (λ same. lookup (same k) es) (sym derived_eq) ∙ sym c.get.ensures.value ∙ sym c.copied.ensures ∙ c.in-Some.is in
    let is : new ≡ insert_entry same_endpoint es k (max c.in-Some.old (b.time + c.args.ms)) =
    c.in_ok-insert-in-Some.ensures.entries ∙ (λ i. insert_entry (derived_eq i) es k (c.max.ensures i)) in
    subst (λ old. Makes (Hold k c.args.ms) old (board_of b.time new b.max_holds) (Ok (tt {0}))) c.self.view_is
    (extend_makes b.time es b.max_holds c.self.invariant k new c.args.ms (omega arith) c.in-Some.old found is
    (subst (λ same. IsDistinct same (keys_of new)) derived_eq c.insert.ensures.unique))

pub invariant_of-self-in-None-1 : goal.invariant_of-self-in-None-1
invariant_of-self-in-None-1 c =
    let b = c.self.inside in
    let es = b.ends.entries in
    let k = c.args.endpoint.now in
    let new = c.insert-in-None-3.new.self.entries in
    let none = sym c.get.ensures.value ∙ sym c.copied.ensures ∙ c.in-None.is in
    let is : new ≡ es ++ (k, b.time + c.args.ms) ∷ [] =
    c.in_ok-insert-in-None-3.ensures.entries ∙ insert_entry-new eq-value.it b.ends k (b.time + c.args.ms) none in
    add_keeps b.time es b.max_holds c.self.invariant k new c.args.ms (omega arith) (omega arith) (omega arith) is
    (subst (λ same. IsDistinct same (keys_of new)) derived_eq c.insert-in-None-3.ensures.unique)

pub returns-in_ok-insert-in-None-3-clause-event : goal.returns-in_ok-insert-in-None-3-clause-event
returns-in_ok-insert-in-None-3-clause-event c =
    let b = c.self.inside in
    let es = b.ends.entries in
    let k = c.args.endpoint.now in
    let new = c.insert-in-None-3.new.self.entries in
    let none = sym c.get.ensures.value ∙ sym c.copied.ensures ∙ c.in-None.is in
    let is : new ≡ es ++ (k, b.time + c.args.ms) ∷ [] =
    c.in_ok-insert-in-None-3.ensures.entries ∙ insert_entry-new eq-value.it b.ends k (b.time + c.args.ms) none in
    let absent = ap (λ same. lookup (same k) es) (sym derived_eq) ∙ none in
    subst (λ old. Makes (Hold k c.args.ms) old (board_of b.time new b.max_holds) (Ok (tt {0}))) c.self.view_is
    (add_makes b.time es b.max_holds c.self.invariant k new c.args.ms (omega arith) absent (omega arith) (omega arith) is
    (subst (λ same. IsDistinct same (keys_of new)) derived_eq c.insert-in-None-3.ensures.unique))
