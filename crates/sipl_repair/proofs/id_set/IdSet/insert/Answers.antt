use Rattle.std.proofs.Common.{◌+◌, not, ◌∷◌, [], ◌++◌, take, sym, ap, ◌∙◌, arith}
use Rattle.std.specs.FinSet as set
use Rattle.std.proofs.lemmas.Bool.{lt-ltb, le-ltb}
use Rattle.sipl_repair.specs.Ids.{with_id}
use Rattle.sipl_repair.proofs.Members.{contains-ids, insert_present, from_list-push, is_below_capacity}
use Rattle.sipl_repair.proofs.Places.{take-swap_in}
use Rattle.sipl_repair.proofs.id_set.IdSet.insert.Goals as goal

pub find_or_push-index-requires-clause-places : goal.find_or_push-index-requires-clause-places
find_or_push-index-requires-clause-places c = λ absent.
    let s = c.self.inside in
    let below = is_below_capacity c.args.self.now s.ids.keys s.present s.capacity c.args.id c.self.view_is c.self.invariant.distinct c.self.invariant.within absent c.requires in
    omega arith

pub returns-then-index-self-clause-added : goal.returns-then-index-self-clause-added
returns-then-index-self-clause-added c =
    ap not (sym (contains-ids _ _ _ c.args.id c.self.view_is ∙ sym c.find_or_push-index.ensures.among_kept ∙ lt-ltb _ _ c.if-index-self.true))

pub returns-then-index-self-clause-after : goal.returns-then-index-self-clause-after
returns-then-index-self-clause-after c =
    let there = contains-ids _ _ _ c.args.id c.self.view_is ∙ sym c.find_or_push-index.ensures.among_kept ∙ lt-ltb _ _ c.if-index-self.true in
    ap (λ ks. record { members = set.from_list ks; capacity = c.self.inside.capacity }) c.find_or_push-index.ensures.kept
    ∙ c.self.view_is
    ∙ ap (λ s. record { members = s; capacity = c.args.self.now.capacity }) (sym (insert_present _ c.args.id there))

pub overflow_add-self : goal.overflow_add-self
overflow_add-self c =
    let s = c.self.inside in
    let absent = sym c.find_or_push-index.ensures.among_kept ∙ le-ltb _ _ c.if-index-self.false in
    let below = is_below_capacity c.args.self.now s.ids.keys s.present s.capacity c.args.id c.self.view_is c.self.invariant.distinct c.self.invariant.within absent c.requires in
    omega arith

pub invariant_of-self-2 : goal.invariant_of-self-2
invariant_of-self-2 c =
    let s = c.self.inside in
    let absent = sym c.find_or_push-index.ensures.among_kept ∙ le-ltb _ _ c.if-index-self.false in
    let below = is_below_capacity c.args.self.now s.ids.keys s.present s.capacity c.args.id c.self.view_is c.self.invariant.distinct c.self.invariant.within absent c.requires in
    record { distinct = c.swap_indices.ensures.unique; within = omega arith; held = omega arith; places = omega arith }

pub returns-clause-added : goal.returns-clause-added
returns-clause-added c =
    ap not (sym (contains-ids _ _ _ c.args.id c.self.view_is ∙ sym c.find_or_push-index.ensures.among_kept ∙ le-ltb _ _ c.if-index-self.false))

pub returns-clause-after : goal.returns-clause-after
returns-clause-after c =
    let s = c.self.inside in
    let placed =
    ap (take (s.present + 1)) c.swap_indices.ensures.keys
    ∙ take-swap_in _ _ s.present c.args.id c.find_or_push-index.ensures.index c.if-index-self.false
    ∙ ap (λ ks. ks ++ c.args.id ∷ []) c.find_or_push-index.ensures.kept in
    ap (λ ks. record { members = set.from_list ks; capacity = s.capacity }) placed
    ∙ ap (λ m. record { members = m; capacity = s.capacity }) (from_list-push _ c.args.id)
    ∙ ap (λ t. with_id t c.args.id) c.self.view_is
