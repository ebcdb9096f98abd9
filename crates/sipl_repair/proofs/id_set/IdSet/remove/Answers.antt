use Rattle.std.proofs.Common.{◌≡◌, ◌+◌, ◌-◌, sym, ap, ◌∙◌, take, arith}
use Rattle.std.specs.FinSet as set
use Rattle.std.specs.Cmp.{nat_eq_equiv}
use Rattle.std.proofs.lemmas.Bool.{lt-ltb, le-ltb}
use Rattle.indexmap.proofs.MapLemmas.{distinct-take}
use Rattle.sipl_repair.specs.Ids.{without_id}
use Rattle.sipl_repair.proofs.Members.{contains-ids, remove_absent, remove-from_list}
use Rattle.sipl_repair.proofs.Places.{list_any-take_at, list_any-take_absent, slice_get-position, IsPermutation-swap_out}
use Rattle.sipl_repair.proofs.id_set.IdSet.remove.Goals as goal

pub returns-in-Some-clause-removed : goal.returns-in-Some-clause-removed
returns-in-Some-clause-removed c =
    sym (contains-ids _ _ _ c.args.id c.self.view_is ∙ sym (list_any-take_at _ c.self.inside.ids.keys _ _ (sym c.in-Some.ensures.index) c.self.invariant.within) ∙ lt-ltb _ _ c.if-index-self.true)

pub returns-in-Some-clause-after : goal.returns-in-Some-clause-after
returns-in-Some-clause-after c =
    let s = c.self.inside in
    let last : s.present - 1 + 1 ≡ s.present = omega arith in
    let moved = IsPermutation-swap_out s.ids.keys c.in-Some.index (s.present - 1) c.args.id (slice_get-position _ _ _ (sym c.in-Some.ensures.index)) (omega arith) (omega arith) in
    ap (λ ks. record { members = set.from_list (take (s.present - 1) ks); capacity = s.capacity }) c.swap_indices.ensures.keys
    ∙ ap (λ m. record { members = m; capacity = s.capacity }) (remove-from_list _ _ c.args.id moved (distinct-take nat_eq_equiv _ _ c.self.invariant.distinct))
    ∙ ap (λ n. record { members = set.remove (set.from_list (take n s.ids.keys)) c.args.id; capacity = s.capacity }) last
    ∙ ap (λ t. without_id t c.args.id) c.self.view_is

pub returns-in_default-clause-removed : goal.returns-in_default-clause-removed
returns-in_default-clause-removed c =
    sym (contains-ids _ _ _ c.args.id c.self.view_is ∙ sym (list_any-take_at _ c.self.inside.ids.keys _ _ (sym c.in-Some.ensures.index) c.self.invariant.within) ∙ le-ltb _ _ c.if-index-self.false)

pub returns-in_default-clause-after : goal.returns-in_default-clause-after
returns-in_default-clause-after c =
    let none = contains-ids _ _ _ c.args.id c.self.view_is ∙ sym (list_any-take_at _ c.self.inside.ids.keys _ _ (sym c.in-Some.ensures.index) c.self.invariant.within) ∙ le-ltb _ _ c.if-index-self.false in
    ap (λ m. record { members = m; capacity = c.args.self.now.capacity }) (sym (remove_absent _ c.args.id none))

pub returns-in_default-2-clause-removed : goal.returns-in_default-2-clause-removed
returns-in_default-2-clause-removed c =
    sym (contains-ids _ _ _ c.args.id c.self.view_is ∙ list_any-take_absent _ c.self.inside.ids.keys c.self.inside.present (sym c.in_default.ensures.found))

pub returns-in_default-2-clause-after : goal.returns-in_default-2-clause-after
returns-in_default-2-clause-after c =
    let none = contains-ids _ _ _ c.args.id c.self.view_is ∙ list_any-take_absent _ c.self.inside.ids.keys c.self.inside.present (sym c.in_default.ensures.found) in
    ap (λ m. record { members = m; capacity = c.args.self.now.capacity }) (sym (remove_absent _ c.args.id none))
