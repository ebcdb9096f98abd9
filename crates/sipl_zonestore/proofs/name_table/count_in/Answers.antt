use Rattle.std.proofs.Common.{◌≡◌, ℕ, ◌∷◌, [], cond, length, ap, sym, refl, ◌∙◌, arith}
use Rattle.std.specs.List.{count_by}
use Rattle.std.specs.Map.{keys_of}
use Rattle.std.specs.Vec.Iter.{into_iter_items}
use Rattle.indexmap.specs.IndexSet.{insert_all}
use Rattle.sipl_names.specs.Labels.{same_name}
use Rattle.sipl_names.proofs.Public.{same_name_decides}
use Rattle.sipl_zonestore.proofs.AncestorCounts.{count-cons}
use Rattle.sipl_zonestore.proofs.Elements.{nothing_left}
use Rattle.sipl_zonestore.proofs.name_table.count_in.Goals as goal

pub loop-name-init : goal.loop-name-init
loop-name-init c =
    let gives = c.into_iter-name-iterator.ensures.into_iter_gives in
    record {
      counts = λ name. refl;
      keys = refl;
      space = omega (arith, ap length gives.0, c.requires.space);
      len = omega (arith, gives.1, ap length gives.0, c.args.more.ok.0);
    }

pub add_count-requires-clause-space : goal.add_count-requires-clause-space
add_count-requires-clause-space c = omega (arith, c.loop-name.invariant.space, ap length c.in-Some.ensures.steps.0)

pub add_count-requires-clause-fits : goal.add_count-requires-clause-fits
add_count-requires-clause-fits c =
    let x = c.in-Some.name in
    let rest = into_iter_items c.next.new.self in
    let here : ◌≡◌ {A = ℕ} (cond (same_name x x) 1 0) 1 = rw ((same_name_decides x x).1 refl) refl in
    let steps : count_by (λ other. same_name other x) (into_iter_items c.loop-name.name-iterator) ≡ count_by (λ other. same_name other x) (x ∷ rest) = ap (count_by (λ other. same_name other x)) c.in-Some.ensures.steps.0 in
    let all : count_by (λ other. same_name other x) (into_iter_items c.into_iter-name-iterator.result) ≡ count_by (λ other. same_name other x) c.args.more.items = ap (count_by (λ other. same_name other x)) c.into_iter-name-iterator.ensures.into_iter_gives.0 in
    omega (arith, c.loop-name.invariant.counts x, steps, all, count-cons (λ other. same_name other x) x rest, here, c.requires.fits x)

pub loop-name-preserved : goal.loop-name-preserved
loop-name-preserved c =
    let at = c.loop-name in
    let x = c.in-Some.name in
    let rest = into_iter_items c.next.new.self in
    let steps : into_iter_items at.name-iterator ≡ x ∷ rest = c.in-Some.ensures.steps.0 in
    record {
      counts = λ name.
          let more = ap (count_by (λ other. same_name other name)) steps in
          let cons = count-cons (λ other. same_name other name) x rest in
          let counted = c.add_count.ensures.counts name in
          let was = at.invariant.counts name in
          omega (arith, more, cons, counted, was);
      keys = ap (λ keys. insert_all same_name keys rest) c.add_count.ensures.keys ∙ ap (insert_all same_name (keys_of at.names.entries)) (sym steps) ∙ at.invariant.keys;
      space = omega (arith, at.invariant.space, ap length steps, c.add_count.ensures.space);
      len = omega (arith, at.invariant.len, ap length steps, c.in-Some.ensures.steps.1);
    }

pub returns-clause-counts : goal.returns-clause-counts
returns-clause-counts c = λ name.
    let at = c.loop-name in
    let empty : into_iter_items at.name-iterator ≡ [] = nothing_left _ (sym at.invariant.len ∙ c.in-None.ensures.steps.0) in
    let none = ap (count_by (λ other. same_name other name)) empty in
    let all = ap (count_by (λ other. same_name other name)) c.into_iter-name-iterator.ensures.into_iter_gives.0 in
    omega (arith, at.invariant.counts name, none, all)

pub returns-clause-keys : goal.returns-clause-keys
returns-clause-keys c =
    let at = c.loop-name in
    let empty : into_iter_items at.name-iterator ≡ [] = nothing_left _ (sym at.invariant.len ∙ c.in-None.ensures.steps.0) in
    ap (insert_all same_name (keys_of at.names.entries)) (sym empty) ∙ at.invariant.keys ∙ ap (insert_all same_name (keys_of c.args.names.now.entries)) c.into_iter-name-iterator.ensures.into_iter_gives.0
