use Rattle.std.proofs.Common.{refl, sym, ◌∙◌}
use Rattle.std.proofs.lemmas.Bool.{cond-true, eq-eqb}
use Rattle.sipl_evidence.proofs.Linking.{ArePaired-moved, ArePaired-unmoved, depends-moved, depends-unmoved}
use Rattle.sipl_evidence.proofs.linked.unlink_last.Goals as goal

pub returns-then-len-place-clause-paired : goal.returns-then-len-place-clause-paired
returns-then-len-place-clause-paired c =
    let place = c.in-Some.place in
    let last_is = sym c.pop-2.ensures.last ∙ c.unwrap-last.ensures in
    let len = c.len.ensures ∙ c.pop-2.ensures.len place.list ∙ cond-true _ _ _ (eq-eqb place.list place.list refl) in
    ArePaired-moved c.args.by_code.now c.args.by_id.now c.pop-2.new.self c.pop.new.self c.args.id place c.unwrap-last.result c.requires.paired (sym c.in-Some.ensures.last) last_is c.pop-2.ensures.at c.in-Some.ensures.at
    c.set.new.self c.set-then-len-place.new.self (λ is. c.if-len-place.true (len ∙ sym is)) c.set.ensures.at c.set-then-len-place.ensures.at c.set.ensures.dense c.set-then-len-place.ensures.dense

pub returns-then-len-place-clause-others : goal.returns-then-len-place-clause-others
returns-then-len-place-clause-others c =
    let place = c.in-Some.place in
    let last_is = sym c.pop-2.ensures.last ∙ c.unwrap-last.ensures in
    let len = c.len.ensures ∙ c.pop-2.ensures.len place.list ∙ cond-true _ _ _ (eq-eqb place.list place.list refl) in
    depends-moved c.args.by_code.now c.args.by_id.now c.pop-2.new.self c.pop.new.self c.args.id place c.unwrap-last.result c.requires.paired (sym c.in-Some.ensures.last) last_is c.pop-2.ensures.at c.in-Some.ensures.at
    c.set.new.self c.set-then-len-place.new.self (λ is. c.if-len-place.true (len ∙ sym is)) c.set.ensures.at c.set-then-len-place.ensures.at c.set.ensures.dense c.set-then-len-place.ensures.dense

pub returns-else-len-place-clause-paired : goal.returns-else-len-place-clause-paired
returns-else-len-place-clause-paired c =
    let place = c.in-Some.place in
    let last_is = sym c.pop-2.ensures.last ∙ c.unwrap-last.ensures in
    let len = c.len.ensures ∙ c.pop-2.ensures.len place.list ∙ cond-true _ _ _ (eq-eqb place.list place.list refl) in
    ArePaired-unmoved c.args.by_code.now c.args.by_id.now c.pop-2.new.self c.pop.new.self c.args.id place c.unwrap-last.result c.requires.paired (sym c.in-Some.ensures.last) last_is c.pop-2.ensures.at c.in-Some.ensures.at
    (sym c.if-len-place.false ∙ len) c.pop-2.ensures.dense c.in-Some.ensures.dense

pub returns-else-len-place-clause-others : goal.returns-else-len-place-clause-others
returns-else-len-place-clause-others c =
    let place = c.in-Some.place in
    let last_is = sym c.pop-2.ensures.last ∙ c.unwrap-last.ensures in
    let len = c.len.ensures ∙ c.pop-2.ensures.len place.list ∙ cond-true _ _ _ (eq-eqb place.list place.list refl) in
    depends-unmoved c.args.by_code.now c.args.by_id.now c.pop-2.new.self c.pop.new.self c.args.id place c.unwrap-last.result c.requires.paired (sym c.in-Some.ensures.last) last_is c.pop-2.ensures.at c.in-Some.ensures.at
    (sym c.if-len-place.false ∙ len) c.pop-2.ensures.dense c.in-Some.ensures.dense
