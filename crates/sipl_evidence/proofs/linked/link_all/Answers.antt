use Rattle.std.proofs.Common.{◌+◌, ◌&&◌, ◌||◌, eqb, take, length, get_or, sym, ap, ◌∙◌, arith}
use Rattle.std.proofs.lemmas.List.Folds.{list_any_more}
use Rattle.sipl_evidence.specs.Items.{Item}
use Rattle.sipl_evidence.specs.Dependents.{code_of_key, depends, has_code}
use Rattle.sipl_evidence.specs.Linked.{pairs_of}
use Rattle.sipl_evidence.proofs.Linking.{HasSpace-fewer, one_item_more, no_item, AreLast-none}
use Rattle.sipl_evidence.proofs.linked.link_all.Goals as goal

pub loop-item-init : goal.loop-item-init
loop-item-init c = record {
  paired = c.requires.paired;
  last = AreLast-none c.args.by_code.now c.args.id c.requires.paired.codes c.requires.new;
  pairs = λ code other. no_item (eqb c.args.id other) (depends (pairs_of c.args.by_code.now) code other);
  codes = λ room space. HasSpace-fewer c.args.by_code.now (room + 0) room (omega arith) space;
  ids = λ room space. HasSpace-fewer c.args.by_id.now (room + 0) room (omega arith) space;
}

pub link_if_new-requires-clause-codes : goal.link_if_new-requires-clause-codes
link_if_new-requires-clause-codes c =
    c.loop-item.invariant.codes 1 (HasSpace-fewer c.args.by_code.now (length c.args.items.now) (1 + c.loop-item.item-index) (omega arith) c.requires.codes)

pub link_if_new-requires-clause-ids : goal.link_if_new-requires-clause-ids
link_if_new-requires-clause-ids c =
    c.loop-item.invariant.ids 1 (HasSpace-fewer c.args.by_id.now (length c.args.items.now) (1 + c.loop-item.item-index) (omega arith) c.requires.ids)

pub loop-item-preserved : goal.loop-item-preserved
loop-item-preserved c =
    let items = c.args.items.now in
    let i = c.loop-item.item-index in
    let item = c.item-item.result in
    let key = c.code_of_key.ensures ∙ ap code_of_key c.key.ensures.key ∙ ap (λ (x : Item). code_of_key x.key) c.item-item.is in
    record {
      paired = c.link_if_new.ensures.paired;
      last = c.link_if_new.ensures.last;
      pairs = λ code other.
          c.link_if_new.ensures.pairs code other
          ∙ ap (λ b. (eqb c.code_of_key.result code && eqb c.args.id other) || b) (c.loop-item.invariant.pairs code other)
          ∙ ap (λ k. (eqb k code && eqb c.args.id other) || ((eqb c.args.id other && has_code (take i items) code) || depends (pairs_of c.args.by_code.now) code other)) key
          ∙ one_item_more (eqb (code_of_key (get_or items i item).key) code) (eqb c.args.id other) (has_code (take i items) code) (depends (pairs_of c.args.by_code.now) code other)
          ∙ ap (λ b. (eqb c.args.id other && b) || depends (pairs_of c.args.by_code.now) code other) (sym (list_any_more (λ (x : Item). eqb (code_of_key x.key) code) items i item (omega arith)));
      codes = λ room space. c.link_if_new.ensures.codes room (c.loop-item.invariant.codes (room + 1) (HasSpace-fewer c.args.by_code.now (room + (i + 1)) (room + 1 + i) (omega arith) space));
      ids = λ room space. c.link_if_new.ensures.ids room (c.loop-item.invariant.ids (room + 1) (HasSpace-fewer c.args.by_id.now (room + (i + 1)) (room + 1 + i) (omega arith) space));
    }

pub returns-clause-codes : goal.returns-clause-codes
returns-clause-codes c = λ room space.
    c.loop-item.invariant.codes room (HasSpace-fewer c.args.by_code.now (room + length c.args.items.now) (room + c.loop-item.item-index) (omega arith) space)

pub returns-clause-ids : goal.returns-clause-ids
returns-clause-ids c = λ room space.
    c.loop-item.invariant.ids room (HasSpace-fewer c.args.by_id.now (room + length c.args.items.now) (room + c.loop-item.item-index) (omega arith) space)
