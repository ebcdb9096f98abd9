use Rattle.std.proofs.Common.{refl, ap, ◌∙◌, arith}
use Rattle.sipl_book.specs.Indexed.{IndexedState}
use Rattle.sipl_book.proofs.Becoming.{AreAdded-refl, AreChanged-more, added-length, changed-all}
use Rattle.sipl_book.proofs.outdating.outdate_dependents.Goals as goal

pub loop-key-init : goal.loop-key-init
loop-key-init c =
    (record { order = c.requires.order; change = refl; added = AreAdded-refl c.args.entries.now.entries c.args.ids.now.items }, refl, refl, refl)

pub outdate_candidates-requires-clause-space : goal.outdate_candidates-requires-clause-space
outdate_candidates-requires-clause-space c =
    let all = added-length c.args.entries.now.entries c.loop-key.entries.entries c.args.ids.now.items c.loop-key.ids.items c.loop-key.invariant.0.added in
    omega (arith, all, c.requires.space, c.loop-key.invariant.3)

pub loop-key-preserved : goal.loop-key-preserved
loop-key-preserved c =
    let i = c.loop-key.key-index in
    let after = c.outdate_candidates.ensures.after in (
      AreChanged-more c.args.keys.now c.args.entries.now.entries c.args.ids.now.items i c.loop-key.entries.entries c.outdate_candidates.new.entries.entries
          c.loop-key.ids.items c.outdate_candidates.new.ids.items c.key-item.result c.loop-key-test.true c.key-item.is c.loop-key.invariant.0
          (ap (λ (s : IndexedState). s.entries) after) c.outdate_candidates.ensures.added,
      ap (λ (s : IndexedState). s.room) after ∙ c.loop-key.invariant.1,
      c.write_candidates.ensures.capacity ∙ c.loop-key.invariant.2,
      c.outdate_candidates.ensures.capacity ∙ c.loop-key.invariant.3,
    )

pub returns-clause-after : goal.returns-clause-after
returns-clause-after c =
    let all = changed-all c.args.keys.now c.args.entries.now.entries c.args.ids.now.items c.loop-key.key-index c.loop-key.entries.entries c.loop-key.ids.items
    (omega (arith, c.loop-key-test.false)) c.loop-key.invariant.0 in
    λ j. record { entries = all j; room = c.loop-key.invariant.1 j }
