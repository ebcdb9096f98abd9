use Rattle.std.proofs.Common.{sym, ◌∙◌, rules, tests, arith}
use Rattle.std.proofs.lemmas.Iterator.{YieldsList-from_slice, YieldsList-from_zip}
use Rattle.std.proofs.lemmas.Iterator.Search.{all_from_yields_List}
use Rattle.sipl_records.specs.Sets.{same_key}
use Rattle.sipl_evidence.specs.Items.{Item}
use Rattle.sipl_book.proofs.Depending.{same_keys}
use Rattle.sipl_book.proofs.entry.have_same_keys.Goals as goal

pub returns-then-items-others : goal.returns-then-items-others
returns-then-items-others c = λ is.
    let items = c.args.items.now in
    let others = c.args.others.now in
    same_keys items others (omega (arith, c.if-items-others.true))
    (sym (all_from_yields_List (λ (p : Item × Item). same_key p.0.key p.1.key) c.all.new.self _ c.all.result c.all.ensures.ran
    (YieldsList-from_zip (YieldsList-from_slice items cc) (YieldsList-from_slice others cc)) (λ x b q k. search (rules, tests))) ∙ is)
