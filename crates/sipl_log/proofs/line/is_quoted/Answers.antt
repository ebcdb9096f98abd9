use Rattle.std.proofs.Common.{◌≡◌, Bool, ◌||◌, false, length, ap, sym, ◌∙◌, ◌==◌, rules, tests}
use Rattle.std.specs.List.{list_any}
use Rattle.std.specs.Str.{chars}
use Rattle.std.proofs.lemmas.Iterator.{YieldsList-from_chars}
use Rattle.std.proofs.lemmas.Iterator.Search.{any_from_yields_List}
use Rattle.sipl_log.specs.Lines.{is_special}
use Rattle.sipl_log.proofs.line.is_quoted.Goals as goal

pub returns-else-is_empty : goal.returns-else-is_empty
returns-else-is_empty c =
    let found = any_from_yields_List is_special _ _ c.any.result c.any.ensures.ran (YieldsList-from_chars c.args.value.now c.utf8.value cc) (λ x b q k. search (rules, tests)) in
    let some : (length c.args.value.now == 0) ≡ false = sym c.is_empty.ensures ∙ c.if-is_empty.false in
    found ∙ ap (λ (empty : Bool). empty || list_any is_special (chars c.args.value.now)) (sym some)
