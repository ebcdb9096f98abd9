use Rattle.std.proofs.Common.{◌≡◌, map, option_copied, sym, ap, subst, ◌∙◌}
use Rattle.std.proofs.lemmas.Option.{same_Some}
use Rattle.sipl_evidence.specs.Items.{Item}
use Rattle.sipl_book.specs.Entries.{EntryState, entry_of}
use Rattle.sipl_book.specs.Indexed.{HasKeysOf}
use Rattle.sipl_book.proofs.entries.Entries.has_keys_of.Goals as goal

pub returns-in-Some : goal.returns-in-Some
returns-in-Some c = λ is entry found.
    let same : c.in-Some.entry.now ≡ entry =
    same_Some c.in-Some.entry.now entry (sym (ap option_copied c.in-Some.is) ∙ c.get.ensures.entry ∙ ap (entry_of c.args.self.now) c.question.ensures ∙ found) in
    subst (λ (e : EntryState). HasKeysOf c.args.finding.now.items e) same
    (c.has_keys_of.ensures is ∙ ap (map (λ (i : Item). i.key)) (c.items.ensures.items ∙ c.evidence.ensures.evidence))
