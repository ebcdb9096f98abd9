use Rattle.std.proofs.Common.{map, sym, ap, ◌∙◌}
use Rattle.sipl_evidence.specs.Items.{Item}
use Rattle.sipl_book.specs.Entries.{EntryState}
use Rattle.sipl_book.proofs.entry.Entry.has_keys_of.Goals as goal

pub returns : goal.returns
returns c = λ is.
    let items = c.items.ensures.items ∙ c.evidence.ensures.evidence ∙ ap (λ (entry : EntryState). entry.found.items) c.self.view_is in
    ap (map (λ (i : Item). i.key)) (sym items) ∙ c.have_same_keys.ensures is
