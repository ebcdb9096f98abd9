use Rattle.std.proofs.Common.{is_some, not, sym, ap, ◌∙◌}
use Rattle.sipl_evidence.specs.Known.{is_unknown}
use Rattle.sipl_evidence.specs.Places.{place_of}
use Rattle.sipl_book.specs.Entries.{EntryState}
use Rattle.sipl_book.proofs.Depending.{is_some-place_of}
use Rattle.sipl_book.proofs.Indexing.{or_false}
use Rattle.sipl_book.proofs.entry.Entry.has_key.Goals as goal

pub returns : goal.returns
returns c =
    let key = c.args.key.now in
    let items = c.evidence.ensures.evidence ∙ ap (λ (entry : EntryState). entry.found.items) c.self.view_is in
    c.is_some.ensures ∙ ap is_some c.find.ensures.place ∙ ap (λ xs. is_some (place_of xs key)) items
    ∙ is_some-place_of c.args.self.now.found.items key ∙ sym (or_false (not (is_unknown c.args.self.now.found.items key)))
