use Rattle.std.proofs.Common.{Bool, false, not, Option, Some, None, option_copied, sym, ap, ◌∙◌}
use Rattle.sipl_book.specs.Entries.{EntryState}
use Rattle.sipl_book.proofs.Ids.{is_outdated-entry_with}
use Rattle.sipl_book.proofs.entries.Entries.is_outdated.Goals as goal

-- whether an entry that a search found is outdated
abbrev is_found_outdated : Option EntryState → Bool
is_found_outdated o = elim o [ Some e ↦ not e.is_current | None ↦ false ]

pub returns-in-Some : goal.returns-in-Some
returns-in-Some c =
    ap not c.is_current.ensures
    ∙ ap is_found_outdated (sym (ap option_copied c.in-Some.is) ∙ c.get_by_id.ensures)
    ∙ sym (is_outdated-entry_with c.args.self.now c.args.id c.requires.order)

pub returns-in-None : goal.returns-in-None
returns-in-None c =
    ap is_found_outdated (sym (ap option_copied c.in-None.is) ∙ c.get_by_id.ensures)
    ∙ sym (is_outdated-entry_with c.args.self.now c.args.id c.requires.order)
