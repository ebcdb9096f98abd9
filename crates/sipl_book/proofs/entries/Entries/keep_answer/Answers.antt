use Rattle.std.proofs.Common.{◌≡◌, List, Some, sym, ap, subst, ◌∙◌}
use Rattle.std.specs.Map.{values_of, lookup, set_value}
use Rattle.std.specs.Option.{option_copied_mut}
use Rattle.std.proofs.lemmas.Map.Steps.{set_value_same}
use Rattle.sipl_uri.specs.contracts.question.QuestionPartialEq.TheImpl.{eq-value}
use Rattle.sipl_book.specs.Entries.{EntryState, entry_of}
use Rattle.sipl_book.specs.EntryTable.{IsTable}
use Rattle.sipl_book.specs.declared.entries.Entries.TheInside.{Inside}
use Rattle.sipl_book.proofs.Table.{Rows, get-entry_of}
use Rattle.sipl_book.proofs.entries.Entries.keep_answer.Goals as goal
use Rattle.sipl_book.proofs.entries.Entries.keep_answer.Goals.{in-Some, in_default}

-- the entry of the question is the one that is found
pub keep_answer-requires : goal.keep_answer-requires
keep_answer-requires c =
    let q = c.args.question.now in
    c.requires c.in-Some.entry.now
    (ap (λ (es : List EntryState). entry_of es q) (sym c.self.view_is)
    ∙ sym (get-entry_of q c.self.inside.table.entries c.self.invariant) ∙ sym c.get_mut.ensures.value ∙ ap option_copied_mut c.in-Some.is)

-- the table is as it was
module _ (c : goal.Joined-get_mut) where
  abbrev rows : Rows
  rows = c.self.inside.table.entries

  same : c.match-get_mut.self-inside.table.entries ≡ rows
  same =
      elim c.match-get_mut.branch [
        | in-Some w ↦
            let q = c.args.question.now in
            let e = w.in-Some.entry.now in
            let found : lookup (eq-value.it q) rows ≡ Some e = sym c.get_mut.ensures.value ∙ ap option_copied_mut w.in-Some.is in
            ap (λ (inside : Inside). inside.table.entries) w.self-inside-is
            ∙ (c.get_mut.follows.holds w.keep_answer.new.self).0
            ∙ ap (set_value (eq-value.it q) rows) w.keep_answer.ensures
            ∙ set_value_same (eq-value.it q) rows e found
        | in_default w ↦
            ap (λ (inside : Inside). inside.table.entries) w.self-inside-is
            ∙ ap (λ m. m.entries) c.get_mut.follows.holds-at-none
      ]

pub invariant_of-self : goal.invariant_of-self
invariant_of-self c = subst IsTable (sym (same c)) c.self.invariant

pub returns : goal.returns
returns c = ap values_of (same c) ∙ c.self.view_is
