use Rattle.std.proofs.Common.{◌≡◌, ◌≢◌, List, None, Some, map, sym, ap, subst, ◌∙◌}
use Rattle.std.specs.List.{AllPairs, IsDistinct}
use Rattle.std.specs.Map.{lookup, values_of, set_value}
use Rattle.std.specs.Option.{option_copied_mut}
use Rattle.sipl_uri.specs.contracts.question.QuestionPartialEq.TheImpl.{eq-value}
use Rattle.sipl_book.specs.Entries.{EntryState, entry_of, renewed}
use Rattle.sipl_book.specs.EntryTable.{IsTable}
use Rattle.sipl_book.specs.declared.entries.Entries.TheInside.{Inside}
use Rattle.sipl_book.proofs.Committed.{current, absent_from_entry_of}
use Rattle.sipl_book.proofs.Removing.{values-written, written_entry, renewed-absent}
use Rattle.sipl_book.proofs.Table.{Rows, get-entry_of, questions-table, IsTable-insert_entry}
use Rattle.sipl_book.proofs.entries.Entries.renew.Goals as goal
use Rattle.sipl_book.proofs.entries.Entries.renew.Goals.{in-Some, in-None}

-- the entry of the finding's question, where a look-up finds it or not
module _ (c : goal.Joined-get_mut) where
  abbrev rows : Rows
  rows = c.self.inside.table.entries

  got : entry_of (values_of rows) c.args.finding.question ≡ option_copied_mut c.get_mut.result
  got =
      let q = c.args.finding.question in
      sym (get-entry_of q rows c.self.invariant) ∙ ap (λ k. lookup (eq-value.it k) rows) (sym c.question.ensures) ∙ sym c.get_mut.ensures.value

pub invariant_of-self : goal.invariant_of-self
invariant_of-self c =
    let es = rows c in
    let found = c.args.finding in
    elim c.match-get_mut.branch [
      | in-Some w ↦
          let e = w.in-Some.entry.now in
          let v = w.renew.new.self in
          let is : entry_of (values_of es) found.question ≡ Some e = got c ∙ ap option_copied_mut w.in-Some.is in
          let holds = c.get_mut.follows.holds v in
          let new = (c.get_mut.follows.lender v).entries in
          let entries : new ≡ set_value (eq-value.it found.question) es (current e.id found) =
          holds.0 ∙ (λ i. set_value (eq-value.it (c.question.ensures i)) es (w.renew.ensures i)) in
          subst (λ (inside : Inside). IsTable inside.table.entries) (sym w.self-inside-is)
          (IsTable-insert_entry e.id found es new c.self.invariant (entries ∙ written_entry found es e c.self.invariant is)
          (subst (IsDistinct eq-value.it) (sym holds.1) c.get_mut.ensures.unique))
      | in-None w ↦
          subst (λ (inside : Inside). IsTable inside.table.entries) (sym w.self-inside-is)
          (subst IsTable (sym (ap (λ m. m.entries) c.get_mut.follows.holds-at-none)) c.self.invariant)
    ]

pub returns-clause-questions : goal.returns-clause-questions
returns-clause-questions c =
    subst (λ (es : List EntryState). AllPairs (λ a b. a.found.question ≢ b.found.question) es) c.self.view_is
    (questions-table c.self.inside.table.entries c.self.invariant)

pub returns-clause-after : goal.returns-clause-after
returns-clause-after c =
    let es = rows c in
    let found = c.args.finding in
    elim c.match-get_mut.branch [
      | in-Some w ↦
          let e = w.in-Some.entry.now in
          let is : entry_of (values_of es) found.question ≡ Some e = got c ∙ ap option_copied_mut w.in-Some.is in
          let holds = c.get_mut.follows.holds w.renew.new.self in
          ap (λ (inside : Inside). values_of inside.table.entries) w.self-inside-is
          ∙ ap values_of (holds.0 ∙ (λ i. set_value (eq-value.it (c.question.ensures i)) es (w.renew.ensures i)))
          ∙ values-written found es e c.self.invariant is
          ∙ ap (map (renewed found)) c.self.view_is
      | in-None w ↦
          let none : entry_of (values_of es) found.question ≡ None = got c ∙ ap option_copied_mut w.in-None.is in
          ap (λ (inside : Inside). values_of inside.table.entries) w.self-inside-is
          ∙ ap (λ m. values_of m.entries) c.get_mut.follows.holds-at-none
          ∙ sym (renewed-absent found (values_of es) (absent_from_entry_of found.question (values_of es) none))
          ∙ ap (map (renewed found)) c.self.view_is
    ]
