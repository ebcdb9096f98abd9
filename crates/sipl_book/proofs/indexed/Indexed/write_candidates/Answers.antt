use Rattle.std.proofs.Common.{◌≡◌, ℕ, eqb, List, ◌++◌, length, ap, ◌∙◌, arith}
use Rattle.std.specs.List.{list_any}
use Rattle.sipl_evidence.specs.Dependents.{code_of_key}
use Rattle.sipl_book.specs.Indexed.{IndexedState, has, needs}
use Rattle.sipl_book.proofs.Indexing.{candidate, few_ids, no_candidate}
use Rattle.sipl_book.proofs.indexed.Indexed.write_candidates.Goals as goal

pub append_ids-requires : goal.append_ids-requires
append_ids-requires c =
    let es = c.self.inside.entries in
    let code = code_of_key c.args.key.now in
    let few = few_ids es c.self.inside.kept c.self.inside.dependents.pairs code c.self.invariant (c.count.ensures.distinct code) in
    let shown : length es ≡ length c.args.self.now.entries = ap (λ (i : IndexedState). length i.entries) c.self.view_is in
    record { space = omega (arith, few, shown, c.requires.space, ap (λ (xs : List ℕ). length xs) c.clear.ensures.items, c.clear.ensures.capacity) }

pub returns-then-count-gt0-clause-all : goal.returns-then-count-gt0-clause-all
returns-then-count-gt0-clause-all c =
    λ id need.
    let es = c.self.inside.entries in
    let pairs = c.self.inside.dependents.pairs in
    let code = code_of_key c.args.key.now in
    let appended = c.append_ids.ensures.appended in
    let items : c.append_ids.new.ids.items ≡ appended.0 = appended.1 ∙ ap (λ (xs : List ℕ). xs ++ appended.0) c.clear.ensures.items in
    ap (list_any (eqb id)) items ∙ appended.2.members id
    ∙ candidate c.args.key.now es c.self.inside.kept pairs id c.self.invariant (ap (λ (i : IndexedState). has (needs c.args.key.now) i.entries id) c.self.view_is ∙ need)

pub returns-else-count-gt0-clause-all : goal.returns-else-count-gt0-clause-all
returns-else-count-gt0-clause-all c =
    λ id need.
    let code = code_of_key c.args.key.now in
    absurd (no_candidate c.args.key.now c.self.inside.entries c.self.inside.kept c.self.inside.dependents.pairs id c.self.invariant
    (ap (λ (i : IndexedState). has (needs c.args.key.now) i.entries id) c.self.view_is ∙ need)
    (omega (arith, c.count.ensures.count, c.if-count-gt0.false)))
