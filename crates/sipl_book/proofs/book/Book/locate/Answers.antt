use Rattle.std.proofs.Common.{rules, ◌≡◌, length}
use Rattle.std.proofs.lemmas.Result.{IfOk-weaker}
use Rattle.sipl_book.proofs.Locating.{located, looks-located, looked-counted, looked-unchanged}
use Rattle.sipl_book.proofs.StoreSets.{set_is_set}
use Rattle.sipl_book.proofs.book.Book.locate.Goals as goal

pub locate-requires : goal.locate-requires
locate-requires c = record { sets = λ k. set_is_set c.args.self.now.store k c.alloc-alloc.ensures }

pub returns-clause-located : goal.returns-clause-located
returns-clause-located c =
    let own : c.in_ok-abilities.abilities ≡ c.args.self.now.client = search rules in
    IfOk-weaker c.locate.result _ _ (λ found is. located c.args.self.now c.args.question c.in_ok-abilities.abilities found own is) c.locate.ensures.found

pub returns-clause-looks : goal.returns-clause-looks
returns-clause-looks c =
    IfOk-weaker c.locate.result _ _ (λ found is. looks-located c.args.self.now c.locate.new.sets (length found.items) is) c.locate.ensures.looks

pub returns-clause-unchanged : goal.returns-clause-unchanged
returns-clause-unchanged c = looked-unchanged c.args.self.now c.locate.new.sets c.locate.ensures.looked

pub returns-clause-counted : goal.returns-clause-counted
returns-clause-counted c = looked-counted c.args.self.now c.locate.new.sets c.locate.ensures.looked
