use Rattle.std.proofs.Common.{◌<◌, length, rules, ap, sym, subst}
use Rattle.std.proofs.lemmas.Result.{MatchResult-weaker}
use Rattle.sipl_book.specs.Book.{BookState}
use Rattle.sipl_book.proofs.Finding.{as_committed, found_anew}
use Rattle.sipl_book.proofs.Honest.{current-as}
use Rattle.sipl_book.proofs.book.Book.find_anew.Goals as goal

pub commit_current-requires-clause-current : goal.commit_current-requires-clause-current
commit_current-requires-clause-current c =
    let looked = c.in_ok-finding.ensures.looks in
    current-as c.args.self.now.store c.locate.new.self.store (ap (λ (book : BookState). book.store.zones) looked) (ap (λ (book : BookState). book.store.numbers) looked)
    c.in_ok-finding.finding.items c.in_ok-finding.ensures.located.current

pub commit_current-requires-clause-space : goal.commit_current-requires-clause-space
commit_current-requires-clause-space c =
    subst (λ (book : BookState). length book.journal < book.max_events) (sym c.in_ok-finding.ensures.looks) c.requires.space

pub returns : goal.returns
returns c =
    let located = c.in_ok-finding.ensures.located in
    let looked = c.in_ok-finding.ensures.looks in
    let committed = c.commit_current.ensures in
    found_anew c.args.question c.args.draws.now c.args.self.now c.requires.outdated c.locate.new.self c.in_ok-finding.finding located looked
    c.commit_current.new.self c.commit_current.result c.map_err.result
    (as_committed c.args.question c.args.draws.now c.args.self.now c.requires.outdated c.locate.new.self c.in_ok-finding.finding located looked
    c.requires.space c.commit_current.new.self c.commit_current.result committed.number committed.answer committed.after committed.memory committed.finding committed.unchanged)
    (MatchResult-weaker c.commit_current.result c.map_err.ensures.cases (λ _ h. h) (λ e h. search rules))
