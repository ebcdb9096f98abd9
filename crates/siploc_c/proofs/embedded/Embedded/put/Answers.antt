use Rattle.std.specs.Prelude.{Result, Ok, Err}
use Rattle.std.proofs.Common.{OnOk, IfErr, subst}
use Rattle.sipl_names.specs.Labels.{Octets}
use Rattle.sipl_lines.specs.Desk.{book_rules}
use Rattle.sipl_lines.specs.PlainDesk.{plain_of, plain_rules}
use Rattle.sipl_lines.specs.declared.lines.OutOfMemory.{OutOfMemory}
use Rattle.sipl_lines.proofs.DeskCalls.{book_implies_plain}
use Rattle.sipl_lines.proofs.Results.{on_ok}
use Rattle.sipl_lines.proofs.Seen.{takes, takes_first}
use Rattle.siploc_c.specs.Embedded.{EmbeddedState, Puts, PutsFirst, session_of, whole}
use Rattle.siploc_c.proofs.embedded.Embedded.put.Goals as goal

-- what is put at a book is put at the plain machine
puts_plain : (before after : EmbeddedState) (octets : Octets) → Puts book_rules whole before octets after
    → Puts plain_rules plain_of before octets after
puts_plain before after octets puts =
    takes plain_of book_rules plain_rules book_implies_plain (session_of whole before) (session_of whole after)
    before.talk.pending octets before.replies after.talk.pending after.replies puts

-- so many octets of a call that failed are
first_plain : (result : Result (Unit {0}) OutOfMemory) (before after : EmbeddedState) (octets : Octets)
    → IfErr result (λ (fault : OutOfMemory). PutsFirst book_rules whole fault.taken before octets after)
    → IfErr result (λ (fault : OutOfMemory). PutsFirst plain_rules plain_of fault.taken before octets after)
first_plain (Ok done) before after octets puts = tt
first_plain (Err fault) before after octets puts =
    takes_first plain_of book_rules plain_rules book_implies_plain fault.taken (session_of whole before)
    (session_of whole after) before.talk.pending octets before.replies after.talk.pending after.replies puts

pub returns-clause-book : goal.returns-clause-book
returns-clause-book c =
    let after : EmbeddedState = record { book = c.put.new.desk; talk = c.put.new.self; replies = c.put.new.out.items } in
    subst (λ (before : EmbeddedState). OnOk c.put.result (Puts book_rules whole before c.args.octets.now after)) c.self.view_is c.put.ensures.ok

pub returns-clause-book_first : goal.returns-clause-book_first
returns-clause-book_first c =
    let after : EmbeddedState = record { book = c.put.new.desk; talk = c.put.new.self; replies = c.put.new.out.items } in
    subst (λ (before : EmbeddedState). IfErr c.put.result (λ (fault : OutOfMemory). PutsFirst book_rules whole fault.taken before c.args.octets.now after)) c.self.view_is c.put.ensures.err

pub returns-clause-plain : goal.returns-clause-plain
returns-clause-plain c =
    let before : EmbeddedState = record { book = c.self.inside.book; talk = c.self.inside.talk; replies = c.self.inside.replies.items } in
    let after : EmbeddedState = record { book = c.put.new.desk; talk = c.put.new.self; replies = c.put.new.out.items } in
    subst (λ (state : EmbeddedState). OnOk c.put.result (Puts plain_rules plain_of state c.args.octets.now after)) c.self.view_is
    (on_ok c.put.result (puts_plain before after c.args.octets.now) c.put.ensures.ok)

pub returns-clause-plain_first : goal.returns-clause-plain_first
returns-clause-plain_first c =
    let before : EmbeddedState = record { book = c.self.inside.book; talk = c.self.inside.talk; replies = c.self.inside.replies.items } in
    let after : EmbeddedState = record { book = c.put.new.desk; talk = c.put.new.self; replies = c.put.new.out.items } in
    subst (λ (state : EmbeddedState). IfErr c.put.result (λ (fault : OutOfMemory). PutsFirst plain_rules plain_of fault.taken state c.args.octets.now after)) c.self.view_is
    (first_plain c.put.result before after c.args.octets.now c.put.ensures.err)
