use Rattle.std.proofs.Common.{◌≡◌, ◌<◌, length, take, refl, subst, arith}
use Rattle.std.specs.Prelude.{nat_lt}
use Rattle.std.specs.Io.KnownBytes.{Appends}
use Rattle.sipl_names.specs.Labels.{Octets}
use Rattle.sipl_lines.specs.Machine.{read_items}
use Rattle.sipl_lines.specs.Tapped.{tapped_inner}
use Rattle.sipl_lines.specs.Turns.{CompletesTurn, AbortsTurn, AppendsPrefix}
use Rattle.sipl_lines.proofs.Turning.{ReadGave, read_gave, turn_completed, turn_aborted, all_replies, whatever_result, all_prefix}
use Rattle.sipl_lines.proofs.server.Server.turn.Goals as goal

pub returns-then-not-send-clause-err : goal.returns-then-not-send-clause-err
returns-then-not-send-clause-err g c =
    let buf : Octets = c.read.new.buf in
    let items : Octets = c.self.inside.chunk.items in
    let counts : c.self.inside.chunk.len ≡ length items = c.self.inside.chunk.ok.0 in
    let same : length buf ≡ length items = omega (arith, c.read.auto.buf, c.deref_mut.ensures.len, c.self.inside.chunk.ok.0) in
    let some : 0 < length buf = omega (arith, c.self.invariant, c.read.auto.buf, c.deref_mut.ensures.len) in
    let unread = g.R.Read.remaining (tapped_inner c.args.reader.now) in
    let left = g.R.Read.remaining (tapped_inner c.read.new.self) in
    let old = g.W.Write.contents (tapped_inner c.args.writer.now) in
    let new = g.W.Write.contents (tapped_inner c.send.new.writer) in
    let octets : Octets = take c.in-Ok.count c.deref.result.now in
    let replies : Octets = c.process-processed.new.out.items in
    let gave : ReadGave unread left c.in-Ok.count buf octets =
    read_gave unread left c.in-Ok.count c.self.inside.chunk.len items buf c.deref.result.now octets counts same some c.deref.ensures.value refl c.in-Ok.ensures.bound.0 c.in-Ok.ensures.bytes in
    subst (λ p. AbortsTurn g.C.Conversation.protocol (g.C.Conversation.state c.args.desk.now c.args.conversation.now) p unread left old (g.C.Conversation.state c.process-processed.new.desk c.process-processed.new.conversation) new) c.self.view_is
    (turn_aborted g.C.Conversation.protocol (g.C.Conversation.state c.args.desk.now c.args.conversation.now) c.self.inside.pending unread left old (g.C.Conversation.state c.process-processed.new.desk c.process-processed.new.conversation) new
    c.in-Ok.count buf octets c.clear.new.self.items replies gave c.clear.ensures.items
    (whatever_result c.process-processed.result _ _
    (all_replies g.C.Conversation.protocol (g.C.Conversation.state c.args.desk.now c.args.conversation.now) (read_items c.self.inside.pending octets) c.clear.new.self.items (g.C.Conversation.state c.process-processed.new.desk c.process-processed.new.conversation) replies)
    c.process-processed.ensures.ok c.process-processed.ensures.err)
    (subst (AppendsPrefix old new) c.deref-2.ensures.value c.if-not-send.ensures.prefix))

pub returns-in-Err-processed-clause-err : goal.returns-in-Err-processed-clause-err
returns-in-Err-processed-clause-err g c =
    let buf : Octets = c.read.new.buf in
    let items : Octets = c.self.inside.chunk.items in
    let counts : c.self.inside.chunk.len ≡ length items = c.self.inside.chunk.ok.0 in
    let same : length buf ≡ length items = omega (arith, c.read.auto.buf, c.deref_mut.ensures.len, c.self.inside.chunk.ok.0) in
    let some : 0 < length buf = omega (arith, c.self.invariant, c.read.auto.buf, c.deref_mut.ensures.len) in
    let unread = g.R.Read.remaining (tapped_inner c.args.reader.now) in
    let left = g.R.Read.remaining (tapped_inner c.read.new.self) in
    let old = g.W.Write.contents (tapped_inner c.args.writer.now) in
    let new = g.W.Write.contents (tapped_inner c.send.new.writer) in
    let octets : Octets = take c.in-Ok.count c.deref.result.now in
    let replies : Octets = c.process-processed.new.out.items in
    let gave : ReadGave unread left c.in-Ok.count buf octets =
    read_gave unread left c.in-Ok.count c.self.inside.chunk.len items buf c.deref.result.now octets counts same some c.deref.ensures.value refl c.in-Ok.ensures.bound.0 c.in-Ok.ensures.bytes in
    subst (λ p. AbortsTurn g.C.Conversation.protocol (g.C.Conversation.state c.args.desk.now c.args.conversation.now) p unread left old (g.C.Conversation.state c.process-processed.new.desk c.process-processed.new.conversation) new) c.self.view_is
    (turn_aborted g.C.Conversation.protocol (g.C.Conversation.state c.args.desk.now c.args.conversation.now) c.self.inside.pending unread left old (g.C.Conversation.state c.process-processed.new.desk c.process-processed.new.conversation) new
    c.in-Ok.count buf octets c.clear.new.self.items replies gave c.clear.ensures.items
    c.in-Err-processed.ensures.err
    (all_prefix old new replies (subst (Appends old new) c.deref-2.ensures.value c.if-not-send.ensures.sent)))

pub returns-clause-ok : goal.returns-clause-ok
returns-clause-ok g c =
    let buf : Octets = c.read.new.buf in
    let items : Octets = c.self.inside.chunk.items in
    let counts : c.self.inside.chunk.len ≡ length items = c.self.inside.chunk.ok.0 in
    let same : length buf ≡ length items = omega (arith, c.read.auto.buf, c.deref_mut.ensures.len, c.self.inside.chunk.ok.0) in
    let some : 0 < length buf = omega (arith, c.self.invariant, c.read.auto.buf, c.deref_mut.ensures.len) in
    let unread = g.R.Read.remaining (tapped_inner c.args.reader.now) in
    let left = g.R.Read.remaining (tapped_inner c.read.new.self) in
    let old = g.W.Write.contents (tapped_inner c.args.writer.now) in
    let new = g.W.Write.contents (tapped_inner c.send.new.writer) in
    let octets : Octets = take c.in-Ok.count c.deref.result.now in
    let replies : Octets = c.process-processed.new.out.items in
    let gave : ReadGave unread left c.in-Ok.count buf octets =
    read_gave unread left c.in-Ok.count c.self.inside.chunk.len items buf c.deref.result.now octets counts same some c.deref.ensures.value refl c.in-Ok.ensures.bound.0 c.in-Ok.ensures.bytes in
    subst (λ p. CompletesTurn g.C.Conversation.protocol (nat_lt 0 c.in-Ok.count) (g.C.Conversation.state c.args.desk.now c.args.conversation.now) p unread left old (g.C.Conversation.state c.process-processed.new.desk c.process-processed.new.conversation) c.process-processed.new.self new) c.self.view_is
    (turn_completed g.C.Conversation.protocol (g.C.Conversation.state c.args.desk.now c.args.conversation.now) c.self.inside.pending unread left old (g.C.Conversation.state c.process-processed.new.desk c.process-processed.new.conversation) c.process-processed.new.self new
    c.in-Ok.count buf octets c.clear.new.self.items replies gave c.clear.ensures.items
    c.in-Ok-processed.ensures.ok c.in-Ok-processed.ensures.rest
    (subst (Appends old new) c.deref-2.ensures.value c.if-not-send.ensures.sent))
