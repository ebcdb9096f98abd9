use Rattle.std.proofs.Common.{codes}
use Rattle.sipl_choice.specs.Transports.{transport_text}
use Rattle.sipl_uri.proofs.WrittenParts.{second-Ok}
use Rattle.sipl_uri.proofs.question.write_transport.Goals as goal

pub returns-clause-ok : goal.returns-clause-ok
returns-clause-ok c =
    let written = c.extend_from_slice-2.ensures.items in
    rw c.in-Some.is (second-Ok c.extend_from_slice-2.result c.args.out.now.items (codes ";transport=") (transport_text c.in-Some.transport) c.extend_from_slice.new.self.items c.extend_from_slice-2.new.self.items c.in_ok-extend_from_slice.ensures.items (rw (c.as_bytes.ensures.value, c.name.ensures) at written))
