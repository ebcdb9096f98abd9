use Rattle.std.proofs.Common.{codes}
use Rattle.sipl_lines.specs.ReplyText.{number_field}
use Rattle.sipl_archive.proofs.Appending.{head_written}
use Rattle.sipl_archive.proofs.archive.write_head.Goals as goal

pub returns : goal.returns
returns c =
    head_written _ _ _ _ _ _ _ (codes "siplocd page") (number_field c.args.extent.first) (number_field c.args.extent.count) c.args.client.now
    c.in_ok-extend_from_slice.ensures.items c.in_ok-write_number.ensures c.in_ok-write_number-2.ensures c.in_ok-push.ensures.items
    c.in_ok-extend_from_slice-2.ensures.items c.in_ok-push-2.ensures.items
