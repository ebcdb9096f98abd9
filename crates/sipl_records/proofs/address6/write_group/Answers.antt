use Rattle.sipl_records.proofs.Ipv6Texts.{group_written}
use Rattle.sipl_records.proofs.address6.write_group.Goals as goal

pub returns-clause-written : goal.returns-clause-written
returns-clause-written c =
    group_written c.args.text.now c.copy_from_slice.new.self c.args.start c.args.group c.leading_zeros-zeros.result c.hex_digit.result c.hex_digit-2.result c.hex_digit-3.result c.hex_digit-4.result c.requires c.leading_zeros-zeros.ensures.value c.leading_zeros-zeros.ensures.within c.hex_digit.ensures c.hex_digit-2.ensures c.hex_digit-3.ensures c.hex_digit-4.ensures c.copy_from_slice.ensures.after
