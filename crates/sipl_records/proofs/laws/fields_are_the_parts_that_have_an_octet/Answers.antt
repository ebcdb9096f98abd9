use Rattle.sipl_records.proofs.Fields.{fields_of-slice_split}
use Rattle.sipl_records.proofs.laws.fields_are_the_parts_that_have_an_octet.Goals as goal

pub returns : goal.returns
returns c = fields_of-slice_split
