use Rattle.sipl_records.proofs.Parts.{parts-slice_split}
use Rattle.sipl_records.proofs.laws.parts_are_the_slices_between_separators.Goals as goal

pub returns : goal.returns
returns c = parts-slice_split
