use Rattle.sipl_masterfile.proofs.EntryCount.{entries_of-le}
use Rattle.sipl_masterfile.proofs.entries.Entries.new.Goals as goal

pub returns-clause-few : goal.returns-clause-few
returns-clause-few c = entries_of-le c.args.text.now
