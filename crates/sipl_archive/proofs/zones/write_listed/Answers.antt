use Rattle.std.proofs.lemmas.Result.{on_ok_weaker}
use Rattle.sipl_archive.proofs.Sorting.{paired_zones}
use Rattle.sipl_archive.proofs.zones.write_listed.Goals as goal

pub returns : goal.returns
returns c =
    let keys = c.args.apexes.now.keys in
    let records = c.args.records.now in
    on_ok_weaker c.write_sorted.result
    (λ written. rw (c.as_slice-2.ensures.keys, c.deref.ensures.value, c.in_ok-sort_records.ensures, paired_zones keys records) at written)
    c.write_sorted.ensures
