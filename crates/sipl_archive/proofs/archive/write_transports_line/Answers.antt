use Rattle.std.proofs.Common.{[], ◌∷◌, codes}
use Rattle.sipl_archive.specs.Archive.{transports_text}
use Rattle.sipl_archive.proofs.Appending.{appends_three}
use Rattle.sipl_archive.proofs.archive.write_transports_line.Goals as goal

pub returns : goal.returns
returns c =
    appends_three _ _ _ _ (codes "transports = [") (transports_text c.args.transports.now) (93 ∷ 10 ∷ [])
    c.in_ok-extend_from_slice.ensures.items c.in_ok-write_transports.ensures c.in_ok-extend_from_slice-2.ensures.items
