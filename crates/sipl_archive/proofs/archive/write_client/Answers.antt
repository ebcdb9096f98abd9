use Rattle.std.proofs.Common.{codes}
use Rattle.sipl_archive.specs.Archive.{families_text, held_text, setting_line, transports_line}
use Rattle.sipl_archive.proofs.Appending.{appends_three}
use Rattle.sipl_archive.proofs.archive.write_client.Goals as goal

pub returns : goal.returns
returns c =
    let client = c.args.abilities.now in
    let first = rw c.preference.ensures.value at c.in_ok-write_transports_line.ensures in
    let second = rw (c.families_name.ensures, c.families.ensures) at c.in_ok-write_setting.ensures in
    let third = rw c.held_name.ensures at c.in_ok-write_setting-2.ensures in
    appends_three _ _ _ _ (transports_line client.preference) (setting_line (codes "families") (families_text client.families))
    (setting_line (codes "held") (held_text c.args.held)) first second third
