use Rattle.sipl_service.proofs.Keys.{others}
use Rattle.sipl_service.proofs.latest_versions.LatestVersions.take_out.Goals as goal

pub returns-then-latest-number-clause-others : goal.returns-then-latest-number-clause-others
returns-then-latest-number-clause-others c =
    others c.args.self.now.table c.swap_remove.new.self c.args.key.now c.swap_remove.ensures.updates.2
