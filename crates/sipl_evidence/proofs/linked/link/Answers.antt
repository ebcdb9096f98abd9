use Rattle.sipl_evidence.proofs.Linking.{ArePaired-link}
use Rattle.sipl_evidence.proofs.linked.link.Goals as goal

pub returns-clause-paired : goal.returns-clause-paired
returns-clause-paired c =
    ArePaired-link c.args.by_code.now c.args.by_id.now c.push.new.self c.push-2.new.self c.args.code c.args.id c.len-rank.result c.len-index.result
    c.len-rank.ensures c.len-index.ensures c.requires.paired c.push.ensures.dense c.push-2.ensures.dense c.push.ensures.at c.push-2.ensures.at c.requires.new
