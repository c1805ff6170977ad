use Rattle.topo_run.proofs.Versions.{made_version, gone_version, merged_version, posted_version, others_stand}
use Rattle.topo_run.proofs.law.versions_law.Goals as goal

pub returns-clause-made : goal.returns-clause-made
returns-clause-made c = made_version

pub returns-clause-gone : goal.returns-clause-gone
returns-clause-gone c = gone_version

pub returns-clause-merged : goal.returns-clause-merged
returns-clause-merged c = merged_version

pub returns-clause-posted : goal.returns-clause-posted
returns-clause-posted c = posted_version

pub returns-clause-others : goal.returns-clause-others
returns-clause-others c = others_stand
