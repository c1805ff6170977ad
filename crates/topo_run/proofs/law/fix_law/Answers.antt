use Rattle.topo_run.proofs.Fixed.{explode_fixed, snap_fixed, create_fixed, move_fixed, delete_at, delete_whole}
use Rattle.topo_run.proofs.law.fix_law.Goals as goal

pub returns-clause-explode : goal.returns-clause-explode
returns-clause-explode c = explode_fixed

pub returns-clause-snap : goal.returns-clause-snap
returns-clause-snap c = snap_fixed

pub returns-clause-create : goal.returns-clause-create
returns-clause-create c = create_fixed

pub returns-clause-moved : goal.returns-clause-moved
returns-clause-moved c = move_fixed

pub returns-clause-delete_at : goal.returns-clause-delete_at
returns-clause-delete_at c = delete_at

pub returns-clause-delete_whole : goal.returns-clause-delete_whole
returns-clause-delete_whole c = delete_whole
