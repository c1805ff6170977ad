use Rattle.topo_run.proofs.check.check_data.Goals as goal

pub returns : goal.returns
returns c = rw c.in_ok-topology.ensures at c.check-found.ensures
