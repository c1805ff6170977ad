use Rattle.std.proofs.Common.{refl, sym}
use Rattle.std.proofs.lemmas.Result.{IfOk-weaker}
use Rattle.topo_core.specs.Topologies.{project_of}
use Rattle.topo_core.proofs.Whole.{fitting}
use Rattle.topo_core.proofs.topology.Topology.check.Goals as goal

pub check_project-requires-clause-fits : goal.check_project-requires-clause-fits
check_project-requires-clause-fits g c = λ n row e. rw c.features.ensures.value (fitting g.R.RuleSet.meaning g.met.R.KindRules.kinds _
    c.self.invariant.topology n row (rw c.deref.ensures.value at e))

pub returns : goal.returns
returns g c = rw (← c.self.view_is) (IfOk-weaker c.check_project.result _ _ (λ found h. h (project_of c.self.inside.store
    c.self.inside.rules.items c.self.inside.dirt c.self.inside.entries) (record {
      rules = sym c.deref.ensures.value;
      features = sym c.features.ensures.value;
      dirt = refl;
      entries = refl;
    })) c.check_project.ensures)
