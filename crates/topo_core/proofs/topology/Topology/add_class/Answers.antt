use Rattle.std.proofs.Common.{subst, sym, refl}
use Rattle.topology_terms.specs.Sound.{IsSoundUnder}
use Rattle.topology_terms.specs.Settled.{IsSettledUnder}
use Rattle.validation.specs.Placed.{ArePlaced}
use Rattle.topo_core.specs.Topologies.{AreLive}
use Rattle.topo_core.proofs.Whole.{ordered}
use Rattle.topo_core.proofs.Kept.{class_keeps, class_sound, class_settled}
use Rattle.topo_core.proofs.topology.Topology.add_class.Goals as goal

pub invariant_of-self-2 : goal.invariant_of-self-2
invariant_of-self-2 g c = record {
  topology = class_keeps c.args.name c.args.kind _ _ c.self.invariant.topology
      (record {
        classes = c.in_ok-number.ensures.added;
        rules = refl;
        features = c.add_class.ensures.features;
        next =
            c.add_class.ensures.next;
        dirt = refl;
        entries = refl;
      }) c.store_law.ensures;
  placed = subst (ArePlaced c.self.inside.index) (sym c.add_class.ensures.features) c.self.invariant.placed;
  live = subst (AreLive c.self.inside.index) (sym c.add_class.ensures.features) c.self.invariant.live;
}

pub returns-clause-sound : goal.returns-clause-sound
returns-clause-sound g c = λ k. class_sound g.R.RuleSet.meaning c.args.name c.args.kind _ _
    (record {
      classes = c.in_ok-number.ensures.added;
      rules = refl;
      features = c.add_class.ensures.features;
      next =
          c.add_class.ensures.next;
      dirt = refl;
      entries = refl;
    }) (subst (IsSoundUnder g.R.RuleSet.meaning) (sym c.self.view_is) k)

pub returns-clause-settled : goal.returns-clause-settled
returns-clause-settled g c = λ k. class_settled g.R.RuleSet.meaning c.args.name c.args.kind _ _
    (record {
      classes = c.in_ok-number.ensures.added;
      rules = refl;
      features = c.add_class.ensures.features;
      next =
          c.add_class.ensures.next;
      dirt = refl;
      entries = refl;
    }) (subst (IsSettledUnder g.R.RuleSet.meaning) (sym c.self.view_is) k)

pub returns-clause-ordered : goal.returns-clause-ordered
returns-clause-ordered g c = ordered _ (invariant_of-self-2 g c).topology
