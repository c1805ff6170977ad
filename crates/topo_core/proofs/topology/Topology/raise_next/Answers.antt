use Rattle.std.proofs.Common.{◌≤◌, ap, subst, sym, ◌∙◌}
use Rattle.topology_terms.specs.Project.{Project}
use Rattle.topology_terms.specs.Sound.{IsSoundUnder}
use Rattle.topology_terms.specs.Settled.{IsSettledUnder}
use Rattle.validation.specs.Placed.{ArePlaced}
use Rattle.topo_core.specs.Topologies.{AreLive}
use Rattle.topo_core.proofs.Whole.{ordered}
use Rattle.topo_core.proofs.Raising.{raised_of, raised_is, raise_keeps, raise_sound, raise_settled}
use Rattle.topo_core.proofs.topology.Topology.raise_next.Goals as goal

pub invariant_of-self : goal.invariant_of-self
invariant_of-self g c =
    let t = c.self.inside in
    let s = c.set_next.ensures in
    let i = raised_of c.args.next t.store c.set_next.new.self t.rules.items t.dirt t.entries s.classes s.features s.next in
    record {
      topology = raise_keeps c.args.next _ _ c.self.invariant.topology i
          (subst (λ (p : Project). p.next ≤ c.args.next) (sym c.self.view_is) c.requires) c.store_law.ensures;
      placed = subst (ArePlaced t.index) (sym s.features) c.self.invariant.placed;
      live = subst (AreLive t.index) (sym s.features) c.self.invariant.live;
    }

pub returns-clause-raised : goal.returns-clause-raised
returns-clause-raised g c =
    let t = c.self.inside in
    let s = c.set_next.ensures in
    let i = raised_of c.args.next t.store c.set_next.new.self t.rules.items t.dirt t.entries s.classes s.features s.next in
    raised_is c.args.next _ _ i ∙ ap (λ (p : Project). record p { next = c.args.next }) c.self.view_is

pub returns-clause-sound : goal.returns-clause-sound
returns-clause-sound g c = λ k.
    let t = c.self.inside in
    let s = c.set_next.ensures in
    let i = raised_of c.args.next t.store c.set_next.new.self t.rules.items t.dirt t.entries s.classes s.features s.next in
    raise_sound g.R.RuleSet.meaning c.args.next _ _ i (subst (IsSoundUnder g.R.RuleSet.meaning) (sym c.self.view_is) k)

pub returns-clause-settled : goal.returns-clause-settled
returns-clause-settled g c = λ k.
    let t = c.self.inside in
    let s = c.set_next.ensures in
    let i = raised_of c.args.next t.store c.set_next.new.self t.rules.items t.dirt t.entries s.classes s.features s.next in
    raise_settled g.R.RuleSet.meaning c.args.next _ _ i (subst (IsSettledUnder g.R.RuleSet.meaning) (sym c.self.view_is) k)

pub returns-clause-ordered : goal.returns-clause-ordered
returns-clause-ordered g c = ordered _ (invariant_of-self g c).topology
