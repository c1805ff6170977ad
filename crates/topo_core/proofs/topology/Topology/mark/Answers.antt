use Rattle.std.proofs.Common.{subst, sym}
use Rattle.topology_terms.specs.Sound.{IsSoundUnder}
use Rattle.topology_terms.specs.Settled.{IsSettledUnder}
use Rattle.sound_laws.proofs.Marks.{mark_sound}
use Rattle.topo_core.proofs.Whole.{ordered}
use Rattle.topo_core.proofs.Marking.{marked, mark_keeps, mark_settled}
use Rattle.topo_core.proofs.topology.Topology.mark.Goals as goal

pub invariant_of-self-2 : goal.invariant_of-self-2
invariant_of-self-2 g c =
    let t = c.self.inside in
    let m = c.in_ok-set_mark.ensures in
    let k = c.args.key in
    let i = marked k.rule k.subject k.other c.args.on t.store t.rules.items t.dirt t.entries c.set_mark.new.self m.set in
    record {
      topology = mark_keeps _ _ c.self.invariant.topology i.marking m.ascending;
      placed = c.self.invariant.placed;
      live = c.self.invariant.live;
    }

pub returns-clause-ok : goal.returns-clause-ok
returns-clause-ok g c =
    let t = c.self.inside in
    let k = c.args.key in
    let m = c.in_ok-set_mark.ensures in
    rw (← c.self.view_is) (marked k.rule k.subject k.other c.args.on t.store t.rules.items t.dirt t.entries c.set_mark.new.self m.set)

pub returns-clause-sound : goal.returns-clause-sound
returns-clause-sound g c = λ s.
    let t = c.self.inside in
    let k = c.args.key in
    let m = c.in_ok-set_mark.ensures in
    let i = marked k.rule k.subject k.other c.args.on t.store t.rules.items t.dirt t.entries c.set_mark.new.self m.set in
    mark_sound g.R.RuleSet.meaning _ _ i.marking (subst (IsSoundUnder g.R.RuleSet.meaning) (sym c.self.view_is) s)

pub returns-clause-settled : goal.returns-clause-settled
returns-clause-settled g c = λ s.
    let t = c.self.inside in
    let k = c.args.key in
    let m = c.in_ok-set_mark.ensures in
    let i = marked k.rule k.subject k.other c.args.on t.store t.rules.items t.dirt t.entries c.set_mark.new.self m.set in
    mark_settled g.R.RuleSet.meaning _ _ i.marking (subst (IsSettledUnder g.R.RuleSet.meaning) (sym c.self.view_is) s)

pub returns-clause-ordered : goal.returns-clause-ordered
returns-clause-ordered g c = ordered _ (invariant_of-self-2 g c).topology
