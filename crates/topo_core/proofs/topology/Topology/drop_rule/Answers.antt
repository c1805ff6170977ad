use Rattle.std.proofs.Common.{subst, sym}
use Rattle.topology_terms.specs.Sound.{IsSoundUnder}
use Rattle.topology_terms.specs.Settled.{IsSettledUnder}
use Rattle.sound_laws.proofs.RuleChanges.{drop_rule_sound}
use Rattle.sound_laws.proofs.Settling.{drop_rule_settled}
use Rattle.topo_core.proofs.Whole.{ordered}
use Rattle.topo_core.proofs.RulesLess.{rule_dropped, rule_leaves}
use Rattle.topo_core.proofs.topology.Topology.drop_rule.Goals as goal

pub invariant_of-self : goal.invariant_of-self
invariant_of-self g c = record {
  topology = rule_leaves c.args.number c.self.inside.store c.self.inside.rules.items c.drop_from.new.rules.items
      c.self.inside.dirt c.self.inside.entries c.drop_rule.new.self c.drop_from.ensures
      (record { gone = c.drop_rule.ensures.gone; kept = c.drop_rule.ensures.kept }) c.drop_rule.ensures.ascending c.self.invariant.topology;
  placed = c.self.invariant.placed;
  live = c.self.invariant.live;
}

pub returns-clause-ok : goal.returns-clause-ok
returns-clause-ok g c = rw (← c.self.view_is) (rule_dropped c.args.number c.self.inside.store c.self.inside.rules.items
    c.drop_from.new.rules.items c.self.inside.dirt c.self.inside.entries c.drop_rule.new.self c.drop_from.ensures
    (record { gone = c.drop_rule.ensures.gone; kept = c.drop_rule.ensures.kept }))

pub returns-clause-sound : goal.returns-clause-sound
returns-clause-sound g c = λ k. drop_rule_sound g.R.RuleSet.meaning c.args.number _ _
    (rule_dropped c.args.number c.self.inside.store c.self.inside.rules.items c.drop_from.new.rules.items c.self.inside.dirt
    c.self.inside.entries c.drop_rule.new.self c.drop_from.ensures (record {
      gone = c.drop_rule.ensures.gone;
      kept =
          c.drop_rule.ensures.kept;
    })) (subst (IsSoundUnder g.R.RuleSet.meaning) (sym c.self.view_is) k)

pub returns-clause-settled : goal.returns-clause-settled
returns-clause-settled g c = λ k. drop_rule_settled g.R.RuleSet.meaning c.args.number _ _
    (rule_dropped c.args.number c.self.inside.store c.self.inside.rules.items c.drop_from.new.rules.items c.self.inside.dirt
    c.self.inside.entries c.drop_rule.new.self c.drop_from.ensures (record {
      gone = c.drop_rule.ensures.gone;
      kept =
          c.drop_rule.ensures.kept;
    })) (subst (IsSettledUnder g.R.RuleSet.meaning) (sym c.self.view_is) k)

pub returns-clause-ordered : goal.returns-clause-ordered
returns-clause-ordered g c = ordered _ (invariant_of-self g c).topology
