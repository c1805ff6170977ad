use Rattle.std.proofs.Common.{◌<◌, length, rules, subst, sym}
use Rattle.topology_terms.specs.Sound.{IsSoundUnder}
use Rattle.topology_terms.specs.Settled.{IsSettledUnder}
use Rattle.topo_core.proofs.Rows.{no_cause_fits}
use Rattle.topo_core.proofs.Whole.{ordered}
use Rattle.topo_core.proofs.RulesMore.{IsLeastFree, rule_added, rule_keeps, rule_sound, rule_settled}
use Rattle.topo_core.proofs.topology.Topology.add_rule.Goals as goal

pub invariant_of-self-2 : goal.invariant_of-self-2
invariant_of-self-2 g c =
    let few : length c.deref-2.result.now < 256 = search rules in
    record {
      topology = rule_keeps c.free_number-number.result c.args.row c.self.inside.store c.self.inside.rules.items c.put_rule.new.rules.items
          c.self.inside.dirt c.add.new.self c.self.inside.entries (rw c.deref-2.ensures.value at c.free_number-number.ensures.free)
          (c.free_number-number.ensures.from_1, c.free_number-number.ensures.most) (rw c.deref-2.ensures.value at few)
          (rw c.reserve.ensures.items at c.put_rule.ensures) c.self.invariant.topology (no_cause_fits _ c.args.row c.in_ok-fit.ensures.ok)
          (rw c.deref.ensures.value at c.in_default.ensures);
      placed = c.self.invariant.placed;
      live = c.self.invariant.live;
    }

pub returns-clause-ok : goal.returns-clause-ok
returns-clause-ok g c =
    let least : IsLeastFree c.self.inside.rules.items c.free_number-number.result =
    rw (← c.deref-2.ensures.value) (record {
      from_1 = c.free_number-number.ensures.from_1;
      free =
          c.free_number-number.ensures.free;
      least = c.free_number-number.ensures.least;
    }) in
    rw (← c.self.view_is) (rule_added c.free_number-number.result c.args.row c.self.inside.store c.self.inside.rules.items
    c.put_rule.new.rules.items c.self.inside.dirt c.add.new.self c.self.inside.entries least
    (rw c.reserve.ensures.items at c.put_rule.ensures) (rw c.whole.ensures at c.in_ok-add.ensures.ok))

pub returns-clause-sound : goal.returns-clause-sound
returns-clause-sound g c =
    let least : IsLeastFree c.self.inside.rules.items c.free_number-number.result =
    rw (← c.deref-2.ensures.value) (record {
      from_1 = c.free_number-number.ensures.from_1;
      free =
          c.free_number-number.ensures.free;
      least = c.free_number-number.ensures.least;
    }) in
    λ k. rule_sound g.R.RuleSet.meaning g.met.R.RuleSet.laws g.met.R.KindRules.kinds c.free_number-number.result c.args.row _ _
    c.self.invariant.topology (invariant_of-self-2 g c).topology (rule_added c.free_number-number.result c.args.row c.self.inside.store
    c.self.inside.rules.items c.put_rule.new.rules.items c.self.inside.dirt c.add.new.self c.self.inside.entries least
    (rw c.reserve.ensures.items at c.put_rule.ensures) (rw c.whole.ensures at c.in_ok-add.ensures.ok))
    (subst (IsSoundUnder g.R.RuleSet.meaning) (sym c.self.view_is) k)

pub returns-clause-settled : goal.returns-clause-settled
returns-clause-settled g c =
    let least : IsLeastFree c.self.inside.rules.items c.free_number-number.result =
    rw (← c.deref-2.ensures.value) (record {
      from_1 = c.free_number-number.ensures.from_1;
      free =
          c.free_number-number.ensures.free;
      least = c.free_number-number.ensures.least;
    }) in
    λ k. rule_settled g.R.RuleSet.meaning g.met.R.KindRules.kinds c.free_number-number.result c.args.row _ _ c.self.invariant.topology
    (rule_added c.free_number-number.result c.args.row c.self.inside.store c.self.inside.rules.items c.put_rule.new.rules.items
    c.self.inside.dirt c.add.new.self c.self.inside.entries least (rw c.reserve.ensures.items at c.put_rule.ensures)
    (rw c.whole.ensures at c.in_ok-add.ensures.ok)) (subst (IsSettledUnder g.R.RuleSet.meaning) (sym c.self.view_is) k)

pub returns-clause-ordered : goal.returns-clause-ordered
returns-clause-ordered g c = ordered _ (invariant_of-self-2 g c).topology
