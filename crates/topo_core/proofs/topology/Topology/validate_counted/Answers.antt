use Rattle.std.proofs.Common.{◌≡◌, ◌≤◌, ap, subst, sym}
use Rattle.plane_terms.specs.Lists.{IsThose}
use Rattle.topology_terms.specs.Feature.{Feature}
use Rattle.topology_terms.specs.Changes.{IsSelected}
use Rattle.topology_terms.specs.Sound.{IsSoundUnder}
use Rattle.topology_terms.specs.Settled.{IsSettledUnder}
use Rattle.topology_terms.specs.Counts.{raised, judged_of}
use Rattle.validation.specs.Projects.{RuledFeatures}
use Rattle.topo_core.specs.Topologies.{project_of}
use Rattle.topo_core.proofs.Whole.{ordered, fitting}
use Rattle.topo_core.proofs.Kept.{parts_of, asked_by, validated_keeps, validated_sound_kept, validated_settled_kept}
use Rattle.grid_index.proofs.Nodes.{on_err}
use Rattle.topo_core.proofs.topology.Topology.validate_counted.Goals as goal

pub validate_counted-requires : goal.validate_counted-requires
validate_counted-requires g c = rw c.of-ruled.ensures (λ n row e. rw c.features-features.ensures.value (fitting g.R.RuleSet.meaning
    g.met.R.KindRules.kinds _ c.self.invariant.topology n row (rw c.deref.ensures.value at e)))

pub returns-in_err-validate_counted-clause-ordered : goal.returns-in_err-validate_counted-clause-ordered
returns-in_err-validate_counted-clause-ordered g c = rw (c.in_err-validate_counted.ensures.errors_kept, c.in_err-validate_counted.ensures.dirt_kept)
    (ordered _ c.self.invariant.topology)

pub invariant_of-self-2 : goal.invariant_of-self-2
invariant_of-self-2 g c =
    let p = project_of c.self.inside.store c.self.inside.rules.items c.self.inside.dirt c.self.inside.entries in
    let parts = parts_of p _ _ _ _ c.of-ruled.ensures c.deref.ensures.value c.features-features.ensures.value in
    record {
      topology = validated_keeps g.R.RuleSet.meaning g.met.R.RuleSet.right g.met.R.KindRules.kinds g.met.R.KindRules.partners
          c.args.window p _
          c.self.invariant.topology (c.in_ok-validate_counted.ensures.step p parts) c.in_ok-validate_counted.ensures.ordered;
      placed = c.self.invariant.placed;
      live = c.self.invariant.live;
    }

pub returns-clause-ok : goal.returns-clause-ok
returns-clause-ok g c =
    let p = project_of c.self.inside.store c.self.inside.rules.items c.self.inside.dirt c.self.inside.entries in
    rw (← c.self.view_is) (c.in_ok-validate_counted.ensures.step p (parts_of p _ _ _ _ c.of-ruled.ensures c.deref.ensures.value
    c.features-features.ensures.value))

pub returns-clause-judged : goal.returns-clause-judged
returns-clause-judged g c =
    let p = project_of c.self.inside.store c.self.inside.rules.items c.self.inside.dirt c.self.inside.entries in
    let parts = parts_of p _ _ _ _ c.of-ruled.ensures c.deref.ensures.value c.features-features.ensures.value in
    let j = c.in_ok-validate_counted.ensures.judged p parts in
    rw (← c.self.view_is) (record {
      subjects = j.0;
      those = subst (λ F. IsThose (λ (f : Feature). IsSelected p c.args.window f.handle) F j.0) (sym parts.features) j.1;
      count = subst (λ rules. c.validate_counted.new.work.judged ≡ raised c.args.work.now.judged (judged_of rules j.0)) (sym parts.rules) j.2;
    })

pub returns-clause-sound : goal.returns-clause-sound
returns-clause-sound g c =
    let p = project_of c.self.inside.store c.self.inside.rules.items c.self.inside.dirt c.self.inside.entries in
    let parts = parts_of p _ _ _ _ c.of-ruled.ensures c.deref.ensures.value c.features-features.ensures.value in
    λ k. validated_sound_kept g.R.RuleSet.meaning g.met.R.RuleSet.laws g.met.R.RuleSet.right g.met.R.KindRules.kinds c.args.window p _
    c.self.invariant.topology (c.in_ok-validate_counted.ensures.step p parts) (subst (IsSoundUnder g.R.RuleSet.meaning) (sym c.self.view_is) k)

pub returns-clause-settled : goal.returns-clause-settled
returns-clause-settled g c =
    let p = project_of c.self.inside.store c.self.inside.rules.items c.self.inside.dirt c.self.inside.entries in
    let parts = parts_of p _ _ _ _ c.of-ruled.ensures c.deref.ensures.value c.features-features.ensures.value in
    λ k. validated_settled_kept g.R.RuleSet.meaning g.met.R.RuleSet.laws g.met.R.RuleSet.right g.met.R.KindRules.kinds c.args.window p _
    c.self.invariant.topology (c.in_ok-validate_counted.ensures.step p parts) (subst (IsSettledUnder g.R.RuleSet.meaning) (sym c.self.view_is) k)

pub returns-clause-ordered : goal.returns-clause-ordered
returns-clause-ordered g c =
    let p = project_of c.self.inside.store c.self.inside.rules.items c.self.inside.dirt c.self.inside.entries in
    let parts = parts_of p _ _ _ _ c.of-ruled.ensures c.deref.ensures.value c.features-features.ensures.value in
    ordered _ (validated_keeps g.R.RuleSet.meaning g.met.R.RuleSet.right g.met.R.KindRules.kinds g.met.R.KindRules.partners
    c.args.window p _ c.self.invariant.topology
    (c.in_ok-validate_counted.ensures.step p parts) c.in_ok-validate_counted.ensures.ordered)

pub returns-in_err-validate_counted-clause-stopped : goal.returns-in_err-validate_counted-clause-stopped
returns-in_err-validate_counted-clause-stopped g c =
    let p = project_of c.self.inside.store c.self.inside.rules.items c.self.inside.dirt c.self.inside.entries in
    let parts = parts_of p _ _ _ _ c.of-ruled.ensures c.deref.ensures.value c.features-features.ensures.value in
    on_err c.from_residual.result _ (rw (← c.self.view_is) (λ fs those. subst (λ rules. c.validate_counted.new.work.judged ≤ raised c.args.work.now.judged
    (judged_of rules fs)) (sym parts.rules)
    (c.in_err-validate_counted.ensures.stopped p parts fs
    (subst (λ F. IsThose (λ (f : Feature). IsSelected p c.args.window f.handle) F fs) parts.features those))))

pub returns-clause-asked : goal.returns-clause-asked
returns-clause-asked g c =
    let p = project_of c.self.inside.store c.self.inside.rules.items c.self.inside.dirt c.self.inside.entries in
    let parts = parts_of p _ _ _ _ c.of-ruled.ensures c.deref.ensures.value c.features-features.ensures.value in
    rw (← c.self.view_is) (asked_by c.args.window p _ c.self.inside.index _ _ parts (ap (λ (r : RuledFeatures). r.placed) c.of-ruled.ensures)
    c.self.invariant.placed c.self.invariant.live (c.validate_counted.ensures.asked p parts))

pub returns-in_err-validate_counted-clause-asked : goal.returns-in_err-validate_counted-clause-asked
returns-in_err-validate_counted-clause-asked g c =
    let p = project_of c.self.inside.store c.self.inside.rules.items c.self.inside.dirt c.self.inside.entries in
    let parts = parts_of p _ _ _ _ c.of-ruled.ensures c.deref.ensures.value c.features-features.ensures.value in
    rw (← c.self.view_is) (asked_by c.args.window p _ c.self.inside.index _ _ parts (ap (λ (r : RuledFeatures). r.placed) c.of-ruled.ensures)
    c.self.invariant.placed c.self.invariant.live (c.validate_counted.ensures.asked p parts))
