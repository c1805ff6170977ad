use Rattle.std.proofs.Common.{refl, subst, sym, arith}
use Rattle.topology_terms.specs.Feature.{feature_of}
use Rattle.topology_terms.specs.Project.{Project}
use Rattle.topology_terms.specs.Causes.{Tells, add_cause}
use Rattle.topology_terms.specs.Sound.{IsSoundUnder}
use Rattle.topology_terms.specs.Settled.{IsSettledUnder}
use Rattle.topo_core.specs.Faults.{change_fault, edit_cause}
use Rattle.topo_core.proofs.Whole.{ordered, none_given}
use Rattle.topo_core.proofs.Kept.{edit_keeps, edit_sound_kept, edit_settled_kept}
use Rattle.topo_core.proofs.Exchanges.{added, told_add, told}
use Rattle.topo_core.proofs.Standing.{next_placed, same_indexed}
use Rattle.topo_core.proofs.Live.{next_live}
use Rattle.topo_core.proofs.topology.Topology.add_typed.Goals as goal

pub returns-in_err-check_add-clause-refused : goal.returns-in_err-check_add-clause-refused
returns-in_err-check_add-clause-refused g c =
    told c.from_residual.result (change_fault c.in_err-check_add.field-0.0) (λ e. Tells (edit_cause e)
    (add_cause c.args.self.now.classes c.args.self.now.next c.args.class c.args.shape.kind)) c.from_residual.ensures.1
    (subst (λ (q : Project). Tells (edit_cause (change_fault c.in_err-check_add.field-0.0))
    (add_cause q.classes q.next c.args.class c.args.shape.kind)) c.self.view_is
    (told_add c.in_err-check_add.field-0.0 c.self.inside.store.classes c.self.inside.store.next c.args.class c.args.shape.kind
    c.in_err-check_add.ensures.refused))

pub invariant_of-self-in_err-dirty_next : goal.invariant_of-self-in_err-dirty_next
invariant_of-self-in_err-dirty_next g c = same_indexed c.self.inside.store c.room.new.self c.self.inside.rules.items c.self.inside.dirt
    c.dirty_next.new.dirt c.self.inside.entries c.self.inside.index c.dirty_next.new.index c.room.ensures.same
    c.in_err-dirty_next.ensures.err c.in_err-dirty_next.ensures.placed c.in_err-dirty_next.ensures.live c.self.invariant

pub returns-in_err-dirty_next-clause-ordered : goal.returns-in_err-dirty_next-clause-ordered
returns-in_err-dirty_next-clause-ordered g c = ordered _ (invariant_of-self-in_err-dirty_next g c).topology

pub invariant_of-self-2 : goal.invariant_of-self-2
invariant_of-self-2 g c =
    let all = added c.args.class c.args.subtype c.args.shape c.add_typed_in-handle.result c.self.inside.store c.room.new.self c.add_typed_in-handle.new.self
    c.self.inside.rules.items c.self.inside.dirt c.dirty_next.new.dirt c.self.inside.entries c.self.invariant.topology c.room.ensures.same
    c.add_typed_in-handle.ensures.number (record {
      classes = c.add_typed_in-handle.ensures.classes;
      features =
          c.add_typed_in-handle.ensures.features;
      next_is = c.add_typed_in-handle.ensures.next;
    }) (rw c.env-env.ensures at c.in_ok-dirty_next.ensures.ok) in
    let edit = all.edit in
    let next = all.next in
    record {
      topology = edit_keeps c.add_typed_in-handle.result _ _ _ c.self.invariant.topology edit (omega (arith, next)) c.store_law.ensures
          (rw c.env-env.ensures at c.corner_law.ensures);
      placed = next_placed c.add_typed_in-handle.result (feature_of c.add_typed_in-handle.result c.args.class c.args.subtype c.args.shape)
          c.self.inside.store.features c.add_typed_in-handle.new.self.features c.self.inside.index c.dirty_next.new.index refl edit.features
          (rw (c.env-env.ensures, ← c.add_typed_in-handle.ensures.number) at c.in_ok-dirty_next.ensures.put) c.self.invariant.placed;
      live = next_live c.add_typed_in-handle.result (feature_of c.add_typed_in-handle.result c.args.class c.args.subtype c.args.shape)
          c.self.inside.store.features c.add_typed_in-handle.new.self.features c.self.inside.index c.dirty_next.new.index refl
          (rw (← c.room.ensures.same.next, ← c.add_typed_in-handle.ensures.number) at (none_given c.self.inside.store.next c.self.inside.store.features c.self.invariant.topology.store.given))
          edit.features (rw (c.env-env.ensures, ← c.add_typed_in-handle.ensures.number) at c.in_ok-dirty_next.ensures.put) c.self.invariant.live;
    }

pub returns-clause-ok : goal.returns-clause-ok
returns-clause-ok g c = rw (← c.self.view_is) (added c.args.class c.args.subtype c.args.shape c.add_typed_in-handle.result c.self.inside.store c.room.new.self
    c.add_typed_in-handle.new.self c.self.inside.rules.items c.self.inside.dirt c.dirty_next.new.dirt c.self.inside.entries c.self.invariant.topology
    c.room.ensures.same c.add_typed_in-handle.ensures.number (record {
      classes = c.add_typed_in-handle.ensures.classes;
      features =
          c.add_typed_in-handle.ensures.features;
      next_is = c.add_typed_in-handle.ensures.next;
    }) (rw c.env-env.ensures at c.in_ok-dirty_next.ensures.ok))

pub returns-clause-sound : goal.returns-clause-sound
returns-clause-sound g c = λ k. edit_sound_kept g.R.RuleSet.meaning g.met.R.RuleSet.laws g.met.R.KindRules.kinds c.add_typed_in-handle.result _ _
    _ c.self.invariant.topology (invariant_of-self-2 g c).topology (added c.args.class c.args.subtype c.args.shape c.add_typed_in-handle.result c.self.inside.store c.room.new.self
    c.add_typed_in-handle.new.self c.self.inside.rules.items c.self.inside.dirt c.dirty_next.new.dirt c.self.inside.entries c.self.invariant.topology
    c.room.ensures.same c.add_typed_in-handle.ensures.number (record {
      classes = c.add_typed_in-handle.ensures.classes;
      features =
          c.add_typed_in-handle.ensures.features;
      next_is = c.add_typed_in-handle.ensures.next;
    }) (rw c.env-env.ensures at c.in_ok-dirty_next.ensures.ok)).edit
    (subst (IsSoundUnder g.R.RuleSet.meaning) (sym c.self.view_is) k)

pub returns-clause-settled : goal.returns-clause-settled
returns-clause-settled g c = λ k. edit_settled_kept g.R.RuleSet.meaning g.met.R.RuleSet.laws g.met.R.KindRules.kinds c.add_typed_in-handle.result
    _ _ _ c.self.invariant.topology (invariant_of-self-2 g c).topology (added c.args.class c.args.subtype c.args.shape c.add_typed_in-handle.result c.self.inside.store
    c.room.new.self c.add_typed_in-handle.new.self c.self.inside.rules.items c.self.inside.dirt c.dirty_next.new.dirt c.self.inside.entries
    c.self.invariant.topology c.room.ensures.same c.add_typed_in-handle.ensures.number (record {
      classes = c.add_typed_in-handle.ensures.classes;
      features =
          c.add_typed_in-handle.ensures.features;
      next_is = c.add_typed_in-handle.ensures.next;
    }) (rw c.env-env.ensures at c.in_ok-dirty_next.ensures.ok)).edit
    (subst (IsSettledUnder g.R.RuleSet.meaning) (sym c.self.view_is) k)

pub returns-clause-ordered : goal.returns-clause-ordered
returns-clause-ordered g c = ordered _ (invariant_of-self-2 g c).topology
