use Rattle.std.proofs.Common.{◌∙◌, subst, sym, ap, arith}
use Rattle.topology_terms.specs.Feature.{feature_at, IsSetAt}
use Rattle.topology_terms.specs.Sound.{IsSoundUnder}
use Rattle.topology_terms.specs.Settled.{IsSettledUnder}
use Rattle.topo_core.proofs.Whole.{ordered}
use Rattle.topo_core.proofs.Kept.{edit_keeps, edit_sound_kept, edit_settled_kept}
use Rattle.topo_core.proofs.Exchanges.{exchanged}
use Rattle.topo_core.proofs.Standing.{placed_set, same_indexed}
use Rattle.topo_core.proofs.Live.{set_live}
use Rattle.topo_core.proofs.topology.Topology.swap.Goals as goal

pub invariant_of-self-2 : goal.invariant_of-self-2
invariant_of-self-2 g c =
    let all = exchanged c.args.handle c.args.kept.now c.self.inside.store c.room.new.self c.swap_in.new.self c.self.inside.rules.items
    c.self.inside.dirt c.dirty_both.new.dirt c.self.inside.entries c.room.ensures.same c.swap_in.ensures.set c.swap_in.ensures.classes
    c.swap_in.ensures.next c.in_ok-dirty_both.ensures.ok in
    let next = all.next in
    record {
      topology = edit_keeps c.args.handle c.args.kept.now _ _ c.self.invariant.topology all.edit (omega (arith, next)) c.store_law.ensures
          c.envelope_law.ensures;
      placed = placed_set c.args.handle c.args.kept.now c.self.inside.store.features c.swap_in.new.self.features c.self.inside.index
          c.dirty_both.new.index c.take_place.new.index (subst (λ F. IsSetAt c.args.handle c.args.kept.now F c.swap_in.new.self.features)
          c.room.ensures.same.features c.swap_in.ensures.set) c.in_ok-dirty_both.ensures.put
          (rw (c.live_place-stood.ensures, c.kept_place-comes.ensures) at c.take_place.ensures) c.self.invariant.placed;
      live = set_live c.args.handle c.args.kept.now c.self.inside.store.features c.swap_in.new.self.features c.self.inside.index
          c.dirty_both.new.index c.take_place.new.index (subst (λ F. IsSetAt c.args.handle c.args.kept.now F c.swap_in.new.self.features)
          c.room.ensures.same.features c.swap_in.ensures.set) c.in_ok-dirty_both.ensures.put
          (rw (c.live_place-stood.ensures, c.kept_place-comes.ensures) at c.take_place.ensures) c.self.invariant.live;
    }

pub invariant_of-self-in_err-dirty_both : goal.invariant_of-self-in_err-dirty_both
invariant_of-self-in_err-dirty_both g c = same_indexed c.self.inside.store c.room.new.self c.self.inside.rules.items c.self.inside.dirt
    c.dirty_both.new.dirt c.self.inside.entries c.self.inside.index c.dirty_both.new.index c.room.ensures.same
    c.in_err-dirty_both.ensures.err c.in_err-dirty_both.ensures.placed c.in_err-dirty_both.ensures.live c.self.invariant

pub returns-in_err-dirty_both-clause-ordered : goal.returns-in_err-dirty_both-clause-ordered
returns-in_err-dirty_both-clause-ordered g c = ordered _ (invariant_of-self-in_err-dirty_both g c).topology

pub returns-clause-ok : goal.returns-clause-ok
returns-clause-ok g c = rw (← c.self.view_is) (exchanged c.args.handle c.args.kept.now c.self.inside.store c.room.new.self
    c.swap_in.new.self c.self.inside.rules.items c.self.inside.dirt c.dirty_both.new.dirt c.self.inside.entries c.room.ensures.same
    c.swap_in.ensures.set c.swap_in.ensures.classes c.swap_in.ensures.next c.in_ok-dirty_both.ensures.ok)

pub returns-clause-stood : goal.returns-clause-stood
returns-clause-stood g c = rw (← c.self.view_is) (c.swap_in.ensures.stood ∙ ap (λ F. feature_at F c.args.handle)
    c.room.ensures.same.features)

pub returns-clause-sound : goal.returns-clause-sound
returns-clause-sound g c = λ k. edit_sound_kept g.R.RuleSet.meaning g.met.R.RuleSet.laws g.met.R.KindRules.kinds c.args.handle
    c.args.kept.now _ _ c.self.invariant.topology (invariant_of-self-2 g c).topology (exchanged c.args.handle c.args.kept.now c.self.inside.store
    c.room.new.self c.swap_in.new.self c.self.inside.rules.items c.self.inside.dirt c.dirty_both.new.dirt c.self.inside.entries
    c.room.ensures.same c.swap_in.ensures.set c.swap_in.ensures.classes c.swap_in.ensures.next c.in_ok-dirty_both.ensures.ok).edit
    (subst (IsSoundUnder g.R.RuleSet.meaning) (sym c.self.view_is) k)

pub returns-clause-settled : goal.returns-clause-settled
returns-clause-settled g c = λ k. edit_settled_kept g.R.RuleSet.meaning g.met.R.RuleSet.laws g.met.R.KindRules.kinds c.args.handle
    c.args.kept.now _ _ c.self.invariant.topology (invariant_of-self-2 g c).topology (exchanged c.args.handle c.args.kept.now c.self.inside.store
    c.room.new.self c.swap_in.new.self c.self.inside.rules.items c.self.inside.dirt c.dirty_both.new.dirt c.self.inside.entries
    c.room.ensures.same c.swap_in.ensures.set c.swap_in.ensures.classes c.swap_in.ensures.next c.in_ok-dirty_both.ensures.ok).edit
    (subst (IsSettledUnder g.R.RuleSet.meaning) (sym c.self.view_is) k)

pub returns-clause-ordered : goal.returns-clause-ordered
returns-clause-ordered g c = ordered _ (invariant_of-self-2 g c).topology
