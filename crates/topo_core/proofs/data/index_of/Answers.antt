use Rattle.std.proofs.Common.{◌≡◌, inl, inr, subst, take, Contains, arith}
use Rattle.std.proofs.lemmas.List.{take_all}
use Rattle.plane_terms.specs.Lists.{SomeOf}
use Rattle.plane_terms.specs.Rectangle.{IsRectangle}
use Rattle.plane_terms.proofs.ListLemmas.{every_map}
use Rattle.topology_terms.specs.Feature.{Feature, env}
use Rattle.feature_store.specs.Slots.{filled}
use Rattle.feature_store.proofs.Filling.{every_filled_more}
use Rattle.validation.specs.Placed.{placed_of}
use Rattle.grid_index.proofs.Adding.{contains_none}
use Rattle.topo_core.proofs.Live.{some_filled_more}
use Rattle.topo_core.proofs.data.index_of.Goals as goal

pub loop-slot-init : goal.loop-slot-init
loop-slot-init c = record { there = tt; only = λ q k. absurd (contains_none q (rw c.new-index.ensures at k)); on_grid = tt }

pub loop-slot-preserved : goal.loop-slot-preserved
loop-slot-preserved c =
    let at = c.loop-slot in
    let slots = c.args.slots.now in
    let after = c.in_ok-put_slot.ensures in
    let kept = every_map (λ (f : Feature). Contains at.index (placed_of f)) (λ (f : Feature). Contains c.put_slot.new.index (placed_of f))
    (λ f k. after.kept (placed_of f) k) (filled (take at.slot-index slots)) at.invariant.there in
    record {
      there = every_filled_more (λ (f : Feature). Contains c.put_slot.new.index (placed_of f)) slots at.slot-index c.slot-item.result
          c.loop-slot-test.true c.slot-item.is kept after.there;
      only = λ q k. some_filled_more (λ (f : Feature). q ≡ placed_of f) slots at.slot-index c.slot-item.result c.loop-slot-test.true
          c.slot-item.is (elim (after.only q k) [ inl m ↦ inl (at.invariant.only q m) | inr m ↦ inr m ]);
      on_grid = every_filled_more (λ (f : Feature). IsRectangle (env f)) slots at.slot-index c.slot-item.result c.loop-slot-test.true
          c.slot-item.is at.invariant.on_grid after.on_grid;
    }

pub returns-clause-only : goal.returns-clause-only
returns-clause-only c q k = subst (λ xs. SomeOf (λ (f : Feature). q ≡ placed_of f) (filled xs))
    (take_all c.loop-slot.slot-index c.args.slots.now (omega (arith, c.loop-slot-test.false))) (c.loop-slot.invariant.only q k)
