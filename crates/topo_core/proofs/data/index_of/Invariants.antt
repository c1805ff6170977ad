use Rattle.std.proofs.Common.{◌≡◌, take, Contains}
use Rattle.plane_terms.specs.Lists.{Every, SomeOf}
use Rattle.plane_terms.specs.Rectangle.{IsRectangle}
use Rattle.topology_terms.specs.Feature.{Feature, env}
use Rattle.feature_store.specs.Slots.{filled}
use Rattle.grid_index.specs.declared.placed.Placed.{Placed}
use Rattle.validation.specs.Placed.{placed_of}
use Rattle.topo_core.proofs.data.index_of.Given as goal

abbrev pub invariant-loop-slot : goal.invariant-loop-slot
invariant-loop-slot l = record {
  there : Every (λ (f : Feature). Contains l.index (placed_of f)) (filled (take l.slot-index l.slots));
  only : (q : Placed) → Contains l.index q → SomeOf (λ (f : Feature). q ≡ placed_of f) (filled (take l.slot-index l.slots));
  on_grid : Every (λ (f : Feature). IsRectangle (env f)) (filled (take l.slot-index l.slots));
}
