use Rattle.std.proofs.Common.{◌≡◌, ◌≤◌, take}
use Rattle.plane_terms.specs.Lists.{how_many}
use Rattle.topology_terms.specs.Feature.{Feature}
use Rattle.validation_laws.specs.Parts.{live_of}
use Rattle.validation_laws.specs.Views.{counts_at}
use Rattle.validation.proofs.near.FeatureIndex.are_enough.Given as goal

abbrev pub invariant-loop-handle : goal.invariant-loop-handle
invariant-loop-handle g l = (l.count ≡ how_many (λ (g : Feature). counts_at l.row g l.place) (live_of l.self.features (take l.handle-index l.handles)))
    × (l.count ≤ l.handle-index)
