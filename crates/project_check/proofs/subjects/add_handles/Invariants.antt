use Rattle.std.proofs.Common.{◌≡◌, ◌++◌, map, take}
use Rattle.topology_terms.specs.Feature.{Feature}
use Rattle.feature_store.specs.Slots.{filled}
use Rattle.project_check.proofs.subjects.add_handles.Given as goal

abbrev pub invariant-loop-slot : goal.invariant-loop-slot
invariant-loop-slot l = l.subjects.items ≡ l.initial.subjects.items
    ++ map (λ (f : Feature). f.handle) (filled (take l.slot-index l.slots))
