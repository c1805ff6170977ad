use Rattle.std.proofs.Common.{take}
use Rattle.topology_terms.specs.Feature.{Feature, env}
use Rattle.plane_terms.specs.Dirt.{MeetsDirt}
use Rattle.validation_laws.specs.Parts.{live_of}
use Rattle.validation_laws.specs.Picked.{ArePicked}
use Rattle.validation.proofs.selection.add_features.Given as goal

abbrev pub invariant-loop-handle : goal.invariant-loop-handle
invariant-loop-handle l = ArePicked (λ (f : Feature). MeetsDirt l.dirty (env f)) (λ (f : Feature). f.handle)
    (live_of l.features (take l.handle-index l.handles)) l.initial.found.items l.found.items
