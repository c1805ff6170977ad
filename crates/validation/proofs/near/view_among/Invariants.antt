use Rattle.std.proofs.Common.{◌≡◌, take}
use Rattle.std.specs.List.{filter}
use Rattle.topology_terms.specs.Feature.{Feature, env}
use Rattle.validation_laws.specs.Parts.{live_of}
use Rattle.validation.proofs.near.view_among.Given as goal

abbrev pub invariant-loop-handle : goal.invariant-loop-handle
invariant-loop-handle g l = l.view ≡ filter (λ (x : Feature). g.A.Aim.touching l.aim (env x)) (live_of l.features (take l.handle-index l.handles))
