use Rattle.std.proofs.Common.{take}
use Rattle.topology_terms.specs.Entry.{Entry}
use Rattle.plane_terms.specs.Dirt.{MeetsDirt}
use Rattle.validation_laws.specs.Picked.{ArePicked}
use Rattle.validation.proofs.selection.add_run.Given as goal

abbrev pub invariant-loop-e : goal.invariant-loop-e
invariant-loop-e l = ArePicked (λ (e : Entry). MeetsDirt l.dirty e.frame) (λ (e : Entry). e.subject) (take l.e-index l.run)
    l.initial.found.items l.found.items
