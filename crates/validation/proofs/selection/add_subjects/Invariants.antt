use Rattle.std.proofs.Common.{take}
use Rattle.std.specs.List.{flat_map}
use Rattle.topology_terms.specs.Entry.{Entry}
use Rattle.plane_terms.specs.Dirt.{MeetsDirt}
use Rattle.validation_laws.specs.Picked.{ArePicked}
use Rattle.validation.proofs.selection.add_subjects.Given as goal

abbrev pub invariant-loop-run : goal.invariant-loop-run
invariant-loop-run l = ArePicked (λ (e : Entry). MeetsDirt l.dirty e.frame) (λ (e : Entry). e.subject)
    (flat_map (λ r. r.now) (take l.run-index l.runs)) l.initial.found.items l.found.items
