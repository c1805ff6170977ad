use Rattle.std.proofs.Common.{◌≡◌, ◌++◌, drop}
use Rattle.std.specs.Prelude.{flat_map}
use Rattle.plane_terms.specs.Shape.{path}
use Rattle.shape.specs.Given.{rings_in}
use Rattle.topology_terms.specs.Cells as terms
use Rattle.rule_loops.proofs.crossings.later_crossings.Given as goal

abbrev pub invariant-loop-part : goal.invariant-loop-part
invariant-loop-part l = record {
  rest : l.rest ≡ flat_map path (rings_in (drop l.part-index l.parts));
  cells : l.cells ++ terms.later_crossings l.off (rings_in (drop l.part-index l.parts))
      ≡ terms.later_crossings l.off (rings_in l.parts);
}
