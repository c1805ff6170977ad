use Rattle.std.proofs.Common.{◌≡◌, ◌≤◌, ◌++◌, drop, length}
use Rattle.std.specs.Prelude.{flat_map}
use Rattle.plane_terms.specs.Shape.{path}
use Rattle.shape.specs.Given.{rings_in}
use Rattle.topology_terms.specs.Cells as terms
use Rattle.rule_loops.proofs.own_line.crossings_by_block.Given as goal

abbrev pub invariant-loop-part : goal.invariant-loop-part
invariant-loop-part l = record {
  within : l.from ≤ length l.line;
  rest : drop l.from l.line ≡ flat_map path (rings_in (drop l.part-index l.parts));
  cells : l.cells ++ terms.later_crossings l.off (rings_in (drop l.part-index l.parts))
      ≡ terms.later_crossings l.off (rings_in l.parts);
}
