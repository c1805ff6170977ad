use Rattle.std.proofs.Common.{◌≡◌, ◌++◌, drop}
use Rattle.std.specs.Prelude.{flat_map}
use Rattle.plane_terms.specs.Shape.{path, closed_path}
use Rattle.shape.specs.Given.{rings_in}
use Rattle.rule_loops.proofs.own.open_paths.Given as goal

abbrev pub invariant-loop-ring : goal.invariant-loop-ring
invariant-loop-ring l = record {
  rest : l.rest ≡ flat_map closed_path (rings_in (drop l.ring-index l.rings));
  opened : l.opened.items ++ flat_map path (rings_in (drop l.ring-index l.rings)) ≡ flat_map path (rings_in l.rings);
}
