use Rattle.std.proofs.Common.{◌↔◌, take}
use Rattle.plane_terms.specs.Lists.{SomeOf}
use Rattle.plane_terms.specs.Point.{Point}
use Rattle.plane_terms.specs.Cell.{InCell, weak_of}
use Rattle.plane_terms.specs.Corners.{MeetAt}
use Rattle.cell_corners.specs.Listed.{Stands}
use Rattle.cell_corners.specs.Lists.{AreListed}
use Rattle.cell_corners.proofs.corners.corners_by_lines.Given as goal

abbrev pub invariant-loop-half : goal.invariant-loop-half
invariant-loop-half l = record {
  listed : AreListed l.found.items;
  found : (p : Point) → Stands l.found.items p
      ↔ (InCell (weak_of l.halves) p × SomeOf (λ h. SomeOf (λ g. MeetAt p h g) l.halves) (take l.half-index l.halves));
}
