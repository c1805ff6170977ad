use Rattle.std.proofs.Common.{take, All}
use Rattle.plane_terms.specs.Point.{Point}
use Rattle.plane_terms.specs.HalfPlane.{Holds}
use Rattle.convex_cell.specs.Needed.{IsInFrame}
use Rattle.convex_cell.proofs.needed.hold_within.Given as goal

abbrev pub invariant-loop-half : goal.invariant-loop-half
invariant-loop-half l = (p : Point) → IsInFrame l.x l.y p → All (λ h. Holds h p) (take l.half-index l.halves)
