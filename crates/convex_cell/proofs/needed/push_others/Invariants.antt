use Rattle.std.proofs.Common.{◌≡◌, ◌↔◌, take, length, All}
use Rattle.plane_terms.specs.Point.{Point}
use Rattle.plane_terms.specs.HalfPlane.{Holds}
use Rattle.convex_cell.proofs.needed.push_others.Given as goal

abbrev pub invariant-loop-half : goal.invariant-loop-half
invariant-loop-half l = record {
  points : (p : Point) → All (λ h. Holds h p) l.needed.items
      ↔ (All (λ h. Holds h p) l.initial.needed.items × All (λ h. Holds h p) (take l.half-index l.halves));
  begins : take (length l.initial.needed.items) l.needed.items ≡ l.initial.needed.items;
}
