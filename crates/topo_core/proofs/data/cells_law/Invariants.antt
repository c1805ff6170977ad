use Rattle.std.proofs.Common.{take}
use Rattle.plane_terms.specs.Lists.{Every}
use Rattle.plane_terms.specs.Cell.{Cell}
use Rattle.plane_terms.specs.HalfPlane.{IsHalfPlane}
use Rattle.topo_core.proofs.data.cells_law.Given as goal

abbrev pub invariant-loop-i : goal.invariant-loop-i
invariant-loop-i l = Every (λ (c : Cell). Every IsHalfPlane c) (take l.i l.cells)
