use Rattle.std.proofs.Common.{take}
use Rattle.plane_terms.specs.Lists.{Every}
use Rattle.plane_terms.specs.HalfPlane.{IsHalfPlane}
use Rattle.topo_core.proofs.data.cell_law.Given as goal

abbrev pub invariant-loop-i : goal.invariant-loop-i
invariant-loop-i l = Every IsHalfPlane (take l.i l.cell)
