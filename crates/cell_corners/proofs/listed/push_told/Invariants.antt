use Rattle.std.proofs.Common.{◌≡◌, ◌++◌, List, take}
use Rattle.plane_terms.specs.Lists.{Paired}
use Rattle.corner_terms.specs.declared.cell_corner.CellCorner.{CellCorner}
use Rattle.cell_corners.specs.Fractions.{IsToldAs}
use Rattle.cell_corners.proofs.listed.push_told.Given as goal

abbrev pub invariant-loop-i : goal.invariant-loop-i
invariant-loop-i l = (more : List CellCorner) × (l.found.items ≡ l.initial.found.items ++ more) × Paired (IsToldAs l.cell)
    (take l.i l.corners) more
