use Rattle.std.proofs.Common.{[], ◌∷◌, take, get_or}
use Rattle.plane_terms.specs.Cell.{IsLeastFrame}
use Rattle.validation.proofs.frame.frame_of.Given as goal

abbrev pub invariant-loop-i : goal.invariant-loop-i
invariant-loop-i l = IsLeastFrame l.frame (get_or l.cells l.last [] ∷ take l.i l.cells)
