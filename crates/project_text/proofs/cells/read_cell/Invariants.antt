use Rattle.std.proofs.Common.{length}
use Rattle.project_text.specs.Reading.{left}
use Rattle.project_text.proofs.Halves.{HalvesRead}
use Rattle.project_text.proofs.cells.read_cell.Given as goal

abbrev pub invariant-loop-more : goal.invariant-loop-more
invariant-loop-more l = HalvesRead (left l.rest) l.halves.items l.within l.more l.left

abbrev pub decreases-loop-more : goal.decreases-loop-more
decreases-loop-more l = length l.left
