use Rattle.std.proofs.Common.{take, All}
use Rattle.convex_cell.specs.Middle.{HoldsAt}
use Rattle.convex_cell.proofs.trials.all_hold_at.Given as goal

abbrev pub invariant-loop-half : goal.invariant-loop-half
invariant-loop-half l = All (HoldsAt l.at) (take l.half-index l.halves)
