use Rattle.std.proofs.Common.{◌⊎◌, take, Contains}
use Rattle.grid_index.specs.declared.placed.Placed.{Placed}
use Rattle.error_store.specs.Frames.{AreFramed, IsFrame}
use Rattle.error_store.proofs.frames.add_frames.Given as goal

abbrev pub invariant-loop-e : goal.invariant-loop-e
invariant-loop-e l = record {
  there : AreFramed l.index (take l.e-index l.entries);
  kept : (q : Placed) → Contains l.fn.index q → Contains l.index q;
  only : (q : Placed) → Contains l.index q → Contains l.fn.index q ⊎ IsFrame l.entries q;
}
