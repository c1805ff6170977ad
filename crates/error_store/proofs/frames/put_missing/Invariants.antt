use Rattle.std.proofs.Common.{◌⊎◌, take, Contains}
use Rattle.grid_index.specs.declared.placed.Placed.{Placed}
use Rattle.error_store.proofs.Framing.{Holds}
use Rattle.error_store.proofs.frames.put_missing.Given as goal

abbrev pub invariant-loop-frame : goal.invariant-loop-frame
invariant-loop-frame l = record {
  kept : Holds l.fn.index l.index;
  there : Holds (take l.frame-index l.frames) l.index;
  only : (q : Placed) → Contains l.index q → Contains l.fn.index q ⊎ Contains l.frames q;
}
