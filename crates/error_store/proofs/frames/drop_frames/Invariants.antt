use Rattle.std.proofs.Common.{Contains}
use Rattle.grid_index.specs.declared.placed.Placed.{Placed}
use Rattle.error_store.specs.FrameSets.{HasPlace}
use Rattle.error_store.proofs.Framing.{AreGone}
use Rattle.error_store.proofs.frames.drop_frames.Given as goal

abbrev pub invariant-loop-frame : goal.invariant-loop-frame
invariant-loop-frame l = record {
  gone : AreGone l.fn.index l.index l.frames (HasPlace l.staying) l.frame-index;
  kept : (q : Placed) → Contains l.fn.index q → (Contains l.frames q → HasPlace l.staying q) → Contains l.index q;
}
