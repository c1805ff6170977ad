use Rattle.std.proofs.Common.{◌≡◌, ◌++◌, take}
use Rattle.plane_terms.specs.Lists.{Every}
use Rattle.plane_terms.specs.ShapeFaults.{IsFlawless}
use Rattle.feature_store.specs.Slots.{filled}
use Rattle.fix_terms.specs.Plans.{shapes_of}
use Rattle.fix_terms.specs.Move.{moves}
use Rattle.fix_tools.proofs.moves.push_slots.Given as goal

abbrev pub invariant-loop-slot : goal.invariant-loop-slot
invariant-loop-slot l = record {
  edits : l.edits.items ≡ l.initial.edits.items ++ moves l.from l.to (filled (take l.slot-index l.slots));
  flawless : Every IsFlawless (shapes_of (moves l.from l.to (filled (take l.slot-index l.slots))));
}
