use Rattle.std.proofs.Common.{take, drop, length, ◌≡◌}
use Rattle.dirty_area.specs.Cuts.{AreTrimmed}
use Rattle.dirty_area.proofs.left.drop_held_of_each.Given as goal

abbrev pub invariant-loop-i : goal.invariant-loop-i
invariant-loop-i l = AreTrimmed l.r (take l.i l.fn.changes.items) (take l.i l.changes.items)
    × (drop l.i l.changes.items ≡ drop l.i l.fn.changes.items) × (length l.changes.items ≡ length l.fn.changes.items)
