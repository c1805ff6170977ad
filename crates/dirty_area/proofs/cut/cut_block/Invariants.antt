use Rattle.std.proofs.Common.{drop, ◌+◌, ◌++◌, ◌≡◌}
use Rattle.dirty_area.specs.Blocks.{joined}
use Rattle.dirty_area.specs.Parts.{IsPartway}
use Rattle.dirty_area.proofs.cut.cut_block.Given as goal

abbrev pub invariant-loop-i : goal.invariant-loop-i
invariant-loop-i l = (l.dirt.runs ≡ l.fn.dirt.runs) × (l.dirt.next ≡ l.fn.dirt.next)
    × IsPartway (joined l.fn.dirt.runs) (drop l.i l.rects ++ joined (drop (l.fn.dirt.next + 1) l.fn.dirt.runs)) l.w l.dirt.left l.met.items l.round
