use Rattle.std.proofs.Common.{drop, length, ◌≡◌, ◌≤◌, []}
use Rattle.dirty_area.specs.Blocks.{runs, joined, all_rects}
use Rattle.dirty_area.specs.Parts.{IsPartway}
use Rattle.dirty_area.proofs.Sweeps.{AreToCome}
use Rattle.dirty_area.proofs.cut.taken_of.Given as goal

abbrev pub invariant-loop-place : goal.invariant-loop-place
invariant-loop-place l = (l.dirt.runs ≡ runs l.blocks) × (l.dirt.begun ≡ []) × (l.dirt.next ≤ length l.blocks)
    × AreToCome (runs l.blocks) l.w l.places l.place-index l.dirt.next
    × IsPartway (all_rects l.blocks) (joined (drop l.dirt.next (runs l.blocks))) l.w l.dirt.left l.met.items l.round
