use Rattle.std.proofs.Common.{length, ◌≡◌}
use Rattle.std.specs.Prelude.{IfSome}
use Rattle.dirty_area.specs.Blocks.{IsNumber, runs}
use Rattle.dirty_area.specs.Cuts.{patched}
use Rattle.dirty_area.specs.Indexed.{IsIndexed}
use Rattle.dirty_area.proofs.cut.put_changes.Given as goal

abbrev pub invariant-loop-change : goal.invariant-loop-change
invariant-loop-change l = (runs l.blocks.items ≡ patched (runs l.initial.blocks.items) l.yielded)
    × (length l.blocks.items ≡ length l.initial.blocks.items) × IfSome l.finder (λ ps. IsIndexed (runs l.blocks.items) ps)
    × IsNumber l.blocks.items l.number
