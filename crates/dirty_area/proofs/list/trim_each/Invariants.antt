use Rattle.std.proofs.Common.{ℕ, length, ◌≡◌}
use Rattle.std.specs.Prelude.{IfSome}
use Rattle.dirty_area.specs.Blocks.{IsNumber, runs, LastHasRoom}
use Rattle.dirty_area.specs.Indexed.{IsIndexed}
use Rattle.dirty_area.proofs.Changes.{trimmed_to}
use Rattle.dirty_area.proofs.list.trim_each.Given as goal

abbrev pub invariant-loop-place : goal.invariant-loop-place
invariant-loop-place l = (runs l.blocks.items ≡ trimmed_to l.r l.place (runs l.fn.blocks.items))
    × ((n : ℕ) → LastHasRoom l.fn.blocks.items n → LastHasRoom l.blocks.items n) × (length l.blocks.items ≡ length l.fn.blocks.items)
    × IfSome l.finder (λ ps. IsIndexed (runs l.blocks.items) ps) × IsNumber l.blocks.items l.number
