use Rattle.std.proofs.Common.{ℕ, length, ◌≡◌}
use Rattle.std.specs.Prelude.{IfSome}
use Rattle.dirty_area.specs.Blocks.{IsNumber, runs, LastHasRoom}
use Rattle.dirty_area.specs.Indexed.{IsIndexed}
use Rattle.dirty_area.proofs.Trims.{AreTaken}
use Rattle.dirty_area.proofs.list.trim_near.Given as goal

abbrev pub invariant-loop-place : goal.invariant-loop-place
invariant-loop-place l = record {
  taken : AreTaken l.r (runs l.fn.blocks.items) l.places l.place-index (runs l.blocks.items);
  room : (n : ℕ) → LastHasRoom l.fn.blocks.items n → LastHasRoom l.blocks.items n;
  len : length l.blocks.items ≡ length l.fn.blocks.items;
  indexed : IfSome l.finder (λ ps. IsIndexed (runs l.blocks.items) ps);
  number : IsNumber l.blocks.items l.number;
}
