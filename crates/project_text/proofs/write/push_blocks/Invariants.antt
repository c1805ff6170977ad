use Rattle.std.proofs.Common.{◌≡◌, ◌++◌, take}
use Rattle.std.specs.Prelude.{flat_map}
use Rattle.dirty_area.specs.Blocks.{Block}
use Rattle.project_text.specs.Pushed.{dirty_text}
use Rattle.project_text.proofs.write.push_blocks.Given as goal

abbrev pub invariant-loop-block : goal.invariant-loop-block
invariant-loop-block l = l.out.items ≡ l.initial.out.items ++ flat_map (λ (b : Block). flat_map dirty_text b.items) (take l.block-index l.blocks)
