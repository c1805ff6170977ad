use Rattle.std.proofs.Common.{take, length, get_or, map, [], ◌≡◌, ◌-◌, ◌^◌}
use Rattle.std.specs.Prelude.{min}
use Rattle.std.specs.List.{sum}
use Rattle.dirty_area.specs.Blocks.{runs}
use Rattle.dirty_area.proofs.cut.count_at.Given as goal

abbrev pub invariant-loop-place : goal.invariant-loop-place
invariant-loop-place l = l.count ≡ min (sum (map (λ k. length (get_or (runs l.blocks) k [])) (take l.place-index l.places))) (2 ^ 64 - 1)
