use Rattle.std.proofs.Common.{◌≡◌, ◌+◌, length, drop}
use Rattle.shape.specs.Given.{rings_in, all_vertices}
use Rattle.shape.proofs.counts.count_vertices.Given as goal

abbrev pub invariant-loop-ring : goal.invariant-loop-ring
invariant-loop-ring l =
    l.count + length (all_vertices (rings_in (drop l.ring-index l.rings))) ≡ l.initial.count + length (all_vertices (rings_in l.rings))
