use Rattle.std.proofs.Common.{◌≡◌, ◌++◌}
use Rattle.std.specs.Prelude.{flat_map}
use Rattle.rule_loops.specs.Blocks.{left_from}
use Rattle.rule_loops.proofs.pairs.push_blocks.Given as goal

abbrev pub invariant-loop-k : goal.invariant-loop-k
invariant-loop-k g l =
    l.cells ++ flat_map (g.C.Crossing.crossing l.crossing l.segment) (left_from l.k l.blocks)
    ≡ l.initial.cells ++ flat_map (g.C.Crossing.crossing l.crossing l.segment) (left_from l.first l.blocks)
