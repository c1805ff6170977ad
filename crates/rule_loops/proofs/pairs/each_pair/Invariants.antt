use Rattle.std.proofs.Common.{◌≡◌, ◌++◌}
use Rattle.topology_terms.specs.Cells as terms
use Rattle.rule_loops.specs.Blocks.{left_from}
use Rattle.rule_loops.proofs.pairs.each_pair.Given as goal

abbrev pub invariant-loop-k : goal.invariant-loop-k
invariant-loop-k g l =
    let crossing = g.C.Crossing.crossing l.crossing in
    l.cells ++ terms.each_pair crossing (left_from l.k l.blocks) l.others
    ≡ terms.each_pair crossing l.blocks l.others
