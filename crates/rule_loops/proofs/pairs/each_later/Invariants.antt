use Rattle.std.proofs.Common.{◌≡◌, ◌++◌, drop}
use Rattle.topology_terms.specs.Cells as terms
use Rattle.rule_loops.proofs.pairs.each_later.Given as goal

abbrev pub invariant-loop-i : goal.invariant-loop-i
invariant-loop-i g l =
    let crossing = g.C.Crossing.crossing l.crossing in
    l.cells ++ terms.each_later crossing (drop l.i l.blocks) ≡ terms.each_later crossing l.blocks
