use Rattle.std.proofs.Common.{◌≡◌, ◌++◌, take}
use Rattle.topology_terms.specs.Cells as terms
use Rattle.rule_loops.proofs.pairs.push_rows.Given as goal

abbrev pub invariant-loop-segment : goal.invariant-loop-segment
invariant-loop-segment g l =
    l.cells ≡ l.initial.cells ++ terms.each_pair (g.C.Crossing.crossing l.crossing) (take l.segment-index l.segments) l.others
