use Rattle.std.proofs.Common.{◌≡◌, ◌++◌, drop}
use Rattle.topology_terms.specs.Cells as terms
use Rattle.rule_loops.specs.Blocks.{between}
use Rattle.rule_loops.proofs.own_line.push_part.Given as goal

abbrev pub invariant-loop-i : goal.invariant-loop-i
invariant-loop-i l =
    let ts = l.line in
    l.cells ++ terms.in_part l.off (between l.i l.end ts) (drop l.end ts) ≡ l.initial.cells ++ terms.in_part l.off (between l.from l.end ts) (drop l.end ts)
