use Rattle.std.proofs.Common.{◌≡◌, ◌++◌, drop}
use Rattle.topology_terms.specs.Cells as terms
use Rattle.rule_loops.proofs.crossings.push_part.Given as goal

abbrev pub invariant-loop-i : goal.invariant-loop-i
invariant-loop-i l =
    l.cells ++ terms.in_part l.off (drop l.i l.part) l.later ≡ l.initial.cells ++ terms.in_part l.off l.part l.later
