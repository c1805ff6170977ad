use Rattle.std.proofs.Common.{◌≡◌, ◌++◌, take}
use Rattle.std.specs.Prelude.{flat_map}
use Rattle.rule_loops.proofs.pairs.push_row.Given as goal

abbrev pub invariant-loop-other : goal.invariant-loop-other
invariant-loop-other g l = l.cells ≡ l.initial.cells ++ flat_map (g.C.Crossing.crossing l.crossing l.segment) (take l.other-index l.others)
