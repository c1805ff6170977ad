use Rattle.std.proofs.Common.{take}
use Rattle.rule_loops.specs.Rightward.{IsStrict}
use Rattle.rule_loops.proofs.open.is_strict.Given as goal

abbrev pub invariant-loop-i : goal.invariant-loop-i
invariant-loop-i l = IsStrict (take l.i l.cell)
