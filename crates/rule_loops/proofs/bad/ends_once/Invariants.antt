use Rattle.std.proofs.Common.{◌≡◌, take}
use Rattle.plane_terms.specs.Shape.{ends_of}
use Rattle.topology_terms.specs.Tests.{in_order_once}
use Rattle.rule_loops.proofs.bad.ends_once.Given as goal

abbrev pub invariant-loop-i : goal.invariant-loop-i
invariant-loop-i l = l.ends.items ≡ in_order_once (take l.i (ends_of l.line))
