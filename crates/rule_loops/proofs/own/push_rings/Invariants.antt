use Rattle.std.proofs.Common.{◌≡◌, ◌++◌, drop}
use Rattle.shape.specs.Given.{rings_in}
use Rattle.rule_loops.proofs.own.push_rings.Given as goal

abbrev pub invariant-loop-ring : goal.invariant-loop-ring
invariant-loop-ring l =
    rings_in l.rings.items ++ rings_in (drop l.ring-index l.more) ≡ rings_in l.initial.rings.items ++ rings_in l.more
