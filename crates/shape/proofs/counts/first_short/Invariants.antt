use Rattle.std.proofs.Common.{◌≡◌, ◌+◌, drop}
use Rattle.shape.specs.Given.{rings_in}
use Rattle.shape.specs.Counts.{first_short}
use Rattle.shape.proofs.counts.first_short.Given as goal

abbrev pub invariant-loop-ring : goal.invariant-loop-ring
invariant-loop-ring l =
    (l.number ≡ l.initial.number + l.ring-index)
    × (first_short l.least l.number (rings_in (drop l.ring-index l.rings)) ≡ first_short l.least l.initial.number (rings_in l.rings))
