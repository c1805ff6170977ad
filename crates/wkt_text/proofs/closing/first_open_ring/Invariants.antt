use Rattle.std.proofs.Common.{◌≡◌, ◌+◌, drop}
use Rattle.shape.specs.Given.{rings_in as lists_of}
use Rattle.wkt_text.specs.Open.{first_open}
use Rattle.wkt_text.proofs.closing.first_open_ring.Given as goal

abbrev pub invariant-loop-ring : goal.invariant-loop-ring
invariant-loop-ring l =
    (l.number ≡ l.initial.number + l.ring-index)
    × (first_open l.number (lists_of (drop l.ring-index l.rings)) ≡ first_open l.initial.number (lists_of l.rings))
