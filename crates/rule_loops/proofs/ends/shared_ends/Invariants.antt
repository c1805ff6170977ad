use Rattle.std.proofs.Common.{◌≡◌, ◌++◌, drop}
use Rattle.std.specs.List.{filter}
use Rattle.topology_terms.specs.Tests.{has_end_at}
use Rattle.plane_terms.specs.Shape.{ends_of}
use Rattle.rule_loops.proofs.ends.shared_ends.Given as goal

abbrev pub invariant-loop-i : goal.invariant-loop-i
invariant-loop-i l =
    l.places.items ++ filter (has_end_at (ends_of l.second)) (drop l.i (ends_of l.first))
    ≡ filter (has_end_at (ends_of l.second)) (ends_of l.first)
