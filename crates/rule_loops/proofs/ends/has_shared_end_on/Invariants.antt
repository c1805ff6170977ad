use Rattle.std.proofs.Common.{◌≡◌, false, take}
use Rattle.std.specs.Prelude.{◌&&◌}
use Rattle.std.specs.List.{list_any}
use Rattle.plane_terms.specs.Point.{Place}
use Rattle.plane_terms.specs.Shape.{ends_of}
use Rattle.topology_terms.specs.Cells.{on_both}
use Rattle.topology_terms.specs.Tests.{has_end_at}
use Rattle.rule_loops.proofs.ends.has_shared_end_on.Given as goal

abbrev pub invariant-loop-i : goal.invariant-loop-i
invariant-loop-i l =
    list_any (λ (q : Place). has_end_at (ends_of l.other) q && on_both l.first l.second q) (take l.i (ends_of l.line)) ≡ false
