use Rattle.std.proofs.Common.{◌≡◌, take}
use Rattle.topology_terms.specs.Tests as terms
use Rattle.topology_terms.specs.Together.{of_side}
use Rattle.rule_loops.specs.Views.{up_to_three}
use Rattle.rule_loops.proofs.counts.ends_at.Given as goal

abbrev pub invariant-loop-i : goal.invariant-loop-i
invariant-loop-i l = l.count ≡ up_to_three (terms.ends_at (of_side l.side (take l.i l.view)) l.place)
