use Rattle.std.proofs.Common.{◌≡◌, ◌++◌, take}
use Rattle.plane_terms.specs.Shape.{ends_of}
use Rattle.rule_loops.proofs.ends.push_ends.Given as goal

abbrev pub invariant-loop-i : goal.invariant-loop-i
invariant-loop-i l = l.places.items ≡ l.initial.places.items ++ take l.i (ends_of l.shape)
