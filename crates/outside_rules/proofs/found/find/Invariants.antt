use Rattle.std.proofs.Common.{◌≡◌, drop}
use Rattle.topology_terms.specs.Feature.{feature_at}
use Rattle.outside_rules.proofs.found.find.Given as goal

abbrev pub invariant-loop-i : goal.invariant-loop-i
invariant-loop-i l = feature_at (drop l.i l.view) l.handle ≡ feature_at l.view l.handle
