use Rattle.std.proofs.Common.{◌≡◌, false, take}
use Rattle.std.specs.List.{list_any}
use Rattle.plane_terms.specs.Point.{same_place}
use Rattle.plane_terms.specs.Shape.{ends_of}
use Rattle.rule_core.proofs.ends.has_end_at.Given as goal

abbrev pub invariant-loop-i : goal.invariant-loop-i
invariant-loop-i l = list_any (same_place l.place) (take l.i (ends_of l.line)) ≡ false
