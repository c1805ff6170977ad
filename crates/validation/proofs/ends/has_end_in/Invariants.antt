use Rattle.std.proofs.Common.{◌≡◌, false, take}
use Rattle.std.specs.List.{list_any}
use Rattle.plane_terms.specs.Point.{Place}
use Rattle.plane_terms.specs.Rectangle.{rect_at, is_within}
use Rattle.plane_terms.specs.Shape.{ends_of}
use Rattle.validation.proofs.ends.has_end_in.Given as goal

abbrev pub invariant-loop-i : goal.invariant-loop-i
invariant-loop-i l = list_any (λ (q : Place). is_within (rect_at q) l.r) (take l.i (ends_of l.line)) ≡ false
