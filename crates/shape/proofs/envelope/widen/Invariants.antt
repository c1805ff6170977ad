use Rattle.std.proofs.Common.{◌≡◌, drop}
use Rattle.plane_terms.specs.Lists.{Every}
use Rattle.plane_terms.specs.Point.{IsInReach}
use Rattle.plane_terms.specs.Shape.{box_from}
use Rattle.shape.proofs.envelope.widen.Given as goal

abbrev pub invariant-loop-place : goal.invariant-loop-place
invariant-loop-place l =
    (box_from l.wide (drop l.place-index l.places) ≡ box_from l.initial.wide l.places) × (Every IsInReach (drop l.place-index l.places)
    → Every IsInReach l.places)
