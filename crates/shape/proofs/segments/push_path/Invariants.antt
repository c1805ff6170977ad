use Rattle.std.proofs.Common.{◌≡◌, ◌++◌, ◌∷◌, drop}
use Rattle.plane_terms.specs.Shape.{path, NextDiffer}
use Rattle.shape.proofs.segments.push_path.Given as goal

abbrev pub invariant-loop-to : goal.invariant-loop-to
invariant-loop-to l =
    NextDiffer (l.from ∷ drop l.to-index l.rest)
    × (l.segs.items ++ path (l.from ∷ drop l.to-index l.rest) ≡ l.initial.segs.items ++ path (l.initial.from ∷ l.rest))
