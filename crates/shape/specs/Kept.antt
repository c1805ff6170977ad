-- The vertices that are kept of the given ones.
--
-- rings_by k rings    of each ring the vertices that a shape of the kind k keeps
-- parts_by k parts    the same for each part; so `shape_of k parts` has the parts `parts_by k parts`
-- IsClosing ring      no vertex of the ring is at the next, nor the last at the first
use Rattle.std.specs.Prelude.{List, [], ◌∷◌, ◌++◌, map}
use Rattle.plane_terms.specs.Point.{Place}
use Rattle.plane_terms.specs.Shape.{ring_by, NextDiffer, first_place}
use Rattle.plane_terms.specs.declared.kind.Kind.{Kind}

abbrev pub rings_by : Kind → List (List Place) → List (List Place)
rings_by k rings = map (ring_by k) rings

abbrev pub parts_by : Kind → List (List (List Place)) → List (List (List Place))
parts_by k parts = map (λ part. rings_by k part) parts

abbrev pub IsClosing : List Place → Type 0
IsClosing ring = NextDiffer (ring ++ first_place ring ∷ [])
