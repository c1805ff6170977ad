-- A polygon has segments.
use Rattle.std.proofs.Common.{◌≡◌, ◌≢◌, ◌≤◌, List, [], ◌∷◌, ◌++◌, length, arith}
use Rattle.std.specs.Prelude.{flat_map}
use Rattle.plane_terms.specs.Lists.{Every}
use Rattle.plane_terms.specs.Point.{Place}
use Rattle.plane_terms.specs.Segment.{Segment}
use Rattle.plane_terms.specs.Shape.{Shape, IsShape, IsPart, IsRing, HasParts, closed_path, segments_by, segments_of}
use Rattle.plane_terms.specs.declared.kind.Kind.{Kind}
use Rattle.plane_terms.specs.declared.kind.Kind.TheVariants as kind

of_ring : (ring : List Place) (rest : List Segment) → 3 ≤ length ring → closed_path ring ++ rest ≢ []
of_ring [] rest l e = absurd (omega (arith, l))
of_ring (p ∷ []) rest l e = absurd (omega (arith, l))
of_ring (p ∷ q ∷ ps) rest l e = cc

of_parts : (parts : List (List (List Place))) → 1 ≤ length parts → Every (IsPart kind.Polygon) parts
    → Every (IsRing kind.Polygon) (flat_map (λ part. part) parts)
    → flat_map closed_path (flat_map (λ part. part) parts) ≢ []
of_parts [] l h k = absurd (omega (arith, l))
of_parts ([] ∷ parts) l h k = absurd (omega (arith, h.0))
of_parts ((ring ∷ part) ∷ parts) l h k = of_ring ring (flat_map closed_path (part ++ flat_map (λ part. part) parts)) k.0.0

pub has_boundary : (s : Shape) → IsShape s → s.kind ≡ kind.Polygon → segments_of s ≢ []
has_boundary s v e = by_kind s.kind s.parts e v.some v.parts v.rings
  where
    by_kind : (k : Kind) (parts : List (List (List Place))) → k ≡ kind.Polygon → HasParts k (length parts) → Every (IsPart k) parts
        → Every (IsRing k) (flat_map (λ part. part) parts) → segments_by k (flat_map (λ part. part) parts) ≢ []
    by_kind kind.Point parts e a b c = absurd cc
    by_kind kind.Line parts e a b c = absurd cc
    by_kind kind.Polygon parts e a b c = of_parts parts a b c
