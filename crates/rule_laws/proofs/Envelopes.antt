-- The vertices of a shape, and the ends of its segments, lie in its envelope.
use Rattle.std.proofs.Common.{◌≡◌, refl, subst, Bool, true, false, List, [], ◌∷◌, ◌++◌}
use Rattle.std.specs.Prelude.{flat_map, if◌then◌else◌}
use Rattle.plane_terms.specs.Lists.{Every}
use Rattle.plane_terms.specs.Point.{Place}
use Rattle.plane_terms.specs.Rectangle.{Rectangle, IsWithin, rect_at, join_of}
use Rattle.plane_terms.specs.Segment.{Segment, comes_before, segment_between, first_of}
use Rattle.plane_terms.specs.Shape.{Shape, box_from, box_of_places, vertices_of, envelope_of, path, closed_path, segments_by, segments_of, rings_of, last_of, two_ends, ends_by, ends_of}
use Rattle.plane_terms.specs.declared.kind.Kind.{Kind}
use Rattle.plane_terms.specs.declared.kind.Kind.TheVariants as shapes
use Rattle.cell_laws.proofs.Lists.{all_append}
use Rattle.sound_laws.proofs.Planes.{within_self, within_trans}
use Rattle.validation_laws.proofs.Frames.{within_join_left, within_join_right}

-- a box only grows
pub box_grows : (r : Rectangle) (ps : List Place) → IsWithin r (box_from r ps)
box_grows r [] = within_self r
box_grows r (p ∷ ps) =
    within_trans r (join_of r (rect_at p)) (box_from (join_of r (rect_at p)) ps) (within_join_left r (rect_at p))
    (box_grows (join_of r (rect_at p)) ps)

-- the place lies in the rectangle
abbrev pub LiesIn : Rectangle → Place → Type 0
LiesIn r q = IsWithin (rect_at q) r

box_has : (r : Rectangle) (ps : List Place) → Every (LiesIn (box_from r ps)) ps
box_has r [] = tt
box_has r (p ∷ ps) =
    let s = join_of r (rect_at p) in
    (within_trans (rect_at p) s (box_from s ps) (within_join_right r (rect_at p)) (box_grows s ps), box_has s ps)

places_in : (ps : List Place) → Every (LiesIn (box_of_places ps)) ps
places_in [] = tt
places_in (p ∷ ps) = (box_grows (rect_at p) ps, box_has (rect_at p) ps)

pub vertices_in : (s : Shape) → Every (LiesIn (envelope_of s)) (vertices_of s)
unfolding envelope_of
vertices_in s = places_in (vertices_of s)

-- ---- what holds of the vertices holds of the ends of the segments
abbrev pub BothEnds : (Place → Type 0) → Segment → Type 0
BothEnds P s = P s.lo × P s.hi

between_ends : (P : Place → Type 0) (a b : Place) → P a → P b → BothEnds P (segment_between a b)
between_ends P a b h k = by_order (comes_before a b)
  where
    by_order : (t : Bool) → BothEnds P (if t then record { lo = a; hi = b; turned = false } else record { lo = b; hi = a; turned = true })
    by_order true = (h, k)
    by_order false = (k, h)

path_ends : (P : Place → Type 0) (ps : List Place) → Every P ps → Every (BothEnds P) (path ps)
path_ends P [] h = tt
path_ends P (p ∷ []) h = tt
path_ends P (p ∷ q ∷ ps) h = (between_ends P p q h.0 h.1.0, path_ends P (q ∷ ps) h.1)

closed_ends : (P : Place → Type 0) (ring : List Place) → Every P ring → Every (BothEnds P) (closed_path ring)
closed_ends P [] h = tt
closed_ends P (p ∷ ps) h = path_ends P (p ∷ ps ++ p ∷ []) ((all_append P (p ∷ ps) (p ∷ [])).1 (h, (h.0, tt)))

rings_ends : (P : Place → Type 0) (rings : List (List Place)) → Every P (flat_map (λ ring. ring) rings)
    → Every (BothEnds P) (flat_map closed_path rings)
rings_ends P [] h = tt
rings_ends P (ring ∷ rings) h =
    let k = (all_append P ring (flat_map (λ ring. ring) rings)).0 h in
    (all_append (BothEnds P) (closed_path ring) (flat_map closed_path rings)).1 (closed_ends P ring k.0, rings_ends P rings k.1)

-- in a ring each vertex is the one that a segment is drawn from
first_is : (a b : Place) → first_of (segment_between a b) ≡ a
first_is a b = by_order (comes_before a b)
  where
    by_order : (t : Bool)
        → first_of (if t then record { lo = a; hi = b; turned = false } else record { lo = b; hi = a; turned = true }) ≡ a
    by_order true = refl
    by_order false = refl

path_firsts : (P : Place → Type 0) (ps : List Place) (q : Place) → Every (λ t. P (first_of t)) (path (ps ++ q ∷ [])) → Every P ps
path_firsts P [] q h = tt
path_firsts P (p ∷ []) q h = (subst P (first_is p q) h.0, tt)
path_firsts P (p ∷ r ∷ ps) q h = (subst P (first_is p r) h.0, path_firsts P (r ∷ ps) q h.1)

closed_firsts : (P : Place → Type 0) (ring : List Place) → Every (λ t. P (first_of t)) (closed_path ring) → Every P ring
closed_firsts P [] h = tt
closed_firsts P (p ∷ ps) h = path_firsts P (p ∷ ps) p h

rings_firsts : (P : Place → Type 0) (rings : List (List Place)) → Every (λ t. P (first_of t)) (flat_map closed_path rings)
    → Every (BothEnds P) (flat_map closed_path rings)
rings_firsts P [] h = tt
rings_firsts P (ring ∷ rings) h =
    let k = (all_append (λ t. P (first_of t)) (closed_path ring) (flat_map closed_path rings)).0 h in
    (all_append (BothEnds P) (closed_path ring) (flat_map closed_path rings)).1
    (closed_ends P ring (closed_firsts P ring k.0), rings_firsts P rings k.1)

-- so what holds of the first ends of a polygon's segments holds of both
pub firsts_both : (P : Place → Type 0) (s : Shape) → s.kind ≡ shapes.Polygon → Every (λ t. P (first_of t)) (segments_of s)
    → Every (BothEnds P) (segments_of s)
firsts_both P s e h = by_kind s.kind (rings_of s) e h
  where
    by_kind : (k : Kind) (rings : List (List Place)) → k ≡ shapes.Polygon → Every (λ t. P (first_of t)) (segments_by k rings)
        → Every (BothEnds P) (segments_by k rings)
    by_kind shapes.Point rings e h = tt
    by_kind shapes.Line rings e h = absurd (cc e)
    by_kind shapes.Polygon rings e h = rings_firsts P rings h

-- those of a line's
paths_ends : (P : Place → Type 0) (rings : List (List Place)) → Every P (flat_map (λ ring. ring) rings)
    → Every (BothEnds P) (flat_map path rings)
paths_ends P [] h = tt
paths_ends P (ring ∷ rings) h =
    let k = (all_append P ring (flat_map (λ ring. ring) rings)).0 h in
    (all_append (BothEnds P) (path ring) (flat_map path rings)).1 (path_ends P ring k.0, paths_ends P rings k.1)

-- those of any shape's
pub segments_ends : (s : Shape) → Every (BothEnds (LiesIn (envelope_of s))) (segments_of s)
segments_ends s = by_kind (LiesIn (envelope_of s)) s.kind (rings_of s) (vertices_in s)
  where
    by_kind : (P : Place → Type 0) (k : Kind) (rings : List (List Place)) → Every P (flat_map (λ ring. ring) rings)
        → Every (BothEnds P) (segments_by k rings)
    by_kind P shapes.Point rings h = tt
    by_kind P shapes.Line rings h = paths_ends P rings h
    by_kind P shapes.Polygon rings h = rings_ends P rings h

-- and its ends
last_has : (P : Place → Type 0) (p : Place) (ps : List Place) → P p → Every P ps → P (last_of p ps)
last_has P p [] h k = h
last_has P p (q ∷ qs) h k = last_has P q qs k.0 k.1

ends_have : (P : Place → Type 0) (rings : List (List Place)) → Every P (flat_map (λ ring. ring) rings) → Every P (flat_map two_ends rings)
ends_have P [] h = tt
ends_have P ([] ∷ rings) h = ends_have P rings h
ends_have P ((p ∷ ps) ∷ rings) h =
    let k = (all_append P (p ∷ ps) (flat_map (λ ring. ring) rings)).0 h in
    (k.0.0, (last_has P p ps k.0.0 k.0.1, ends_have P rings k.1))

pub ends_in : (s : Shape) → Every (LiesIn (envelope_of s)) (ends_of s)
ends_in s = by_kind (LiesIn (envelope_of s)) s.kind (rings_of s) (vertices_in s)
  where
    by_kind : (P : Place → Type 0) (k : Kind) (rings : List (List Place)) → Every P (flat_map (λ ring. ring) rings)
        → Every P (ends_by k rings)
    by_kind P shapes.Point rings h = tt
    by_kind P shapes.Line rings h = ends_have P rings h
    by_kind P shapes.Polygon rings h = tt
