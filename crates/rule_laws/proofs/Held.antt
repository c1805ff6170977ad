-- What is on a line, at an end of it or closed in a polygon lies in its envelope.
use Rattle.std.proofs.Common.{inl, inr, ℕ, ℤ, pos, ◌*ℤ◌, ◌≤ℤ◌, arith, List, [], ◌∷◌}
use Rattle.std.proofs.lemmas.Int.{ints}
use Rattle.plane_terms.specs.Lists.{Every, SomeOf}
use Rattle.plane_terms.specs.Point.{Place, Point, IsAt}
use Rattle.plane_terms.specs.Rectangle.{Rectangle, RectHolds, rect_at}
use Rattle.plane_terms.specs.Segment.{Segment, OnSegment, IsBetween}
use Rattle.plane_terms.specs.Shape.{box_from, box_of_places, vertices_of, first_place, envelope_of}
use Rattle.plane_terms.specs.Polygon.{IsInClosure}
use Rattle.plane_terms.specs.Line.{IsEnd}
use Rattle.plane_terms.specs.declared.kind.Kind.TheVariants as shapes
use Rattle.topology_terms.specs.Feature.{Feature, sides, place, env}
use Rattle.sound_laws.proofs.Planes.{scaled_le, within_Holds}
use Rattle.rule_laws.proofs.Envelopes.{box_grows, LiesIn, BothEnds, segments_ends, ends_in}
use Rattle.rule_laws.proofs.Crossings.{inside_held}
use Rattle.rule_laws.proofs.Families.{IsFit}

pub at_held : (q : Place) (p : Point) → IsAt q p → RectHolds (rect_at q) p
at_held q p i = record {
  left = omega (arith, ints, i.x);
  right = omega (arith, ints, i.x);
  below = omega (arith, ints, i.y);
  above = omega (arith, ints, i.y);
}

first_held : (ps : List Place) (p : Point) → IsAt (first_place ps) p → RectHolds (box_of_places ps) p
first_held [] p i = record {
  left = omega (arith, ints, i.x);
  right = omega (arith, ints, i.x);
  below = omega (arith, ints, i.y);
  above = omega (arith, ints, i.y);
}
first_held (q ∷ qs) p i = within_Holds (rect_at q) (box_from (rect_at q) qs) (box_grows (rect_at q) qs) p (at_held q p i)

-- a point is in the envelope of the feature that is at it
pub place_held : (f : Feature) (p : Point) → IsAt (place f) p → RectHolds (env f) p
unfolding envelope_of
place_held f p i = first_held (vertices_of f.shape) p i

pub some_each : {A : Type 0} (P Q : A → Type 0) (R : Type 0) → ((x : A) → P x → Q x → R) → (xs : List A) → Every P xs → SomeOf Q xs → R
some_each P Q R m [] k h = absurd h
some_each P Q R m (x ∷ xs) k h = elim h [ inl i ↦ m x k.0 i | inr i ↦ some_each P Q R m xs k.1 i ]

-- what is between two numbers is above what is below both, and below what is above both
pub low_held : (v lo hi x : ℤ) (w : ℕ) → v ≤ℤ lo → v ≤ℤ hi → IsBetween (lo *ℤ pos w) (hi *ℤ pos w) x → (v *ℤ pos w) ≤ℤ x
low_held v lo hi x w a b (inl h) = omega (arith, ints, scaled_le v lo w a, h.0)
low_held v lo hi x w a b (inr h) = omega (arith, ints, scaled_le v hi w b, h.0)

pub high_held : (v lo hi x : ℤ) (w : ℕ) → lo ≤ℤ v → hi ≤ℤ v → IsBetween (lo *ℤ pos w) (hi *ℤ pos w) x → x ≤ℤ (v *ℤ pos w)
high_held v lo hi x w a b (inl h) = omega (arith, ints, scaled_le hi v w b, h.1)
high_held v lo hi x w a b (inr h) = omega (arith, ints, scaled_le lo v w a, h.1)

segment_held : (r : Rectangle) (p : Point) (s : Segment) → BothEnds (LiesIn r) s → OnSegment s p → RectHolds r p
segment_held r p s b o = record {
  left = low_held r.x0 s.lo.x s.hi.x p.x p.w b.0.left b.1.left o.across;
  right = high_held r.x1 s.lo.x s.hi.x p.x p.w b.0.right b.1.right o.across;
  below = low_held r.y0 s.lo.y s.hi.y p.y p.w b.0.below b.1.below o.along;
  above = high_held r.y1 s.lo.y s.hi.y p.y p.w b.0.above b.1.above o.along;
}

-- on the line, or on the boundary
pub line_held : (f : Feature) (p : Point) → SomeOf (λ s. OnSegment s p) (sides f) → RectHolds (env f) p
line_held f p h = some_each (BothEnds (LiesIn (env f))) (λ s. OnSegment s p) (RectHolds (env f) p) (segment_held (env f) p) (sides f)
    (segments_ends f.shape) h

pub end_held : (f : Feature) (p : Point) → IsEnd f.shape p → RectHolds (env f) p
end_held f p h = some_each (LiesIn (env f)) (λ q. IsAt q p) (RectHolds (env f) p)
    (λ q i a. within_Holds (rect_at q) (env f) i p (at_held q p a)) _ (ends_in f.shape) h

pub closure_held : (f : Feature) (p : Point) → IsFit shapes.Polygon f → IsInClosure (sides f) p → RectHolds (env f) p
closure_held f p u (inl h) = inside_held f.shape u.kind p h
closure_held f p u (inr h) = line_held f p h
