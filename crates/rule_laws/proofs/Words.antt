-- What a condition of a rule says of a subject, and of another feature.
--
-- BothOn p s t         p is on both segments
-- Runs p s t           they overlap, and p is on both
-- OnSides f p          p is on a segment of f; AtEnd: at an end of it; AtPlace: at the place of a point
-- Stretch, Overlay     two lines have segments that overlap and hold p; a line has two such of its own
-- Crosses p rings      two segments of a line hold p, told by recursion over its parts; `IsCrossed` says it by numbers
use Rattle.std.specs.Prelude.{◌⊎◌, ◌<◌, length, List, [], ◌∷◌, ◌++◌, flat_map}
use Rattle.plane_terms.specs.Lists.{SomeOf, SomePair, AreMany}
use Rattle.plane_terms.specs.Point.{Place, Point, IsAt}
use Rattle.plane_terms.specs.Segment.{Segment, OnSegment, Overlap}
use Rattle.plane_terms.specs.Polygon.{IsInside, IsInClosure}
use Rattle.plane_terms.specs.Shape.{path, rings_of}
use Rattle.topology_terms.specs.Feature.{Feature, sides, place}
use Rattle.topology_terms.specs.Together.{ends, sides_all, ends_all}

abbrev pub BothOn : Point → Segment → Segment → Type 0
BothOn p s t = OnSegment s p × OnSegment t p

abbrev pub Runs : Point → Segment → Segment → Type 0
Runs p s t = Overlap s t × OnSegment s p × OnSegment t p

abbrev pub OnSides : Feature → Point → Type 0
OnSides f p = SomeOf (λ s. OnSegment s p) (sides f)

abbrev pub AtEnd : Feature → Point → Type 0
AtEnd f p = SomeOf (λ q. IsAt q p) (ends f)

abbrev pub Stretch : Feature → Feature → Point → Type 0
Stretch f g p = SomeOf (λ s. SomeOf (Runs p s) (sides g)) (sides f)

abbrev pub BothInner : Feature → Feature → Point → Type 0
BothInner f g p = (OnSides f p × ¬ (AtEnd f p)) × (OnSides g p × ¬ (AtEnd g p))

abbrev pub BothNotEnds : Feature → Feature → Point → Type 0
BothNotEnds f g p = OnSides f p × OnSides g p × ¬ (AtEnd f p × AtEnd g p)

abbrev pub Overlay : Feature → Point → Type 0
Overlay f p = SomePair (Runs p) (sides f)

-- p is on s, and on a later segment that is not the next of its part, or that s overlaps
abbrev pub MeetsLater : Point → Segment → List Segment → List Segment → Type 0
MeetsLater p s [] later = SomeOf (λ t. OnSegment t p) later
MeetsLater p s (t ∷ ts) later = (Overlap s t × OnSegment t p) ⊎ SomeOf (λ u. OnSegment u p) (ts ++ later)

abbrev pub PartCrosses : Point → List Segment → List Segment → Type 0
PartCrosses p [] later = ⊥
PartCrosses p (s ∷ ss) later = (OnSegment s p × MeetsLater p s ss later) ⊎ PartCrosses p ss later

abbrev pub Crosses : Point → List (List Place) → Type 0
Crosses p [] = ⊥
Crosses p (ring ∷ rings) = PartCrosses p (path ring) (flat_map path rings) ⊎ Crosses p rings

abbrev pub Crossing : Feature → Point → Type 0
Crossing f p = Crosses p (rings_of f.shape) × ¬ (AtEnd f p)

abbrev pub AtPlace : Feature → Point → Type 0
AtPlace f p = IsAt (place f) p

-- one segment of all these lines holds p
abbrev pub IsLoose : List Feature → Point → Type 0
IsLoose gs p = AreMany (λ (t : Segment). OnSegment t p) (sides_all gs) 1

-- two ends and two segments of all these lines are at p
abbrev pub IsJoint : List Feature → Point → Type 0
IsJoint gs p = AreMany (λ (q : Place). IsAt q p) (ends_all gs) 2 × AreMany (λ (t : Segment). OnSegment t p) (sides_all gs) 2

-- two polygons have an inside point in common; two points are at one place
abbrev pub BothInside : Feature → Feature → Point → Type 0
BothInside f g p = IsInside (sides f) p × IsInside (sides g) p

abbrev pub BothAt : Feature → Feature → Point → Type 0
BothAt f g p = AtPlace f p × AtPlace g p

-- each point closed in f is closed in g
abbrev pub IsCoveredBy : Feature → Feature → Type 0
IsCoveredBy f g = (p : Point) → IsInClosure (sides f) p → IsInClosure (sides g) p

-- the place of g is inside f
abbrev pub HasInside : Feature → Feature → Type 0
HasInside f g = (p : Point) × IsAt (place g) p × IsInside (sides f) p

abbrev pub HasParts : Feature → Type 0
HasParts f = 1 < length f.shape.parts
