-- What every store keeps.
--
-- IsOfClass cs f   the class of the feature is one of these, and has the kind of its shape
-- IsGiven n f      the handle of the feature was given before the handle n
-- HasSimpleSides f the segments of the feature are proper; those of a polygon meet at ends alone, and there are some
-- IsStore cs F n   at most 64 classes, no two of one name; features ascend by handle, each of a class of its kind, under a handle that was
--                  given; each with simple sides
use Rattle.std.specs.Prelude.{◌≡◌, ◌≢◌, ℕ, ◌<◌, ◌≤◌, List, [], length, Some}
use Rattle.plane_terms.specs.Lists.{Every, EveryPair}
use Rattle.plane_terms.specs.Segment.{IsSegment}
use Rattle.plane_terms.specs.Polygon.{IsSimpleList}
use Rattle.plane_terms.specs.declared.kind.Kind.TheVariants as shapes
use Rattle.topology_terms.specs.Feature.{Class, Feature, IsAscending, sides}
use Rattle.topology_terms.specs.Lookups.{kind_of_class}

abbrev pub IsOfClass : List Class → Feature → Type 0
IsOfClass cs f = kind_of_class cs f.class ≡ Some f.shape.kind

pub record IsGiven (n : ℕ) (f : Feature) : Type 0 where
  pub from_1 : 1 ≤ f.handle
  pub before : f.handle < n

pub record HasSimpleSides (f : Feature) : Type 0 where
  pub proper : Every IsSegment (sides f)
  pub polygon : f.shape.kind ≡ shapes.Polygon → IsSimpleList (sides f)
  pub boundary : f.shape.kind ≡ shapes.Polygon → sides f ≢ []

abbrev pub AreUnlike : Class → Class → Type 0
AreUnlike c d = c.name ≢ d.name

pub record IsStore (cs : List Class) (F : List Feature) (next : ℕ) : Type 0 where
  pub few : length cs ≤ 64
  pub names : EveryPair AreUnlike cs
  pub ascending : IsAscending F
  pub given : Every (IsGiven next) F
  pub kinds : Every (IsOfClass cs) F
  pub simple : Every HasSimpleSides F
  pub from_1 : 1 ≤ next
