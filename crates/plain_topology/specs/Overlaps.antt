-- The rules on polygons that overlap, for the plain functions.
--
-- overlap_row class                Must Not Overlap for the class of this number
-- overlap_with_row class other     Must Not Overlap With, for the class and the other one
-- IsInsideOf F class h p           the live feature of the handle h is of the class, and p is inside its segments
use Rattle.std.specs.Prelude.{ℕ, List}
use Rattle.plane_terms.specs.Point.{Point}
use Rattle.plane_terms.specs.Polygon.{IsInside}
use Rattle.rule_words.specs.declared.rule_kind.RuleKind.TheVariants as kind
use Rattle.topology_terms.specs.Feature.{Feature, IsOf, no_side, sides}
use Rattle.topology_terms.specs.Broken.{Row}
use Rattle.plain_topology.specs.Plain.{whole_class}

abbrev pub overlap_row : ℕ → Row
overlap_row class = record { kind = kind.PolygonMustNotOverlap; origin = whole_class class; dest = no_side }

abbrev pub overlap_with_row : ℕ → ℕ → Row
overlap_with_row class other = record {
  kind = kind.PolygonMustNotOverlapWith;
  origin = whole_class class;
  dest = whole_class other;
}

pub record IsInsideOf (F : List Feature) (class h : ℕ) (p : Point) : Type 0 where
  pub f : Feature
  pub live : IsOf F (whole_class class) h f
  pub inside : IsInside (sides f) p
