-- Polygons that are too small.
--
-- doubled_of s         twice the area between the origin and the segment, above 0 where it runs to the left of it
-- doubled_area_of ss   the sum of these: where holes run against their shells, twice the area, or that below 0
-- is_below least n     the absolute value of n is below the least number
-- is_small least f     the doubled area of the feature is below the least number
-- min_area least       what the rule of this least number is seen as
use Rattle.std.specs.Prelude.{ℕ, ℤ, pos, neg_ℤ, int_lt, ◌+ℤ◌, ◌-ℤ◌, ◌*ℤ◌, Bool, ◌&&◌, List, [], ◌∷◌, codes}
use Rattle.plane_terms.specs.Segment.{Segment, first_of, second_of}
use Rattle.plane_terms.specs.declared.kind.Kind.TheVariants as shapes
use Rattle.topology_terms.specs.Feature.{Feature, sides}
use Rattle.outside_rule_terms.specs.Outside.{Outside}
use Rattle.registry_rules.specs.Alone.{alone}

abbrev pub doubled_of : Segment → ℤ
doubled_of s = (first_of s).x *ℤ (second_of s).y -ℤ (first_of s).y *ℤ (second_of s).x

abbrev pub doubled_area_of : List Segment → ℤ
doubled_area_of [] = pos 0
doubled_area_of (s ∷ ss) = doubled_of s +ℤ doubled_area_of ss

abbrev pub is_below : ℕ → ℤ → Bool
is_below least n = int_lt (neg_ℤ (pos least)) n && int_lt n (pos least)

abbrev pub is_small : ℕ → Feature → Bool
is_small least f = is_below least (doubled_area_of (sides f))

abbrev pub min_area : ℕ → Outside
min_area least = alone (codes "min_doubled_area") shapes.Polygon (is_small least)
