-- Features of too many parts, polygons with a hole, and features that leave a rectangle.
--
-- has_many_parts most f    the shape has more parts
-- most_parts k most    what the rule of this greatest number is seen as, of features of the kind k
-- has_hole f           a part has more than one ring: as it was given, since the rings of a polygon may stand in any part
-- no_hole              what the rule that a polygon has none is seen as
-- leaves r f           some vertex of the feature is outside the rectangle r
-- inside k r           what the rule that none does is seen as
use Rattle.std.specs.Prelude.{ℕ, ltb, Bool, not, ◌&&◌, List, length, codes}
use Rattle.std.specs.List.{list_any}
use Rattle.plane_terms.specs.Point.{Place}
use Rattle.plane_terms.specs.Rectangle.{Rectangle, is_within}
use Rattle.plane_terms.specs.declared.kind.Kind.{Kind}
use Rattle.plane_terms.specs.declared.kind.Kind.TheVariants as shapes
use Rattle.topology_terms.specs.Feature.{Feature, env}
use Rattle.topology_terms.specs.Causes.{same_kind}
use Rattle.outside_rule_terms.specs.Outside.{Outside}
use Rattle.registry_rules.specs.Alone.{alone}

abbrev pub has_many_parts : ℕ → Feature → Bool
has_many_parts most f = ltb most (length f.shape.parts)

abbrev pub most_parts : Kind → ℕ → Outside
most_parts k most = alone (codes "most_parts") k (has_many_parts most)

abbrev pub has_hole : Feature → Bool
has_hole f = same_kind f.shape.kind shapes.Polygon && list_any (λ (part : List (List Place)). ltb 1 (length part)) f.shape.parts

abbrev pub no_hole : Outside
no_hole = alone (codes "no_hole") shapes.Polygon has_hole

abbrev pub leaves : Rectangle → Feature → Bool
leaves r f = not (is_within (env f) r)

abbrev pub inside : Kind → Rectangle → Outside
inside k r = alone (codes "inside") k (leaves r)
