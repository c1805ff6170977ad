-- All vertices of one place, moved together.
--
-- moved_place from to v      `to` where v is `from`, else v
-- moved_shape from to s      the shape of the moved vertices, made anew: neighbours that have become equal are kept once
-- has_vertex q s             a vertex of the shape is at q
-- touching q F               the features with a vertex at q, in their order
-- moves from to F            the plan: each of these, moved
-- may_move from to F         the two places differ, and a feature has a vertex at the first
-- moved_feature from to f    the feature moved, if it has a vertex at `from`, else as it is
-- HasMoved                   what holds of the features after the plan
use Rattle.std.specs.Prelude.{Bool, false, ◌&&◌, not, ◌≡◌, ℕ, List, [], ◌∷◌, map, filter, Some, if◌then◌else◌}
use Rattle.std.specs.Option.{option_map}
use Rattle.std.specs.List.{list_any}
use Rattle.plane_terms.specs.Point.{Place, same_place}
use Rattle.plane_terms.specs.Shape.{Shape, shape_of, vertices_of}
use Rattle.topology_terms.specs.Feature.{Feature, feature_at}
use Rattle.fix_terms.specs.Plans.{Edit}
use Rattle.fix_terms.specs.declared.edit.Edit.TheVariants.{Put}

abbrev pub moved_place : Place → Place → Place → Place
moved_place from to v = if same_place v from then to else v

abbrev pub moved_rings : Place → Place → List (List Place) → List (List Place)
moved_rings from to rings = map (λ ring. map {A = Place} (moved_place from to) ring) rings

abbrev pub moved_parts : Place → Place → List (List (List Place)) → List (List (List Place))
moved_parts from to parts = map (λ part. moved_rings from to part) parts

abbrev pub moved_shape : Place → Place → Shape → Shape
moved_shape from to s = shape_of s.kind (moved_parts from to s.parts)

abbrev pub has_vertex : Place → Shape → Bool
has_vertex q s = list_any (λ v. same_place v q) (vertices_of s)

abbrev pub touching : Place → List Feature → List Feature
touching q F = filter (λ (f : Feature). has_vertex q f.shape) F

abbrev pub moves : Place → Place → List Feature → List Edit
moves from to [] = []
moves from to (f ∷ fs) = if has_vertex from f.shape then Put f.handle (moved_shape from to f.shape) ∷ moves from to fs else moves from to fs

abbrev pub may_move : Place → Place → List Feature → Bool
may_move from to F = not (same_place to from) && list_any (λ (f : Feature). has_vertex from f.shape) F

abbrev pub moved_feature : Place → Place → Feature → Feature
moved_feature from to f = if has_vertex from f.shape then record f { shape = moved_shape from to f.shape } else f

-- each feature with a vertex at `from` is moved, the others stay, and none is left with a vertex there
pub record HasMoved (from to : Place) (F G : List Feature) : Type 0 where
  pub each : (k : ℕ) → feature_at G k ≡ option_map (moved_feature from to) (feature_at F k)
  pub gone : (k : ℕ) (g : Feature) → feature_at G k ≡ Some g → has_vertex from g.shape ≡ false
