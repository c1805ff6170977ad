-- Features that have too many vertices, or that are too narrow. Lengths are in grid units.
--
-- has_many_vertices most f    the shape has more vertices; a ring's first is not counted again at its end
-- most_vertices k most        what the rule of this greatest number is seen as, of features of the kind k
-- width_of f           the shorter side of the feature's envelope
-- is_narrow least f    it is below the least width
-- min_width k least    what the rule of this least width is seen as
use Rattle.std.specs.Prelude.{ℕ, ltb, min, unsigned_abs, ◌-ℤ◌, Bool, length, codes}
use Rattle.plane_terms.specs.Shape.{vertices_of}
use Rattle.plane_terms.specs.declared.kind.Kind.{Kind}
use Rattle.topology_terms.specs.Feature.{Feature, env}
use Rattle.outside_rule_terms.specs.Outside.{Outside}
use Rattle.registry_rules.specs.Alone.{alone}

abbrev pub has_many_vertices : ℕ → Feature → Bool
has_many_vertices most f = ltb most (length (vertices_of f.shape))

abbrev pub most_vertices : Kind → ℕ → Outside
most_vertices k most = alone (codes "most_vertices") k (has_many_vertices most)

abbrev pub width_of : Feature → ℕ
width_of f = min (unsigned_abs ((env f).x1 -ℤ (env f).x0)) (unsigned_abs ((env f).y1 -ℤ (env f).y0))

abbrev pub is_narrow : ℕ → Feature → Bool
is_narrow least f = ltb (width_of f) least

abbrev pub min_width : Kind → ℕ → Outside
min_width k least = alone (codes "min_width") k (is_narrow least)
