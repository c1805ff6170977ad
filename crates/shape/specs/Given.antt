-- Parts as the code holds them, seen as lists.
--
-- rings_in rings      rings, or the parts of a line, as lists of vertices
-- lines_in parts      the parts of a line: each is one ring
-- polygons_in parts   the parts of a polygon: each is a list of rings
-- all_rings parts, all_vertices rings     part by part, and ring by ring
-- IsCountable parts   there are fewer than 2^32 rings and fewer than 2^32 vertices, so that a fault can tell their number
use Rattle.std.specs.Prelude.{Vec, ◌<◌, ◌^◌, List, [], ◌∷◌, length, flat_map, map}
use Rattle.std.specs.Global.{Global}
use Rattle.plane_terms.specs.Point.{Place}

abbrev pub Ring : Type 0
Ring = Vec Place Global

abbrev pub rings_in : List Ring → List (List Place)
rings_in rings = map (λ ring. ring.items) rings

abbrev pub lines_in : List Ring → List (List (List Place))
lines_in parts = map (λ part. part.items ∷ []) parts

abbrev pub polygons_in : List (Vec Ring Global) → List (List (List Place))
polygons_in parts = map (λ part. rings_in part.items) parts

abbrev pub all_rings : List (List (List Place)) → List (List Place)
all_rings parts = flat_map (λ part. part) parts

abbrev pub all_vertices : List (List Place) → List Place
all_vertices rings = flat_map (λ ring. ring) rings

pub record IsCountable (parts : List (List (List Place))) : Type 0 where
  pub rings : length (all_rings parts) < 2 ^ 32
  pub vertices : length (all_vertices (all_rings parts)) < 2 ^ 32
