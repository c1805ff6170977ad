-- Shapes with moved vertices, as the code makes them.
use Rattle.std.proofs.Common.{◌≡◌, ℕ, ◌+◌, ◌<◌, ◌≤◌, List, [], ◌∷◌, ◌++◌, length, get_or, map, take, arith, refl, sym, ap, ◌∙◌, Vec, length-append}
use Rattle.std.specs.Global.{Global}
use Rattle.std.proofs.lemmas.List.{take_more, length-map}
use Rattle.plane_terms.specs.Lists.{Every}
use Rattle.plane_terms.specs.Point.{Place}
use Rattle.plane_terms.specs.Shape.{Shape, point_shape, shape_of, rings_of, vertices_of, IsShape, IsRing}
use Rattle.plane_terms.specs.declared.kind.Kind.{Kind}
use Rattle.plane_terms.specs.declared.kind.Kind.TheVariants as kind
use Rattle.shape.specs.Given.{Ring, rings_in, lines_in, polygons_in, all_rings, all_vertices, IsCountable}
use Rattle.shape.proofs.Made.{line_parts as made_parts}
use Rattle.fix_terms.specs.Move.{moved_place, moved_rings, moved_parts, moved_shape}
use Rattle.fix_tools.proofs.LineParts.{map_more}

pub map_map : {A B C : Type 0} (f : B → C) (g : A → B) (xs : List A) → map f (map g xs) ≡ map (λ x. f (g x)) xs
map_map f g [] = refl
map_map f g (x ∷ xs) = ap (λ ys. f (g x) ∷ ys) (map_map f g xs)

-- one more
pub grown : {A B : Type 0} (f : A → B) (xs : List A) (i : ℕ) (x : A) (ms new : List B) → i < length xs → x ≡ get_or xs i x
    → ms ≡ map f (take i xs) → new ≡ ms ++ f x ∷ [] → new ≡ map f (take (i + 1) xs)
grown f xs i x ms new h e k n =
    n ∙ ap (λ ys. ys ++ f x ∷ []) k ∙ sym (map_more f (take i xs) x)
    ∙ ap (λ ys. map f ys) (sym (take_more xs i x h ∙ ap (λ y. take i xs ++ y ∷ []) (sym e)))

abbrev pub ring_moved_of : Place → Place → Ring → List Place
ring_moved_of from to ring = map {A = Place} (moved_place from to) ring.items

abbrev pub part_moved_of : Place → Place → Vec Ring Global → List (List Place)
part_moved_of from to part = moved_rings from to (rings_in part.items)

pub rings_end : (from to : Place) (rings : List Ring) → map (ring_moved_of from to) rings ≡ moved_rings from to (rings_in rings)
rings_end from to rings = sym (map_map (λ (ring : List Place). map {A = Place} (moved_place from to) ring) (λ (ring : Ring). ring.items) rings)

pub parts_end : (from to : Place) (parts : List (Vec Ring Global)) → map (part_moved_of from to) parts ≡ moved_parts from to (polygons_in parts)
parts_end from to parts = sym (map_map (moved_rings from to) (λ (part : Vec Ring Global). rings_in part.items) parts)

-- ---- lines

single : List (List Place) → List (List (List Place))
single rings = map {A = List Place} (λ ring. ring ∷ []) rings

pub line_moved : (from to : Place) (s : Shape) (given new : List Ring) → s.kind ≡ kind.Line → lines_in given ≡ s.parts
    → rings_in new ≡ moved_rings from to (rings_in given) → shape_of kind.Line (lines_in new) ≡ moved_shape from to s
line_moved from to s given new k p e =
    let f : List Place → List Place = λ ring. map {A = Place} (moved_place from to) ring in
    let parts : lines_in new ≡ moved_parts from to s.parts =
    made_parts new ∙ ap (λ (rs : List (List Place)). map {A = List Place} (λ ring. ring ∷ []) rs) e
    ∙ map_map (λ (ring : List Place). ring ∷ []) f (rings_in given)
    ∙ sym (map_map (moved_rings from to) (λ (ring : List Place). ring ∷ []) (rings_in given))
    ∙ ap (λ (ps : List (List (List Place))). moved_parts from to ps) (sym (made_parts given) ∙ p) in
    ap (λ (ps : List (List (List Place))). shape_of kind.Line ps) parts ∙ ap (λ (m : Kind). shape_of m (moved_parts from to s.parts)) (sym k)

pub polygon_moved : (from to : Place) (s : Shape) (given new : List (Vec Ring Global)) → s.kind ≡ kind.Polygon → polygons_in given ≡ s.parts
    → polygons_in new ≡ moved_parts from to (polygons_in given) → shape_of kind.Polygon (polygons_in new) ≡ moved_shape from to s
polygon_moved from to s given new k p e =
    ap (λ (ps : List (List (List Place))). shape_of kind.Polygon ps) (e ∙ ap (λ (ps : List (List (List Place))). moved_parts from to ps) p)
    ∙ ap (λ (m : Kind). shape_of m (moved_parts from to s.parts)) (sym k)

pub point_moved : (from to : Place) (s : Shape) (q : Place) → s ≡ point_shape q → point_shape (moved_place from to q) ≡ moved_shape from to s
point_moved from to s q e = ap (λ (t : Shape). moved_shape from to t) (sym e)

-- ---- how many there are

all_moved : (from to : Place) (parts : List (List (List Place))) → all_rings (moved_parts from to parts) ≡ moved_rings from to (all_rings parts)
all_moved from to [] = refl
all_moved from to (p ∷ ps) = ap (λ (rs : List (List Place)). moved_rings from to p ++ rs) (all_moved from to ps) ∙ joined p (all_rings ps)
  where
    joined : (us vs : List (List Place)) → moved_rings from to us ++ moved_rings from to vs ≡ moved_rings from to (us ++ vs)
    joined [] vs = refl
    joined (u ∷ us) vs = ap (λ (rs : List (List Place)). map {A = Place} (moved_place from to) u ∷ rs) (joined us vs)

vertices_same : (from to : Place) (rings : List (List Place)) → length (all_vertices (moved_rings from to rings)) ≡ length (all_vertices rings)
vertices_same from to [] = refl
vertices_same from to (r ∷ rs) =
    let a = length-append (map {A = Place} (moved_place from to) r) (all_vertices (moved_rings from to rs)) in
    let b = length-append r (all_vertices rs) in
    let c = length-map r (moved_place from to) in
    let d = vertices_same from to rs in
    omega (arith, a, b, c, d)

least_one : (k : Kind) (ring : List Place) → IsRing k ring → 1 ≤ length ring
least_one kind.Point ring h = omega (arith, h)
least_one kind.Line ring h = omega (arith, h.0)
least_one kind.Polygon ring h = omega (arith, h.0)

pub rings_few : (k : Kind) (rings : List (List Place)) → Every (IsRing k) rings → length rings ≤ length (all_vertices rings)
rings_few k [] h = omega arith
rings_few k (r ∷ rs) h =
    let b = length-append r (all_vertices rs) in
    let c = rings_few k rs h.1 in
    let d = least_one k r h.0 in
    omega (arith, b, c, d)

pub moved_countable : (from to : Place) (s : Shape) (parts : List (List (List Place))) → IsShape s → parts ≡ moved_parts from to s.parts → IsCountable parts
moved_countable from to s parts v e =
    let rings : all_rings parts ≡ moved_rings from to (rings_of s) = ap (λ (ps : List (List (List Place))). all_rings ps) e ∙ all_moved from to s.parts in
    let n : length (all_rings parts) ≡ length (rings_of s) =
    ap (λ (rs : List (List Place)). length rs) rings ∙ length-map (rings_of s) (λ (ring : List Place). map {A = Place} (moved_place from to) ring) in
    let m : length (all_vertices (all_rings parts)) ≡ length (vertices_of s) =
    ap (λ (rs : List (List Place)). length (all_vertices rs)) rings ∙ vertices_same from to (rings_of s) in
    let few = rings_few s.kind (rings_of s) v.rings in
    record { rings = omega (arith, n, few, v.vertices); vertices = omega (arith, m, v.vertices) }

pub line_given : (from to : Place) (s : Shape) (given new : List Ring) → lines_in given ≡ s.parts
    → rings_in new ≡ moved_rings from to (rings_in given) → lines_in new ≡ moved_parts from to s.parts
line_given from to s given new p e =
    let f : List Place → List Place = λ ring. map {A = Place} (moved_place from to) ring in
    made_parts new ∙ ap (λ (rs : List (List Place)). map {A = List Place} (λ ring. ring ∷ []) rs) e
    ∙ map_map (λ (ring : List Place). ring ∷ []) f (rings_in given)
    ∙ sym (map_map (moved_rings from to) (λ (ring : List Place). ring ∷ []) (rings_in given))
    ∙ ap (λ (ps : List (List (List Place))). moved_parts from to ps) (sym (made_parts given) ∙ p)
