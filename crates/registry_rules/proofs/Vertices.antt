-- How many vertices a shape has, by its segments and parts.
use Rattle.std.proofs.Common.{◌≡◌, suc, ◌+◌, ◌≤◌, List, [], ◌∷◌, ◌++◌, length, refl, ◌∙◌, ap, arith, length-append}
use Rattle.std.specs.List.{flat_map}
use Rattle.plane_terms.specs.Lists.{Every}
use Rattle.plane_terms.specs.Point.{Place}
use Rattle.plane_terms.specs.Shape.{Shape, path, closed_path, vertices_of, segments_of, rings_of, IsShape, IsRing}
use Rattle.plane_terms.specs.declared.kind.Kind.TheVariants as kind

path_length : (p : Place) (ps : List Place) → length (path (p ∷ ps)) ≡ length ps
path_length p [] = refl
path_length p (q ∷ ps) = ap suc (path_length q ps)

closed_length : (ring : List Place) → length (closed_path ring) ≡ length ring
closed_length [] = refl
closed_length (p ∷ ps) = path_length p (ps ++ p ∷ []) ∙ (length-append ps (p ∷ []) ∙ omega arith)

closed_count : (rings : List (List Place)) → length (flat_map closed_path rings) ≡ length (flat_map (λ (ring : List Place). ring) rings)
closed_count [] = refl
closed_count (ring ∷ rings) =
    let one = closed_length ring in
    let rest = closed_count rings in
    let a = length-append (closed_path ring) (flat_map closed_path rings) in
    let b = length-append ring (flat_map (λ (ring : List Place). ring) rings) in
    omega (arith, one, rest, a, b)

pub polygon_count : (s : Shape) → s.kind ≡ kind.Polygon → length (segments_of s) ≡ length (vertices_of s)
polygon_count s e = rw e (closed_count (rings_of s))

open_length : (ring : List Place) → IsRing kind.Line ring → length ring ≡ length (path ring) + 1
open_length [] h = absurd (omega (arith, h.0))
open_length (p ∷ ps) h = let y = path_length p ps in omega (arith, y)

open_count : (rings : List (List Place)) → Every (IsRing kind.Line) rings
    → length (flat_map (λ (ring : List Place). ring) rings) ≡ length (flat_map path rings) + length rings
open_count [] h = refl
open_count (ring ∷ rings) h =
    let one = open_length ring h.0 in
    let rest = open_count rings h.1 in
    let a = length-append (path ring) (flat_map path rings) in
    let b = length-append ring (flat_map (λ (ring : List Place). ring) rings) in
    omega (arith, one, rest, a, b)

single : {A : Type 0} (xss : List (List A)) → Every (λ (xs : List A). length xs ≡ 1) xss
    → length (flat_map (λ (xs : List A). xs) xss) ≡ length xss
single [] h = refl
single {A} (xs ∷ xss) h =
    let rest = single xss h.1 in
    let a = length-append xs (flat_map (λ (xs : List A). xs) xss) in
    omega (arith, h.0, rest, a)

pub line_count : (s : Shape) → IsShape s → s.kind ≡ kind.Line → length (vertices_of s) ≡ length (segments_of s) + length s.parts
line_count s v e =
    let parts : Every (λ (part : List (List Place)). length part ≡ 1) s.parts = rw e at v.parts in
    let rings : Every (IsRing kind.Line) (rings_of s) = rw e at v.rings in
    let count = open_count (rings_of s) rings in
    let rows = single s.parts parts in
    rw e (omega (arith, count, rows))

pub point_count : (s : Shape) → IsShape s → s.kind ≡ kind.Point → length (vertices_of s) ≡ 1
point_count s v e =
    let parts : Every (λ (part : List (List Place)). length part ≡ 1) s.parts = rw e at v.parts in
    let rings : Every (λ (ring : List Place). length ring ≡ 1) (rings_of s) = rw e at v.rings in
    let one : length s.parts ≡ 1 = rw e at v.some in
    let count = single (rings_of s) rings in
    let rows = single s.parts parts in
    omega (arith, count, rows, one)

pub line_short : (s : Shape) → IsShape s → s.kind ≡ kind.Line → length (segments_of s) + length s.parts ≤ 2000
line_short s v e = omega (arith, line_count s v e, v.vertices)
