-- The written form of a shape is short: far below the limit of a line's shape.
use Rattle.std.proofs.Common.{ℕ, ℤ, pos, negsuc, suc, ◌≡◌, ◌≤◌, ◌+◌, ◌*◌, List, [], ◌∷◌, ◌++◌, map, length, length-append, ap, arith}
use Rattle.std.specs.Prelude.{codes, flat_map, decimal}
use Rattle.std.specs.Fmt.{signed_decimal}
use Rattle.std.proofs.lemmas.Fmt.{length-decimal-le}
use Rattle.std.proofs.lemmas.Grind.{flat_map-append}
use Rattle.std.proofs.lemmas.Int.{ints}
use Rattle.plane_terms.specs.Lists.{Every}
use Rattle.plane_terms.proofs.ListLemmas.{every_append, every_left, every_right, every_map}
use Rattle.plane_terms.specs.Point.{Place, InReach, IsInReach}
use Rattle.plane_terms.specs.Shape.{Shape, IsShape, IsPart, IsRing, place_of}
use Rattle.plane_terms.specs.declared.kind.Kind.{Kind}
use Rattle.plane_terms.specs.declared.kind.Kind.TheVariants as kind
use Rattle.text_terms.specs.Wkt.{listed}
use Rattle.wkt_terms.specs.Grammar.{APoint}
use Rattle.wkt_terms.specs.Shapes.{closed, of_lines, of_polygons, shape_text}
use Rattle.wkt_terms.specs.Written.{place_text, list_text, lists_text, written}

abbrev flat : {A : Type 0} → List (List A) → List A
flat xss = flat_map (λ xs. xs) xss

-- ---- places
decimal_short : (n : ℕ) → n ≤ 4194304 → length (decimal n) ≤ 7
decimal_short n h = length-decimal-le 7 n (omega arith) (omega (arith, h)) (omega (arith, h))

signed_short : (z : ℤ) → InReach z → length (signed_decimal z) ≤ 8
signed_short (pos n) h = let l : n ≤ 4194304 = omega (arith, ints, h.high) in omega (arith, decimal_short n l)
signed_short (negsuc n) h = let l : suc n ≤ 4194304 = omega (arith, ints, h.low) in omega (arith, decimal_short (suc n) l)

place_short : (p : Place) → IsInReach p → length (place_text p) ≤ 17
place_short p h =
    omega (arith, length-append (signed_decimal p.x) (32 ∷ signed_decimal p.y), signed_short p.x h.x, signed_short p.y h.y)

-- ---- texts with commas between them
abbrev total : List (List ℕ) → ℕ
total [] = 0
total (t ∷ ts) = length t + 2 + total ts

listed_short : (ts : List (List ℕ)) → length (listed ts) ≤ total ts
listed_short [] = omega arith
listed_short (t ∷ []) = omega arith
listed_short (t ∷ u ∷ ts) =
    omega (arith, length-append t (codes ", " ++ listed (u ∷ ts)), length-append (codes ", ") (listed (u ∷ ts)), listed_short (u ∷ ts))

bracketed_short : (ts : List (List ℕ)) → length (40 ∷ (listed ts ++ 41 ∷ [])) ≤ total ts + 2
bracketed_short ts = omega (arith, length-append (listed ts) (41 ∷ []), listed_short ts)

-- ---- rings
places_short : (ps : List Place) → Every IsInReach ps → total (map place_text ps) ≤ 19 * length ps
places_short [] h = omega arith
places_short (p ∷ ps) h = omega (arith, place_short p h.0, places_short ps h.1)

ring_short : (ps : List Place) → Every IsInReach ps → length (list_text ps) ≤ 19 * length ps + 2
ring_short ps h = omega (arith, bracketed_short (map place_text ps), places_short ps h)

record IsRingOnGrid (ring : List Place) : Type 0 where
  some : 1 ≤ length ring
  reach : Every IsInReach ring

rings_on_grid : (rings : List (List Place)) → Every (λ ring. 1 ≤ length ring) rings → Every IsInReach (flat rings)
    → Every IsRingOnGrid rings
rings_on_grid [] h r = tt
rings_on_grid (ring ∷ rings) h r = (
  record { some = h.0; reach = every_left IsInReach ring (flat rings) r },
  rings_on_grid rings h.1 (every_right IsInReach ring (flat rings) r),
)

closed_short : (ring : List Place) → IsRingOnGrid ring → length (list_text (closed ring)) ≤ 19 * length ring + 21
closed_short [] h = absurd (let s = h.some in omega (arith, s))
closed_short (p ∷ ps) h =
    let r = h.reach in
    let all : Every IsInReach (closed (p ∷ ps)) = (r.0, every_append IsInReach ps (p ∷ []) r.1 (r.0, tt)) in
    omega (arith, ring_short (closed (p ∷ ps)) all, length-append ps (p ∷ []))

lines_short : (rings : List (List Place)) → Every IsRingOnGrid rings → total (map list_text rings) ≤ 42 * length (flat rings)
lines_short [] h = omega arith
lines_short (ring ∷ rings) h =
    let some = h.0.some in
    omega (arith, some, ring_short ring h.0.reach, lines_short rings h.1, length-append ring (flat rings))

rings_short : (rings : List (List Place)) → Every IsRingOnGrid rings → total (map list_text (map closed rings)) ≤ 42 * length (flat rings)
rings_short [] h = omega arith
rings_short (ring ∷ rings) h =
    let some = h.0.some in
    omega (arith, some, closed_short ring h.0, rings_short rings h.1, length-append ring (flat rings))

-- ---- polygons
some_vertices : (part : List (List Place)) → IsPart kind.Polygon part → Every IsRingOnGrid part → 1 ≤ length (flat part)
some_vertices [] some h = absurd (omega (arith, some))
some_vertices (ring ∷ rings) some h = let n = h.0.some in omega (arith, n, length-append ring (flat rings))

parts_short : (parts : List (List (List Place))) → Every (IsPart kind.Polygon) parts → Every IsRingOnGrid (flat parts)
    → total (map lists_text (map (λ part. map closed part) parts)) ≤ 46 * length (flat (flat parts))
parts_short [] some h = omega arith
parts_short (part ∷ parts) some h =
    let here = every_left IsRingOnGrid part (flat parts) h in
    let n = some_vertices part some.0 here in
    let all : length (flat (part ++ flat parts)) ≡ length (flat part ++ flat (flat parts)) =
    ap (λ (ps : List Place). length ps) (flat_map-append (λ (ps : List Place). ps) part (flat parts)) in
    omega (
      arith,
      n,
      all,
      length-append (flat part) (flat (flat parts)),
      bracketed_short (map list_text (map closed part)),
      rings_short part here,
      parts_short parts some.1 (every_right IsRingOnGrid part (flat parts) h),
    )

-- ---- shapes
point_short : (s : Shape) → IsInReach (place_of s) → length (written (APoint (place_of s))) ≤ 1048576
point_short s h =
    let x = signed_decimal (place_of s).x in
    let y = signed_decimal (place_of s).y in
    omega (
      arith,
      length-append (codes "POINT (") ((x ++ 32 ∷ y) ++ 41 ∷ []),
      length-append (x ++ 32 ∷ y) (41 ∷ []),
      length-append x (32 ∷ y),
      signed_short (place_of s).x h.x,
      signed_short (place_of s).y h.y,
    )

of_lines_short : (rings : List (List Place)) → Every IsRingOnGrid rings → length (flat rings) ≤ 2000
    → length (written (of_lines rings)) ≤ 1048576
of_lines_short [] h few = omega arith
of_lines_short (ps ∷ []) h few =
    omega (arith, few, length-append (codes "LINESTRING ") (list_text ps), ring_short ps h.0.reach, length-append ps [])
of_lines_short (ps ∷ qs ∷ pss) h few =
    omega (
      arith,
      few,
      length-append (codes "MULTILINESTRING ") (lists_text (ps ∷ qs ∷ pss)),
      bracketed_short (map list_text (ps ∷ qs ∷ pss)),
      lines_short (ps ∷ qs ∷ pss) h,
    )

of_polygons_short : (parts : List (List (List Place))) → Every (IsPart kind.Polygon) parts → Every IsRingOnGrid (flat parts)
    → length (flat (flat parts)) ≤ 2000 → length (written (of_polygons parts)) ≤ 1048576
of_polygons_short [] some h few = omega arith
of_polygons_short (rings ∷ []) some h few =
    let here = every_left IsRingOnGrid rings [] h in
    let all : length (flat (rings ++ [])) ≡ length (flat rings ++ []) =
    ap (λ (ps : List Place). length ps) (flat_map-append (λ (ps : List Place). ps) rings []) in
    omega (
      arith,
      few,
      all,
      length-append (flat rings) [],
      length-append (codes "POLYGON ") (lists_text (map closed rings)),
      bracketed_short (map list_text (map closed rings)),
      rings_short rings here,
    )
of_polygons_short (rings ∷ more ∷ parts) some h few =
    let all = map (λ part. map closed part) (rings ∷ more ∷ parts) in
    omega (
      arith,
      few,
      length-append (codes "MULTIPOLYGON ") (40 ∷ (listed (map lists_text all) ++ 41 ∷ [])),
      bracketed_short (map lists_text all),
      parts_short (rings ∷ more ∷ parts) some h,
    )

abbrev shape_by : Kind → List (List (List Place)) → Shape
shape_by k parts = record { kind = k; parts = parts }

point_by : (parts : List (List (List Place))) → IsShape (shape_by kind.Point parts)
    → length (shape_text (shape_by kind.Point parts)) ≤ 1048576
point_by [] h = absurd (omega (arith, h.some))
point_by (part ∷ more ∷ parts) h = absurd (omega (arith, h.some))
point_by ([] ∷ []) h = absurd (omega (arith, h.parts.0))
point_by ((ring ∷ more ∷ rings) ∷ []) h = absurd (omega (arith, h.parts.0))
point_by (([] ∷ []) ∷ []) h = absurd (omega (arith, h.rings.0))
point_by (((p ∷ q ∷ ps) ∷ []) ∷ []) h = absurd (omega (arith, h.rings.0))
point_by (((p ∷ []) ∷ []) ∷ []) h = point_short (shape_by kind.Point (((p ∷ []) ∷ []) ∷ [])) h.in_reach.0

short_by : (k : Kind) (parts : List (List (List Place))) → IsShape (shape_by k parts) → length (shape_text (shape_by k parts)) ≤ 1048576
short_by kind.Point parts h = point_by parts h
short_by kind.Line parts h =
    let some = every_map (IsRing kind.Line) (λ (ring : List Place). 1 ≤ length ring) (λ ring k. omega (arith, k.0)) (flat parts) h.rings in
    of_lines_short (flat parts) (rings_on_grid (flat parts) some h.in_reach) h.vertices
short_by kind.Polygon parts h =
    let some = every_map (IsRing kind.Polygon) (λ (ring : List Place). 1 ≤ length ring) (λ ring k. omega (arith, k.0)) (flat parts) h.rings
    in
    of_polygons_short parts h.parts (rings_on_grid (flat parts) some h.in_reach) h.vertices

pub shape_short : (s : Shape) → IsShape s → length (shape_text s) ≤ 1048576
shape_short s h = short_by s.kind s.parts h
