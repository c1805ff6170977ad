-- What is written of a shape is its text: reading it gives the shape again.
--
-- kept, opened_same        a ring of a shape loses nothing when it is read
-- closed_is_closed, closed_again     its closed form is closed, and makes the ring again
-- again                    the promise
use Rattle.std.proofs.Common.{◌≡◌, ◌≤◌, ◌-◌, true, false, cond, List, [], ◌∷◌, ◌++◌, map, length, get_or, refl, sym, ap, ◌∙◌, arith}
use Rattle.std.specs.List.{AllByRecursion}
use Rattle.std.specs.Prelude.{flat_map}
use Rattle.plane_terms.specs.Lists.{Every}
use Rattle.plane_terms.specs.Point.{Place, IsInReach, same_place}
use Rattle.plane_terms.specs.Shape.{Shape, last_of, shape_of, ring_by, without_repeats, opened, NextDiffer, IsPart, IsRing, IsShape}
use Rattle.plane_terms.specs.declared.kind.Kind.{Kind}
use Rattle.plane_terms.specs.declared.kind.Kind.TheVariants as kind
use Rattle.shape.proofs.Opening.{closing_dropped, open_end}
use Rattle.cell_laws.proofs.AtPlaces.{is_same}
use Rattle.wkt_terms.specs.Grammar.{APoint, IsSome, AreSome, IsFull}
use Rattle.wkt_terms.specs.Shapes.{is_closed, shape_in, AreClosed, IsShapeText, closed, of_lines, of_polygons, shape_text}
use Rattle.wkt_terms.specs.Written.{IsInGrid}
use Rattle.wkt_laws.proofs.Written.{written_read}
use Rattle.shape.proofs.Ends.{last_is as last_at}
use Rattle.plane_terms.proofs.ListLemmas.{every_append, every_left, every_right}

-- ---- lists of lists

in_each : {A : Type 0} (P : A → Type 0) (xss : List (List A)) → Every P (flat_map (λ xs. xs) xss) → Every (λ xs. Every P xs) xss
in_each P [] h = tt
in_each P (xs ∷ xss) h =
    let more = flat_map (λ ys. ys) xss in
    (every_left P xs more h, in_each P xss (every_right P xs more h))

joined : {A : Type 0} (P : A → Type 0) (xss : List (List A)) → Every (λ xs. Every P xs) xss → Every P (flat_map (λ xs. xs) xss)
joined P [] h = tt
joined P (xs ∷ xss) h = every_append P xs (flat_map (λ ys. ys) xss) h.0 (joined P xss h.1)

pair : {A : Type 0} (x y : A) (xs ys : List A) → x ≡ y → xs ≡ ys → x ∷ xs ≡ y ∷ ys
pair x y xs ys e k = ap (λ z. z ∷ xs) e ∙ ap (λ zs. y ∷ zs) k

-- ---- rings

kept : (ps : List Place) → NextDiffer ps → without_repeats ps ≡ ps
kept [] h = refl
kept (p ∷ []) h = refl
kept (p ∷ q ∷ ps) h = ap (λ b. cond b (without_repeats (q ∷ ps)) (p ∷ without_repeats (q ∷ ps))) h.0 ∙ ap (λ t. p ∷ t) (kept (q ∷ ps) h.1)

last_unlike : (p : Place) (ps : List Place) (x : Place) → NextDiffer (p ∷ ps ++ x ∷ []) → same_place (last_of p ps) x ≡ false
last_unlike p [] x h = h.0
last_unlike p (q ∷ qs) x h = last_unlike q qs x h.1

opened_same : (p : Place) (ps : List Place) → IsRing kind.Polygon (p ∷ ps) → opened (p ∷ ps) ≡ p ∷ ps
opened_same p ps h =
    let at : length (p ∷ ps) - 1 ≡ length ps = omega arith in
    let last : last_of p ps ≡ get_or (p ∷ ps) (length (p ∷ ps) - 1) (last_of p ps) =
    last_at p ps (last_of p ps) ∙ ap (λ k. get_or (p ∷ ps) k (last_of p ps)) (sym at) in
    sym (open_end (p ∷ ps) (last_of p ps) p (omega (arith, h.0)) last refl (last_unlike p ps p h.1))

-- a ring that is closed is the ring again
closed_again : (ring : List Place) → IsRing kind.Polygon ring → ring_by kind.Polygon (closed ring) ≡ ring
closed_again [] h = absurd (omega (arith, h.0))
closed_again (p ∷ ps) h =
    ap opened (kept (p ∷ ps ++ p ∷ []) h.1) ∙ (closing_dropped p p ps (is_same p p refl) ∙ opened_same p ps h)

last_is : (p : Place) (ps : List Place) (x : Place) → last_of p (ps ++ x ∷ []) ≡ x
last_is p [] x = refl
last_is p (q ∷ qs) x = last_is q qs x

closed_is_closed : (ring : List Place) → is_closed (closed ring) ≡ true
closed_is_closed [] = refl
closed_is_closed (p ∷ ps) = is_same p (last_of p (ps ++ p ∷ [])) (sym (last_is p ps p))

closed_in_reach : (ring : List Place) → Every IsInReach ring → Every IsInReach (closed ring)
closed_in_reach [] h = tt
closed_in_reach (p ∷ ps) h = (h.0, every_append IsInReach ps (p ∷ []) h.1 (h.0, tt))

some_closed : (ring : List Place) → IsRing kind.Polygon ring → IsSome (closed ring)
some_closed [] h = absurd (omega (arith, h.0))
some_closed (p ∷ ps) h = tt

-- ---- a point

abbrev pub shape_by : Kind → List (List (List Place)) → Shape
shape_by k parts = record { kind = k; parts = parts }

point_again : (parts : List (List (List Place))) → IsShape (shape_by kind.Point parts)
    → IsShapeText (shape_text (shape_by kind.Point parts)) (shape_by kind.Point parts)
point_again [] h = absurd (omega (arith, h.some))
point_again (part ∷ more ∷ parts) h = absurd (omega (arith, h.some))
point_again ([] ∷ []) h = absurd (omega (arith, h.parts.0))
point_again ((ring ∷ more ∷ rings) ∷ []) h = absurd (omega (arith, h.parts.0))
point_again (([] ∷ []) ∷ []) h = absurd (omega (arith, h.rings.0))
point_again (((p ∷ q ∷ ps) ∷ []) ∷ []) h = absurd (omega (arith, h.rings.0))
point_again (((p ∷ []) ∷ []) ∷ []) h =
    record { geometry = APoint p; spelled = written_read (APoint p) tt h.in_reach.0; closed = tt; shape = refl; valid = h }

-- ---- a line

lines_shape : (rings : List (List Place)) → shape_in (of_lines rings) ≡ shape_of kind.Line (map (λ ps. ps ∷ []) rings)
lines_shape [] = refl
lines_shape (ps ∷ []) = refl
lines_shape (ps ∷ qs ∷ pss) = refl

lines_closed : (rings : List (List Place)) → AreClosed (of_lines rings)
lines_closed [] = tt
lines_closed (ps ∷ []) = tt
lines_closed (ps ∷ qs ∷ pss) = tt

some_line : (ps : List Place) → IsRing kind.Line ps → IsSome ps
some_line [] h = absurd (omega (arith, h.0))
some_line (p ∷ ps) h = tt

some_lines : (pss : List (List Place)) → Every (IsRing kind.Line) pss → AllByRecursion IsSome pss
some_lines [] h = tt
some_lines (ps ∷ pss) h = (some_line ps h.0, some_lines pss h.1)

lines_full : (rings : List (List Place)) → 1 ≤ length rings → Every (IsRing kind.Line) rings → IsFull (of_lines rings)
lines_full [] some h = absurd (omega (arith, some))
lines_full (ps ∷ []) some h = some_line ps h.0
lines_full (ps ∷ qs ∷ pss) some h = (tt, some_lines (ps ∷ qs ∷ pss) h)

lines_in_grid : (rings : List (List Place)) → Every (λ ps. Every IsInReach ps) rings → IsInGrid (of_lines rings)
lines_in_grid [] h = tt
lines_in_grid (ps ∷ []) h = h.0
lines_in_grid (ps ∷ qs ∷ pss) h = h

record LineParts (parts : List (List (List Place))) : Type 0 where
  back : map (λ ps. ps ∷ []) (flat_map (λ part. part) parts) ≡ parts
  kept_all : map (λ part. map (ring_by kind.Line) part) parts ≡ parts

line_parts : (parts : List (List (List Place))) → Every (IsPart kind.Line) parts → Every (IsRing kind.Line) (flat_map (λ part. part) parts)
    → LineParts parts
line_parts [] h r = record { back = refl; kept_all = refl }
line_parts ([] ∷ parts) h r = absurd (omega (arith, h.0))
line_parts ((ps ∷ qs ∷ pss) ∷ parts) h r = absurd (omega (arith, h.0))
line_parts ((ps ∷ []) ∷ parts) h r =
    let m = line_parts parts h.1 r.1 in
    record {
      back = ap (λ t. (ps ∷ []) ∷ t) m.back;
      kept_all = pair (without_repeats ps ∷ []) (ps ∷ []) _ parts (ap (λ t. t ∷ []) (kept ps r.0.1)) m.kept_all;
    }

some_rings : (parts : List (List (List Place))) → 1 ≤ length parts → Every (IsPart kind.Line) parts
    → 1 ≤ length (flat_map (λ part. part) parts)
some_rings [] some h = absurd (omega (arith, some))
some_rings ([] ∷ parts) some h = absurd (omega (arith, h.0))
some_rings ((ps ∷ pss) ∷ parts) some h = omega arith

line_again : (parts : List (List (List Place))) → IsShape (shape_by kind.Line parts)
    → IsShapeText (shape_text (shape_by kind.Line parts)) (shape_by kind.Line parts)
line_again parts h =
    let rings = flat_map (λ part. part) parts in
    let m = line_parts parts h.parts h.rings in
    let back : shape_in (of_lines rings) ≡ shape_by kind.Line parts =
    lines_shape rings ∙ (ap (shape_of kind.Line) m.back ∙ ap (shape_by kind.Line) m.kept_all) in
    record {
      geometry = of_lines rings;
      spelled =
          written_read (of_lines rings) (lines_full rings (some_rings parts h.some h.parts) h.rings)
          (lines_in_grid rings (in_each IsInReach rings h.in_reach));
      closed = lines_closed rings;
      shape = sym back;
      valid = h;
    }

-- ---- a polygon

polygons_shape : (parts : List (List (List Place))) → shape_in (of_polygons parts) ≡ shape_of kind.Polygon
    (map (λ part. map closed part) parts)
polygons_shape [] = refl
polygons_shape (rings ∷ []) = refl
polygons_shape (rings ∷ more ∷ parts) = refl

all_closed : (rings : List (List Place)) → Every (λ ring. is_closed ring ≡ true) (map closed rings)
all_closed [] = tt
all_closed (ring ∷ rings) = (closed_is_closed ring, all_closed rings)

each_closed : (parts : List (List (List Place)))
    → Every (λ part. Every (λ ring. is_closed ring ≡ true) part) (map (λ part. map closed part) parts)
each_closed [] = tt
each_closed (part ∷ parts) = (all_closed part, each_closed parts)

polygons_closed : (parts : List (List (List Place))) → AreClosed (of_polygons parts)
polygons_closed [] = tt
polygons_closed (rings ∷ []) = all_closed rings
polygons_closed (rings ∷ more ∷ parts) =
    joined (λ ring. is_closed ring ≡ true) (map (λ part. map closed part) (rings ∷ more ∷ parts)) (each_closed (rings ∷ more ∷ parts))

some_rings_closed : (rings : List (List Place)) → Every (IsRing kind.Polygon) rings → AllByRecursion IsSome (map closed rings)
some_rings_closed [] h = tt
some_rings_closed (ring ∷ rings) h = (some_closed ring h.0, some_rings_closed rings h.1)

part_full : (part : List (List Place)) → IsPart kind.Polygon part → Every (IsRing kind.Polygon) part → AreSome (map closed part)
part_full [] some h = absurd (omega (arith, some))
part_full (ring ∷ rings) some h = (tt, some_rings_closed (ring ∷ rings) h)

parts_full : (parts : List (List (List Place))) → Every (IsPart kind.Polygon) parts → Every (λ part. Every (IsRing kind.Polygon) part) parts
    → AllByRecursion AreSome (map (λ part. map closed part) parts)
parts_full [] some h = tt
parts_full (part ∷ parts) some h = (part_full part some.0 h.0, parts_full parts some.1 h.1)

polygons_full : (parts : List (List (List Place))) → 1 ≤ length parts → Every (IsPart kind.Polygon) parts
    → Every (λ part. Every (IsRing kind.Polygon) part) parts → IsFull (of_polygons parts)
polygons_full [] one some h = absurd (omega (arith, one))
polygons_full (rings ∷ []) one some h = part_full rings some.0 h.0
polygons_full (rings ∷ more ∷ parts) one some h = (tt, parts_full (rings ∷ more ∷ parts) some h)

rings_in_reach : (rings : List (List Place)) → Every (λ ring. Every IsInReach ring) rings
    → AllByRecursion (AllByRecursion IsInReach) (map closed rings)
rings_in_reach [] h = tt
rings_in_reach (ring ∷ rings) h = (closed_in_reach ring h.0, rings_in_reach rings h.1)

parts_in_reach : (parts : List (List (List Place))) → Every (λ part. Every (λ ring. Every IsInReach ring) part) parts
    → AllByRecursion (AllByRecursion (AllByRecursion IsInReach)) (map (λ part. map closed part) parts)
parts_in_reach [] h = tt
parts_in_reach (part ∷ parts) h = (rings_in_reach part h.0, parts_in_reach parts h.1)

polygons_in_grid : (parts : List (List (List Place))) → Every (λ part. Every (λ ring. Every IsInReach ring) part) parts
    → IsInGrid (of_polygons parts)
polygons_in_grid [] h = tt
polygons_in_grid (rings ∷ []) h = rings_in_reach rings h.0
polygons_in_grid (rings ∷ more ∷ parts) h = parts_in_reach (rings ∷ more ∷ parts) h

rings_back : (rings : List (List Place)) → Every (IsRing kind.Polygon) rings → map (ring_by kind.Polygon) (map closed rings) ≡ rings
rings_back [] h = refl
rings_back (ring ∷ rings) h = pair _ ring _ rings (closed_again ring h.0) (rings_back rings h.1)

parts_back : (parts : List (List (List Place))) → Every (λ part. Every (IsRing kind.Polygon) part) parts
    → map (λ part. map (ring_by kind.Polygon) part) (map (λ part. map closed part) parts) ≡ parts
parts_back [] h = refl
parts_back (part ∷ parts) h = pair _ part _ parts (rings_back part h.0) (parts_back parts h.1)

polygon_again : (parts : List (List (List Place))) → IsShape (shape_by kind.Polygon parts)
    → IsShapeText (shape_text (shape_by kind.Polygon parts)) (shape_by kind.Polygon parts)
polygon_again parts h =
    let each = in_each (IsRing kind.Polygon) parts h.rings in
    let back : shape_in (of_polygons parts) ≡ shape_by kind.Polygon parts =
    polygons_shape parts ∙ ap (shape_by kind.Polygon) (parts_back parts each) in
    let reach = in_each (λ ring. Every IsInReach ring) parts (in_each IsInReach (flat_map (λ part. part) parts) h.in_reach) in
    record {
      geometry = of_polygons parts;
      spelled = written_read (of_polygons parts) (polygons_full parts h.some h.parts each) (polygons_in_grid parts reach);
      closed = polygons_closed parts;
      shape = sym back;
      valid = h;
    }

again_by : (k : Kind) (parts : List (List (List Place))) → IsShape (shape_by k parts)
    → IsShapeText (shape_text (shape_by k parts)) (shape_by k parts)
again_by kind.Point parts h = point_again parts h
again_by kind.Line parts h = line_again parts h
again_by kind.Polygon parts h = polygon_again parts h

pub again : (s : Shape) → IsShape s → IsShapeText (shape_text s) s
again s h = again_by s.kind s.parts h
