-- What a shape holds, by its kind.
use Rattle.std.proofs.Common.{◌≡◌, ℕ, ◌*◌, ◌≤◌, List, [], ◌∷◌, ◌++◌, length, get_or, map, Vec, inl, inr, refl, sym, ap, subst, ◌∙◌, arith}
use Rattle.std.proofs.lemmas.List.{length-map}
use Rattle.plane_terms.specs.Lists.{Every, SomeOf}
use Rattle.plane_terms.specs.Point.{Place}
use Rattle.plane_terms.specs.Rectangle.{Rectangle, rect_at}
use Rattle.plane_terms.specs.Shape.{Shape, point_shape, envelope_of, box_from, box_of_places, ends_of, two_ends, IsShape, IsRing}
use Rattle.plane_terms.specs.declared.kind.Kind.TheVariants as kind
use Rattle.std.specs.List.{flat_map}
use Rattle.shape.specs.Given.{Ring, rings_in, lines_in, polygons_in, all_rings, all_vertices}
use Rattle.shape.specs.Counts.{IsFull}
use Rattle.std.specs.Global.{Global}
use Rattle.shape.proofs.Boxes.{box_once}
use Rattle.shape.specs.Form.{line_shape, polygon_shape}
use Rattle.shape.proofs.Ends.{ends_counted}
use Rattle.shape.proofs.Filled.{line_rings, line_vertices}
use Rattle.shape.proofs.Made.{line_parts}

pub point_box : (q : Place) → rect_at q ≡ envelope_of (point_shape q)
unfolding envelope_of
point_box q = refl

pub held_ends : (ps : List Ring) → flat_map two_ends (rings_in ps) ≡ ends_of (line_shape ps)
held_ends ps = ap (λ (rs : List (List Place)). flat_map two_ends rs) (sym (line_rings ps))

abbrev line_by : List (List Place) → Shape
line_by rs = record { kind = kind.Line; parts = map (λ (r : List Place). r ∷ []) rs }

abbrev polygon_by : List (List (List Place)) → Shape
polygon_by parts = record { kind = kind.Polygon; parts = parts }

abbrev line_with : List (List (List Place)) → Shape
line_with parts = record { kind = kind.Line; parts = parts }

line_of_rings : (ps : List Ring) → line_shape ps ≡ line_by (rings_in ps)
line_of_rings ps = ap line_with (line_parts ps)

long_of : (rs : List (List Place)) → Every (IsRing kind.Line) rs → Every (λ ring. 1 ≤ length ring) rs
long_of [] h = tt
long_of (r ∷ rs) h = (omega (arith, h.0.0), long_of rs h.1)

pub held_rings : (ps : List Ring) → IsShape (line_shape ps) → Every (λ ring. 1 ≤ length ring) (rings_in ps)
held_rings ps h = long_of (rings_in ps) (subst (λ (rs : List (List Place)). Every (IsRing kind.Line) rs) (line_rings ps) h.rings)

pub held_long : (ps : List Ring) (n : ℕ) → IsShape (line_shape ps) → n ≡ length ps → 2 * n ≡ length (ends_of (line_shape ps))
held_long ps n h e =
    omega (
      arith,
      e,
      ends_counted (rings_in ps) (held_rings ps h),
      length-map ps (λ (ring : Ring). ring.items),
      ap (λ (qs : List Place). length qs) (held_ends ps),
    )

-- ---- equal parts
pub same_lines : (ps qs : List Ring) → rings_in ps ≡ rings_in qs → line_shape ps ≡ line_shape qs
same_lines ps qs e = line_of_rings ps ∙ ap line_by e ∙ sym (line_of_rings qs)

pub same_rings : (ps qs : List Ring) → line_shape ps ≡ line_shape qs → rings_in ps ≡ rings_in qs
same_rings ps qs e = sym (line_rings ps) ∙ ap (λ (s : Shape). all_rings s.parts) e ∙ line_rings qs

pub same_polygons : (ps qs : List (Vec Ring Global)) → polygons_in ps ≡ polygons_in qs → polygon_shape ps ≡ polygon_shape qs
same_polygons ps qs e = ap polygon_by e

-- ---- the first vertex, and the envelope from there
head_of : {A : Type 0} (xs : List A) (x : A) → 1 ≤ length xs → x ≡ get_or xs 0 x → (ys : List A) × (xs ≡ x ∷ ys)
head_of [] x l e = absurd (omega (arith, l))
head_of (y ∷ ys) x l e = (ys, ap (λ z. z ∷ ys) (sym e))

box_whole : (whole : List Place) (q : Place) (us : List Place) (r : Rectangle) → whole ≡ q ∷ us → r ≡ box_from (rect_at q) whole
    → r ≡ box_of_places whole
box_whole whole q us r e h = h ∙ ap (λ (ps : List Place). box_from (rect_at q) ps) e ∙ box_once q us ∙ ap box_of_places (sym e)

some_parts : {X : Type 0} (h : List X → List (List (List Place))) (xs : List X) → (h [] ≡ []) → (h xs ≡ [] → ⊥) → 1 ≤ length xs
some_parts h [] e n = absurd (n e)
some_parts h (x ∷ xs) e n = omega arith

line_box_by : (ps : List Ring) (p : Ring) (q : Place) (r : Rectangle) (k : (qs : List Ring) × (ps ≡ p ∷ qs))
    → Every (λ ring. 2 ≤ length ring) (all_rings (lines_in ps)) → q ≡ get_or p.items 0 q
    → r ≡ box_from (rect_at q) (all_vertices (rings_in ps)) → r ≡ box_of_places (all_vertices (rings_in ps))
line_box_by ps p q r k l f h =
    let long = subst (λ (qs : List Ring). Every (λ ring. 2 ≤ length ring) (all_rings (lines_in qs))) k.1 l in
    let m = head_of p.items q (omega (arith, long.0)) f in
    let rest = all_vertices (rings_in k.0) in
    box_whole (all_vertices (rings_in ps)) q (m.0 ++ rest) r (ap (λ (qs : List Ring). all_vertices (rings_in qs)) k.1
    ∙ ap (λ (vs : List Place). vs ++ rest) m.1) h

pub line_box : (ps : List Ring) (p : Ring) (q : Place) (r : Rectangle) → IsFull (line_shape ps) → p ≡ get_or ps 0 p → q ≡ get_or p.items 0 q
    → r ≡ box_from (rect_at q) (all_vertices (rings_in ps)) → r ≡ envelope_of (line_shape ps)
unfolding envelope_of
line_box ps p q r full e f h =
    line_box_by ps p q r (head_of ps p (some_parts lines_in ps refl (λ z. full.ringed (inl z))) e) full.long f h
    ∙ ap box_of_places (sym (line_vertices ps))

polygon_box_by : (ps : List (Vec Ring Global)) (p : Vec Ring Global) (ring : Ring) (q : Place) (r : Rectangle)
    (k : (qs : List (Vec Ring Global)) × (ps ≡ p ∷ qs)) → ¬ (SomeOf (λ part. part ≡ []) (polygons_in ps))
    → Every (λ ring. 3 ≤ length ring) (all_rings (polygons_in ps)) → ring ≡ get_or p.items 0 ring → q ≡ get_or ring.items 0 q
    → r ≡ box_from (rect_at q) (all_vertices (all_rings (polygons_in ps))) → r ≡ box_of_places (all_vertices (all_rings (polygons_in ps)))
polygon_box_by ps p ring q r k n l e f h =
    let bare = subst (λ (qs : List (Vec Ring Global)). ¬ (SomeOf (λ part. part ≡ []) (polygons_in qs))) k.1 n in
    let long = subst (λ (qs : List (Vec Ring Global)). Every (λ ring. 3 ≤ length ring) (all_rings (polygons_in qs))) k.1 l in
    let others = all_rings (polygons_in k.0) in
    let m = head_of p.items ring (some_rings p.items (λ z. bare (inl z))) e in
    let long' = subst (λ (rs : List Ring). Every (λ ring. 3 ≤ length ring) (rings_in rs ++ others)) m.1 long in
    let o = head_of ring.items q (omega (arith, long'.0)) f in
    let rest = all_vertices (rings_in m.0 ++ others) in
    box_whole (all_vertices (all_rings (polygons_in ps))) q (o.0 ++ rest) r
    (ap (λ (qs : List (Vec Ring Global)). all_vertices (all_rings (polygons_in qs))) k.1
    ∙ ap (λ (rs : List Ring). all_vertices (rings_in rs ++ others)) m.1 ∙ ap (λ (vs : List Place). vs ++ rest) o.1) h
  where
    some_rings : (xs : List Ring) → (rings_in xs ≡ [] → ⊥) → 1 ≤ length xs
    some_rings [] n = absurd (n refl)
    some_rings (x ∷ xs) n = omega arith

pub polygon_box : (ps : List (Vec Ring Global)) (p : Vec Ring Global) (ring : Ring) (q : Place) (r : Rectangle) → IsFull (polygon_shape ps)
    → p ≡ get_or ps 0 p → ring ≡ get_or p.items 0 ring → q ≡ get_or ring.items 0 q
    → r ≡ box_from (rect_at q) (all_vertices (all_rings (polygons_in ps))) → r ≡ envelope_of (polygon_shape ps)
unfolding envelope_of
polygon_box ps p ring q r full e f g h =
    polygon_box_by ps p ring q r (head_of ps p (some_parts polygons_in ps refl (λ z. full.ringed (inl z))) e)
    (λ z. full.ringed (inr z)) full.long f g h
