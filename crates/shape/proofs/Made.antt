-- What the parts make is a shape, and has no fault.
use Rattle.std.proofs.Common.{◌≡◌, ℕ, suc, ◌≤◌, Bool, true, false, if◌then◌else◌, inl, inr, List, [], ◌∷◌, ◌++◌, length, map, reverse, Vec, refl, sym, ap, subst, ◌∙◌, arith, length-append}
use Rattle.std.proofs.lemmas.List.{length-map, map-append, reverse-append, reverse-reverse, length-reverse}
use Rattle.std.specs.Global.{Global}
use Rattle.std.specs.List.{flat_map}
use Rattle.plane_terms.specs.Lists.{Every, EveryPair, SomeOf}
use Rattle.plane_terms.specs.Point.{Place, IsInReach, same_place}
use Rattle.plane_terms.specs.Rectangle.{Rectangle}
use Rattle.plane_terms.specs.Segment.{Segment, IsSegment}
use Rattle.plane_terms.specs.Shape.{Shape, shape_of, rings_of, vertices_of, segments_of, envelope_of, without_repeats, skip_equal, opened, ring_by, AreUnlike, NextDiffer, path, closed_path, IsPart, AreSimple}
use Rattle.plane_terms.specs.declared.kind.Kind.{Kind}
use Rattle.plane_terms.specs.declared.kind.Kind.TheVariants as kind
use Rattle.shape.specs.Given.{Ring, rings_in, lines_in, polygons_in, all_rings, all_vertices, IsCountable}
use Rattle.shape.specs.Kept.{rings_by, parts_by, IsClosing}
use Rattle.plane_terms.specs.ShapeFaults.{IsPair, AreBad, IsFault, IsFlawless}
use Rattle.shape.specs.Counts.{IsFull}
use Rattle.shape.specs.Form.{line_shape, polygon_shape, IsDrawn}
use Rattle.shape.specs.Frames.{AreFrames}
use Rattle.shape.specs.Pairs.{IsPairFault}
use Rattle.plane_terms.specs.declared.shape_fault.ShapeFault.{ShapeFault}
use Rattle.plane_terms.specs.declared.shape_fault.ShapeFault.TheVariants.{TooFew, TooMany, Cross, Along, NoMemory}
use Rattle.shape.proofs.Filled.{line_rings, none_few, none_many}
use Rattle.cell_laws.proofs.AtPlaces.{same_is}
use Rattle.shape.proofs.Places.{same_turned}
use Rattle.plane_terms.proofs.ListLemmas.{every_left, every_right}

-- ---- the parts that were kept make the shape
pub line_parts : (ps : List Ring) → lines_in ps ≡ map (λ (r : List Place). r ∷ []) (rings_in ps)
line_parts [] = refl
line_parts (p ∷ ps) = ap (λ rs. (p.items ∷ []) ∷ rs) (line_parts ps)

kept_lines : (f : List Place → List Place) (ps : List Ring)
    → map (λ (part : List (List Place)). map f part) (lines_in ps) ≡ map (λ (r : List Place). r ∷ []) (map f (rings_in ps))
kept_lines f [] = refl
kept_lines f (p ∷ ps) = ap (λ rs. (f p.items ∷ []) ∷ rs) (kept_lines f ps)

abbrev line : List (List (List Place)) → Shape
line parts = record { kind = kind.Line; parts = parts }

abbrev polygon : List (List (List Place)) → Shape
polygon parts = record { kind = kind.Polygon; parts = parts }

pub line_made : (ps given : List Ring) → rings_in ps ≡ rings_by kind.Line (rings_in given)
    → line_shape ps ≡ shape_of kind.Line (lines_in given)
line_made ps given e =
    ap (λ (parts : List (List (List Place))). line parts) (line_parts ps ∙ ap (λ rs. map (λ (r : List Place). r ∷ []) rs) e
    ∙ sym (kept_lines (ring_by kind.Line) given))

pub polygon_made : (ps given : List (Vec Ring Global)) → polygons_in ps ≡ parts_by kind.Polygon (polygons_in given)
    → polygon_shape ps ≡ shape_of kind.Polygon (polygons_in given)
polygon_made ps given e = ap (λ (parts : List (List (List Place))). polygon parts) e

-- ---- no more vertices are kept than were given
kept_short : (p : Place) (ps : List Place) → length (without_repeats (p ∷ ps)) ≤ suc (length ps)
kept_short p [] = omega arith
kept_short p (q ∷ qs) = by_test (same_place p q) (kept_short q qs)
  where
    by_test : (b : Bool) → length (without_repeats (q ∷ qs)) ≤ suc (length qs)
        → length (if b then without_repeats (q ∷ qs) else (p ∷ without_repeats (q ∷ qs))) ≤ suc (suc (length qs))
    by_test true h = omega (arith, h)
    by_test false h = omega (arith, h)

repeats_short : (ps : List Place) → length (without_repeats ps) ≤ length ps
repeats_short [] = omega arith
repeats_short (p ∷ ps) = kept_short p ps

skip_short : (p : Place) (ps : List Place) → length (skip_equal p ps) ≤ length ps
skip_short p [] = omega arith
skip_short p (q ∷ qs) = by_test (same_place p q) (skip_short p qs)
  where
    by_test : (b : Bool) → length (skip_equal p qs) ≤ length qs → length (if b then skip_equal p qs else (q ∷ qs)) ≤ suc (length qs)
    by_test true h = omega (arith, h)
    by_test false h = omega arith

opened_short : (ps : List Place) → length (opened ps) ≤ length ps
opened_short [] = omega arith
opened_short (p ∷ ps) = omega (arith, length-reverse (skip_equal p (reverse ps)), skip_short p (reverse ps), length-reverse ps)

ring_short : (k : Kind) (ps : List Place) → length (ring_by k ps) ≤ length ps
ring_short kind.Point ps = omega arith
ring_short kind.Line ps = repeats_short ps
ring_short kind.Polygon ps = omega (arith, opened_short (without_repeats ps), repeats_short ps)

rings_short : (k : Kind) (rs : List (List Place)) → length (all_vertices (rings_by k rs)) ≤ length (all_vertices rs)
rings_short k [] = omega arith
rings_short k (r ∷ rs) =
    omega (
      arith,
      length-append (ring_by k r) (all_vertices (rings_by k rs)),
      length-append r (all_vertices rs),
      ring_short k r,
      rings_short k rs,
    )

all_kept : (k : Kind) (parts : List (List (List Place))) → all_rings (parts_by k parts) ≡ rings_by k (all_rings parts)
all_kept k [] = refl
all_kept k (part ∷ parts) =
    ap (λ (rs : List (List Place)). rings_by k part ++ rs) (all_kept k parts) ∙ sym (map-append (ring_by k) part (all_rings parts))

countable_by : (k : Kind) (parts given : List (List (List Place))) → all_rings parts ≡ rings_by k (all_rings given) → IsCountable given
    → IsCountable parts
countable_by k parts given e c =
    record {
      rings = omega (arith, c.rings, ap (λ (rs : List (List Place)). length rs) e, length-map (all_rings given) (ring_by k));
      vertices = omega (arith, c.vertices, ap (λ (rs : List (List Place)). length (all_vertices rs)) e, rings_short k (all_rings given));
    }

pub line_countable : (ps given : List Ring) → rings_in ps ≡ rings_by kind.Line (rings_in given) → IsCountable (lines_in given)
    → IsCountable (lines_in ps)
line_countable ps given e c =
    countable_by kind.Line (lines_in ps) (lines_in given) (line_rings ps ∙ e ∙ ap (rings_by kind.Line) (sym (line_rings given))) c

pub polygon_countable : (ps given : List (Vec Ring Global)) → polygons_in ps ≡ parts_by kind.Polygon (polygons_in given)
    → IsCountable (polygons_in given) → IsCountable (polygons_in ps)
polygon_countable ps given e c =
    countable_by kind.Polygon (polygons_in ps) (polygons_in given) (ap all_rings e ∙ all_kept kind.Polygon (polygons_in given)) c

-- ---- neighbours differ
abbrev Starts : Place → List Place → Type 0
Starts v [] = ⊥
Starts v (w ∷ ws) = (v ≡ w) × NextDiffer (w ∷ ws)

next : (v w : Place) (us : List Place) → same_place v w ≡ false → Starts w us → NextDiffer (v ∷ us)
next v w [] e s = tt
next v w (u ∷ us) e s = (subst (λ (x : Place). same_place v x ≡ false) s.0 e, s.1)

starts_same : (v w : Place) (us : List Place) → v ≡ w → Starts w us → Starts v us
starts_same v w us e s = subst (λ (x : Place). Starts x us) (sym e) s

starts : (v : Place) (vs : List Place) → Starts v (without_repeats (v ∷ vs))
starts v [] = (refl, tt)
starts v (w ∷ ws) = by_test (same_place v w) refl (starts w ws)
  where
    by_test : (b : Bool) → same_place v w ≡ b → Starts w (without_repeats (w ∷ ws))
        → Starts v (if b then without_repeats (w ∷ ws) else (v ∷ without_repeats (w ∷ ws)))
    by_test true e s = starts_same v w (without_repeats (w ∷ ws)) (same_is v w e) s
    by_test false e s = (refl, next v w (without_repeats (w ∷ ws)) e s)

started : (v : Place) (us : List Place) → Starts v us → NextDiffer us
started v [] s = tt
started v (u ∷ us) s = s.1

kept_differ : (vs : List Place) → NextDiffer (without_repeats vs)
kept_differ [] = tt
kept_differ (v ∷ vs) = started v (without_repeats (v ∷ vs)) (starts v vs)

every_kept : (rs : List (List Place)) → Every NextDiffer (rings_by kind.Line rs)
every_kept [] = tt
every_kept (r ∷ rs) = (kept_differ r, every_kept rs)

pub line_differs : (ps given : List Ring) → rings_in ps ≡ rings_by kind.Line (rings_in given) → Every NextDiffer (rings_in ps)
line_differs ps given e = subst (λ (rs : List (List Place)). Every NextDiffer rs) (sym e) (every_kept (rings_in given))

-- ---- rings close
shorter : (xs ys : List Place) → NextDiffer (xs ++ ys) → NextDiffer xs
shorter [] ys h = tt
shorter (x ∷ []) ys h = tt
shorter (x ∷ y ∷ xs) ys h = (h.0, shorter (y ∷ xs) ys h.1)

one_more : (xs : List Place) (q p : Place) → NextDiffer (xs ++ q ∷ []) → AreUnlike q p → NextDiffer ((xs ++ q ∷ []) ++ p ∷ [])
one_more [] q p h u = (u, tt)
one_more (x ∷ []) q p h u = (h.0, (u, tt))
one_more (x ∷ y ∷ xs) q p h u = (h.0, one_more (y ∷ xs) q p h.1 u)

turned : (p q : Place) → same_place p q ≡ false → AreUnlike q p
turned p q e = same_turned p q ∙ e

reversed : (q : Place) (qs : List Place) → reverse (q ∷ qs) ≡ reverse qs ++ q ∷ []
reversed q qs = reverse-append (q ∷ []) qs

closes : (p : Place) (rs : List Place) → NextDiffer (p ∷ reverse rs) → 1 ≤ length (skip_equal p rs)
    → NextDiffer (p ∷ reverse (skip_equal p rs) ++ p ∷ [])
closes p [] h l = absurd (omega (arith, l))
closes p (q ∷ qs) h l = by_test (same_place p q) refl (closes p qs) l
  where
    longer : NextDiffer (p ∷ reverse qs ++ q ∷ [])
    longer = subst (λ (us : List Place). NextDiffer (p ∷ us)) (reversed q qs) h

    by_test : (b : Bool) → same_place p q ≡ b
        → (NextDiffer (p ∷ reverse qs) → 1 ≤ length (skip_equal p qs) → NextDiffer (p ∷ reverse (skip_equal p qs) ++ p ∷ []))
        → 1 ≤ length (if b then skip_equal p qs else (q ∷ qs))
        → NextDiffer (p ∷ reverse (if b then skip_equal p qs else (q ∷ qs)) ++ p ∷ [])
    by_test true e f l = f (shorter (p ∷ reverse qs) (q ∷ []) longer) l
    by_test false e f l =
        subst (λ (us : List Place). NextDiffer (p ∷ us ++ p ∷ [])) (sym (reversed q qs))
        (one_more (p ∷ reverse qs) q p longer (turned p q e))

opened_closes : (vs : List Place) → NextDiffer vs → 2 ≤ length (opened vs) → IsClosing (opened vs)
opened_closes [] h l = tt
opened_closes (p ∷ ps) h l =
    closes p (reverse ps) (subst (λ (us : List Place). NextDiffer (p ∷ us)) (sym (reverse-reverse ps)) h)
    (omega (arith, l, length-reverse (skip_equal p (reverse ps))))

every_closes : (rs : List (List Place)) → Every (λ ring. 3 ≤ length ring) (rings_by kind.Polygon rs)
    → Every IsClosing (rings_by kind.Polygon rs)
every_closes [] h = tt
every_closes (r ∷ rs) h = (opened_closes (without_repeats r) (kept_differ r) (omega (arith, h.0)), every_closes rs h.1)

pub polygon_closes : (ps given : List (Vec Ring Global)) → polygons_in ps ≡ parts_by kind.Polygon (polygons_in given)
    → IsFull (polygon_shape ps) → Every IsClosing (all_rings (polygons_in ps))
polygon_closes ps given e f =
    let k = ap all_rings e ∙ all_kept kind.Polygon (polygons_in given) in
    subst (λ (rs : List (List Place)). Every IsClosing rs) (sym k)
    (every_closes (all_rings (polygons_in given)) (subst (λ (rs : List (List Place)). Every (λ ring. 3 ≤ length ring) rs) k f.long))

pub in_parts : (parts : List (List (List Place))) → Every IsClosing (all_rings parts) → Every (Every IsClosing) parts
in_parts [] h = tt
in_parts (part ∷ parts) h =
    (every_left IsClosing part (all_rings parts) h, in_parts parts (every_right IsClosing part (all_rings parts) h))

-- ---- it is a shape
not_empty : {A : Type 0} (xs : List A) → (xs ≡ [] → ⊥) → 1 ≤ length xs
not_empty [] n = absurd (n refl)
not_empty (x ∷ xs) n = omega arith

both_of : {A : Type 0} (P Q : A → Type 0) (xs : List A) → Every P xs → Every Q xs → Every (λ x. P x × Q x) xs
both_of P Q [] h k = tt
both_of P Q (x ∷ xs) h k = ((h.0, k.0), both_of P Q xs h.1 k.1)

single_rings : (ps : List Ring) → Every (IsPart kind.Line) (lines_in ps)
single_rings [] = tt
single_rings (p ∷ ps) = (refl, single_rings ps)

ringed_parts : (parts : List (List (List Place))) → ¬ (SomeOf (λ part. part ≡ []) parts) → Every (IsPart kind.Polygon) parts
ringed_parts [] n = tt
ringed_parts (part ∷ parts) n = (not_empty part (λ e. n (inl e)), ringed_parts parts (λ h. n (inr h)))

pub line_drawn : (ps : List Ring) (segs : List Segment) (env : Rectangle) (frames : List Rectangle) → IsFull (line_shape ps) → Every NextDiffer (rings_in ps)
    → Every IsInReach (vertices_of (line_shape ps)) → segs ≡ flat_map path (rings_in ps) → env ≡ envelope_of (line_shape ps)
    → Every IsSegment segs → AreFrames frames segs → IsDrawn (line_shape ps) segs env frames
line_drawn ps segs env frames f d r s e u k =
    record {
      valid = record {
        some = not_empty (lines_in ps) (λ h. f.ringed (inl h));
        parts = single_rings ps;
        rings = both_of (λ ring. 2 ≤ length ring) NextDiffer (rings_of (line_shape ps)) f.long
            (subst (λ (rs : List (List Place)). Every NextDiffer rs) (sym (line_rings ps)) d);
        vertices = f.few;
        in_reach = r;
        simple = tt;
      };
      segments = s ∙ ap (λ (rs : List (List Place)). flat_map path rs) (sym (line_rings ps));
      proper = u;
      envelope = e;
      framed = k;
    }

pub polygon_drawn : (ps : List (Vec Ring Global)) (segs : List Segment) (env : Rectangle) (frames : List Rectangle) → IsFull (polygon_shape ps)
    → Every IsClosing (all_rings (polygons_in ps)) → Every IsInReach (vertices_of (polygon_shape ps))
    → segs ≡ segments_of (polygon_shape ps) → EveryPair AreSimple segs → env ≡ envelope_of (polygon_shape ps)
    → Every IsSegment segs → AreFrames frames segs → IsDrawn (polygon_shape ps) segs env frames
polygon_drawn ps segs env frames f d r s a e u k =
    record {
      valid = record {
        some = not_empty (polygons_in ps) (λ h. f.ringed (inl h));
        parts = ringed_parts (polygons_in ps) (λ h. f.ringed (inr h));
        rings = both_of (λ ring. 3 ≤ length ring) IsClosing (rings_of (polygon_shape ps)) f.long d;
        vertices = f.few;
        in_reach = r;
        simple = subst (λ (ss : List Segment). EveryPair AreSimple ss) s a;
      };
      segments = s;
      proper = u;
      envelope = e;
      framed = k;
    }

-- ---- faults
pub full_flawless : (s : Shape) → IsFull s → (s.kind ≡ kind.Polygon → (i j : ℕ) → ¬ (IsPair AreBad (segments_of s) i j)) → IsFlawless s
full_flawless s f g (TooFew n) h = absurd (none_few s f n h)
full_flawless s f g (TooMany n) h = absurd (none_many s f n h.1)
full_flawless s f g (Cross i j) h =
    absurd (g h.2 i j
    (record {
      ordered = h.3.pair.ordered;
      s = h.3.pair.s;
      t = h.3.pair.t;
      first = h.3.pair.first;
      second = h.3.pair.second;
      says = inl h.3.pair.says;
    }))
full_flawless s f g (Along i j) h =
    absurd (g h.2 i j
    (record {
      ordered = h.3.pair.ordered;
      s = h.3.pair.s;
      t = h.3.pair.t;
      first = h.3.pair.first;
      second = h.3.pair.second;
      says = inr h.3.pair.says;
    }))
full_flawless s f g NoMemory h = refl

pub pair_fault : (s : Shape) → s.kind ≡ kind.Polygon → IsFull s → (fault : ShapeFault) → IsPairFault (segments_of s) fault → IsFault s fault
pair_fault s k f (TooFew n) h = absurd h
pair_fault s k f (TooMany n) h = absurd h
pair_fault s k f (Cross i j) h = (none_few s f, none_many s f, k, h)
pair_fault s k f (Along i j) h = (none_few s f, none_many s f, k, h)
pair_fault s k f NoMemory h = absurd h

pub line_flawless : (ps : List Ring) → IsFull (line_shape ps) → IsFlawless (line_shape ps)
line_flawless ps f = full_flawless (line_shape ps) f (λ k. absurd (no_polygon k))
  where
    no_polygon : kind.Line ≡ kind.Polygon → ⊥
    no_polygon e = cc

-- ---- how many segments
path_count : (p : Place) (ps : List Place) → length (path (p ∷ ps)) ≡ length ps
path_count p [] = refl
path_count p (q ∷ qs) = omega (arith, path_count q qs)

pub closed_count : (vs : List Place) → length (closed_path vs) ≡ length vs
closed_count [] = refl
closed_count (p ∷ ps) = omega (arith, path_count p (ps ++ p ∷ []), length-append ps (p ∷ []))

pub segments_count : (rs : List (List Place)) → length (flat_map closed_path rs) ≡ length (all_vertices rs)
segments_count [] = refl
segments_count (r ∷ rs) =
    omega (
      arith,
      length-append (closed_path r) (flat_map closed_path rs),
      length-append r (all_vertices rs),
      closed_count r,
      segments_count rs,
    )
