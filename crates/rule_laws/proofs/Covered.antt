-- Rules on the whole subject: covered by one, without a point inside, of more than one part.
use Rattle.std.proofs.Common.{◌≡◌, ◌≢◌, ◌↔◌, ◌⊎◌, inl, inr, ℕ, ℤ, pos, ◌<◌, Bool, true, false, refl, sym, ◌∙◌, List, [], ◌∷◌, map, arith, length}
use Rattle.std.specs.Prelude.{filter, not, nat_lt}
use Rattle.std.specs.List.{list_any}
use Rattle.std.proofs.lemmas.Int.{ints}
use Rattle.std.proofs.lemmas.Bool.{false≢true}
use Rattle.std.proofs.lemmas.Bool.Decides.{nat_tests}
use Rattle.plane_terms.specs.Lists.{Every, SomeOf}
use Rattle.plane_terms.specs.Point.{Point, point_at}
use Rattle.plane_terms.specs.Rectangle.{rects_meet}
use Rattle.plane_terms.specs.Segment.{Segment, IsSegment, OnSegment}
use Rattle.plane_terms.specs.Polygon.{IsInClosure}
use Rattle.plane_terms.specs.HalfPlane.{Says, value_at}
use Rattle.plane_terms.specs.Cell.{Cell, InCell, InCells, HavePoints, on_segment}
use Rattle.plane_terms.specs.Carve.{carve_of}
use Rattle.plane_terms.specs.declared.op.Op.{Op}
use Rattle.plane_terms.specs.declared.op.Op.TheVariants.{Over, AtLeast, Zero}
use Rattle.plane_terms.specs.declared.kind.Kind.{Kind}
use Rattle.plane_terms.specs.declared.kind.Kind.TheVariants as shapes
use Rattle.plane_terms.proofs.ListLemmas.{some_or_none, every_filter, every_map}
use Rattle.topology_terms.specs.Feature.{Feature, Side, is_on_side, sides, place, env}
use Rattle.topology_terms.specs.Plans.{near, none_covers, none_inside, has_parts}
use Rattle.topology_terms.specs.Cells.{inside, outside}
use Rattle.topology_terms.specs.Tests.{is_inside_at, is_empty, closed_cells, covers}
use Rattle.topology_terms.specs.Together.{of_side}
use Rattle.number_laws.proofs.Order.{cases_order_ℤ}
use Rattle.cell_laws.proofs.Lists.{some_append, some_map}
use Rattle.cell_laws.proofs.Meets.{carve_points, kept_have_points}
use Rattle.cell_laws.proofs.SegmentCells.{on_segment_points}
use Rattle.cell_laws.proofs.OnLine.{on_lo, at_itself}
use Rattle.column_laws.proofs.Exact.{inside_is_exact}
use Rattle.sound_laws.proofs.Meetings.{meets_test}
use Rattle.sound_laws.proofs.FeatureFilters.{kept_twice}
use Rattle.rule_laws.proofs.Held.{place_held, line_held, closure_held}
use Rattle.rule_laws.proofs.Crossings.{inside_held}
use Rattle.rule_laws.proofs.Words.{IsCoveredBy, HasInside, HasParts}
use Rattle.rule_laws.proofs.Families.{IsFit}
use Rattle.rule_laws.proofs.Lists.{every_unfilter}
use Rattle.rule_laws.proofs.Uncovered.{outside_points, some_same_of, none_each}
use Rattle.rule_laws.proofs.Tests.{any_some}
use Rattle.rule_laws.proofs.Spots.{not_test, inside_test}
use Rattle.rule_laws.proofs.Wholes.{WholeRule}

abbrev pub NoneIs : (Feature → Feature → Type 0) → Feature → List Feature → Type 0
NoneIs C f gs = Every (λ g. ¬ (C f g)) gs

-- ---- whatever is said of one of those around: that none of them is so
module _ (k l : Kind) (C : Feature → Feature → Type 0) (test : Feature → Feature → Bool)
    (meet : (f g : Feature) → IsFit k f → IsFit l g → C f g → rects_meet (env f) (env g) ≡ true)
    (exact : (f g : Feature) → IsFit k f → IsFit l g → (test f g ≡ true) ↔ C f g) where
  near_of_side : (S : Side) (F : List Feature) (f : Feature)
      → near S f F ≡ filter (λ (g : Feature). rects_meet (env f) (env g)) (of_side S F)
  near_of_side S F f = sym (kept_twice (λ (g : Feature). rects_meet (env f) (env g)) (is_on_side S) F)

  pub none_whole_rule : WholeRule k l (NoneIs C) (λ f gs. not (list_any (test f) gs))
  none_whole_rule = record {
    local = λ S F f u v.
        let near_test : Feature → Bool = λ (g : Feature). rects_meet (env f) (env g) in
        rw (near_of_side S F f) (
          (λ n. every_filter (λ g. ¬ (C f g)) near_test (of_side S F) n),
          (λ n. every_unfilter (λ g. ¬ (C f g)) near_test (of_side S F)
              (every_map (IsFit l) (λ g. near_test g ≡ false → ¬ (C f g)) (λ g w t c. false≢true (sym t ∙ meet f g u w c))
              (of_side S F) v) n),
        );
    exact = λ f gs u v.
        let x = any_some (IsFit l) (λ g. C f g) (test f) (λ g w. exact f g u w) gs v in
        let y = not_test (list_any (test f) gs) (SomeOf (λ g. C f g) gs) x in
        let z = none_each (λ g. C f g) gs in
        (λ e. z.1 (y.0 e), λ n. y.1 (z.0 n));
  }

-- ---- a cell holds a point or not
says_or_not : (o : Op) (v : ℤ) → Says o v ⊎ ¬ (Says o v)
says_or_not Over v = elim (cases_order_ℤ (pos 0) v) [ inl h ↦ inl h | inr h ↦ inr (λ k. omega (arith, ints)) ]
says_or_not AtLeast v = elim (cases_order_ℤ v (pos 0)) [ inl h ↦ inr (λ k. omega (arith, ints)) | inr h ↦ inl h ]
says_or_not Zero v = elim (cases_order_ℤ (pos 0) v) [
  | inl h ↦ inr (λ k. omega (arith, ints))
  | inr h ↦ elim (cases_order_ℤ v (pos 0)) [ inl i ↦ inr (λ k. omega (arith, ints)) | inr i ↦ inl (omega (arith, ints)) ]
]

pub in_or_not : (c : Cell) (p : Point) → InCell c p ⊎ ¬ (InCell c p)
in_or_not [] p = inl tt
in_or_not (h ∷ hs) p = elim (says_or_not h.op (value_at h p)) [
  | inl a ↦ elim (in_or_not hs p) [ inl b ↦ inl (a, b) | inr n ↦ inr (λ k. n k.1) ]
  | inr n ↦ inr (λ k. n k.0)
]

-- ---- rule 8
closed_points : (f : Feature) (p : Point) → IsFit shapes.Polygon f → InCells (closed_cells f) p ↔ IsInClosure (sides f) p
closed_points f p u =
    let a = some_append (λ c. InCell c p) (inside f) (map {A = Segment} on_segment (sides f)) in
    let b = inside_is_exact (sides f) (u.simple u.kind) p in
    let c = some_map (λ c. InCell c p) on_segment (sides f) in
    let d = some_same_of IsSegment (λ s. InCell (on_segment s) p) (λ s. OnSegment s p) (λ s g. on_segment_points s p g)
    (sides f) u.proper in (
      λ h. elim (a.0 h) [ inl i ↦ inl (b.0 i) | inr i ↦ inr (d.0 (c.0 i)) ],
      λ h. elim h [ inl i ↦ a.1 (inl (b.1 i)) | inr i ↦ a.1 (inr (c.1 (d.1 i))) ],
    )

closed_or_not : (g : Feature) (p : Point) → IsFit shapes.Polygon g → IsInClosure (sides g) p ⊎ ¬ (IsInClosure (sides g) p)
closed_or_not g p u =
    let e = closed_points g p u in
    elim (some_or_none (λ c. InCell c p) (λ c. in_or_not c p) (closed_cells g)) [ inl i ↦ inl (e.0 i) | inr n ↦ inr (λ k. n (e.1 k)) ]

empty_test : (cs : List Cell) → HavePoints cs → (is_empty cs ≡ true) ↔ ((p : Point) → ¬ (InCells cs p))
empty_test [] h = (λ e p i. i, λ n. refl)
empty_test (c ∷ cs) h = (λ e. absurd (false≢true e), λ n. absurd (n h.0.0 (inl h.0.1)))

covers_exact : (f g : Feature) → IsFit shapes.Polygon f → IsFit shapes.Polygon g → (covers f g ≡ true) ↔ IsCoveredBy f g
covers_exact f g u v =
    let e = empty_test (carve_of (closed_cells f) (outside g)) (kept_have_points _) in (
      λ t p i. elim (closed_or_not g p v) [
        | inl k ↦ k
        | inr n ↦ absurd (e.0 t p ((carve_points (closed_cells f) (outside g) p).1 ((closed_points f p u).1 i, (outside_points g p v).1 n)))
      ],
      λ h. e.1 (λ p i. let m = (carve_points (closed_cells f) (outside g) p).0 i in (outside_points g p v).0 m.1
          (h p ((closed_points f p u).0 m.0))),
    )

-- a polygon has a point that is closed in it
some_vertex : (ss : List Segment) → ss ≢ [] → (p : Point) × SomeOf (λ s. OnSegment s p) ss
some_vertex [] n = absurd (n refl)
some_vertex (s ∷ ss) n = (point_at s.lo, inl (on_lo s))

covers_meet : (f g : Feature) → IsFit shapes.Polygon f → IsFit shapes.Polygon g → IsCoveredBy f g → rects_meet (env f) (env g) ≡ true
covers_meet f g u v h =
    let y = some_vertex (sides f) (u.boundary u.kind) in
    meets_test (env f) (env g) (y.0, line_held f y.0 y.1, closure_held g y.0 v (h y.0 (inr y.1)))

pub covered_rule : WholeRule shapes.Polygon shapes.Polygon (NoneIs IsCoveredBy) none_covers
covered_rule = none_whole_rule shapes.Polygon shapes.Polygon IsCoveredBy covers covers_meet covers_exact

-- ---- rule 9
inside_exact : (f g : Feature) → IsFit shapes.Polygon f → (is_inside_at (sides f) (place g) ≡ true) ↔ HasInside f g
inside_exact f g u = (
  λ t. (point_at (place g), at_itself (place g), (inside_test (sides f) (place g) (point_at (place g)) u.proper (at_itself (place g))).0 t),
  λ h. (inside_test (sides f) (place g) h.0 u.proper h.1).1 h.2,
)

pub contains_rule : (l : Kind) → WholeRule shapes.Polygon l (NoneIs HasInside) none_inside
contains_rule l = none_whole_rule shapes.Polygon l HasInside (λ f g. is_inside_at (sides f) (place g))
    (λ f g u v h. meets_test (env f) (env g) (h.0, inside_held f.shape u.kind h.0 h.2, place_held g h.0 h.1))
    (λ f g u v. inside_exact f g u)

-- ---- rule 21
more_test : (n : ℕ) → (nat_lt 1 n ≡ true) ↔ (1 < n)
more_test n = (λ t. grind (arith, nat_tests), λ h. grind (arith, nat_tests))

pub parts_rule : (k l : Kind) → WholeRule k l (λ f gs. HasParts f) has_parts
parts_rule k l = record {
  local = λ S F f u v. ((λ h. h), (λ h. h));
  exact = λ f gs u v. more_test (length f.shape.parts);
}
