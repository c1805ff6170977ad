-- Worked rows, told by the sentences and computed by the cuttings.
use Rattle.std.proofs.Common.{◌≡◌, ℕ, ℤ, pos, negsuc, false, List, [], ◌∷◌, Some, None, refl, inl, inr, arith, lit<}
use Rattle.std.proofs.lemmas.Int.{ints}
use Rattle.plane_terms.specs.Point.{Place, Point, point}
use Rattle.plane_terms.specs.Rectangle.{RectHolds}
use Rattle.plane_terms.specs.Shape.{envelope_of}
use Rattle.plane_terms.specs.HalfPlane.{HalfPlane, x_over, x_under, x_is, y_is}
use Rattle.plane_terms.specs.Decide.{has_point, parts_allow, pair_allows, parts_of, shadow_of, flat_by, with_bound, pair_by, is_above}
use Rattle.plane_terms.specs.Polygon.{IsInside, OnBoundary}
use Rattle.plane_terms.specs.declared.op.Op.TheVariants.{Over}
use Rattle.plane_terms.specs.declared.kind.Kind.TheVariants as shapes
use Rattle.topology_terms.specs.Feature.{Feature, Side, feature_at, sides, env}
use Rattle.topology_terms.specs.Broken.{Row, BrokenAt}
use Rattle.topology_terms.specs.Plans.{IsCutting}
use Rattle.topology_terms.specs.Meaning.{Finding}
use Rattle.rule_words.specs.declared.rule_kind.RuleKind.TheVariants as kind

abbrev at : ℤ → ℤ → Place
at x y = record { x = x; y = y }

abbrev well : ℕ → ℤ → ℤ → Feature
well h x y = record { handle = h; class = 1; subtype = 0; shape = record { kind = shapes.Point; parts = ((at x y ∷ []) ∷ []) ∷ [] } }

abbrev class_1 : Side
class_1 = record { class = 1; subtype = None }

abbrev no_side : Side
no_side = record { class = 0; subtype = None }

-- ---- two points at one place
abbrev wells : List Feature
wells = well 1 (pos 3) (pos 4) ∷ well 2 (pos 3) (pos 4) ∷ []

abbrev disjoint : Row
disjoint = record { kind = kind.PointMustBeDisjoint; origin = class_1; dest = no_side }

at_3_4 : BrokenAt disjoint wells 1 2 (point (pos 3) (pos 4))
unfolding BrokenAt feature_at
at_3_4 = record {
  f = well 1 (pos 3) (pos 4);
  g = well 2 (pos 3) (pos 4);
  subject = record { live = refl; on_side = record { class = refl; subtype = tt } };
  partner = record { live = refl; on_side = record { class = refl; subtype = tt } };
  first = lit< tt;
  a_at = record { x = refl; y = refl };
  b_at = record { x = refl; y = refl };
}

-- the other way round it is not broken: a comes first
not_2_1 : (p : Point) → ¬ (BrokenAt disjoint wells 2 1 p)
unfolding BrokenAt
not_2_1 p h = omega (arith, h.first)

-- the finding of the subject 1 is one cell at 3 4
cut_3_4 : IsCutting disjoint wells 1 (record { other = 2; whole = false; cells = (x_is (pos 3) ∷ y_is (pos 4) ∷ []) ∷ [] } ∷ [])
unfolding IsCutting feature_at envelope_of
cut_3_4 = (well 1 (pos 3) (pos 4), refl, refl)

-- ---- two squares that overlap
abbrev lot : ℕ → ℤ → ℤ → Feature
lot h a b = record {
  handle = h;
  class = 1;
  subtype = 0;
  shape = record {
    kind = shapes.Polygon;
    parts =
        ((at a a ∷ at b a ∷ at b b ∷ at a b ∷ []) ∷ []) ∷ [];
  };
}

abbrev lot_1 : Feature
lot_1 = lot 1 (pos 0) (pos 10)

abbrev lot_2 : Feature
lot_2 = lot 2 (pos 5) (pos 15)

abbrev lots : List Feature
lots = lot_1 ∷ lot_2 ∷ []

abbrev overlap : Row
overlap = record { kind = kind.PolygonMustNotOverlap; origin = class_1; dest = no_side }

inside_1 : IsInside (sides lot_1) (point (pos 7) (pos 7))
inside_1 = record {
  clear = λ h. elim h [
    | inl o ↦ omega (arith, ints, o.straight)
    | inr h ↦ elim h [
      | inl o ↦ omega (arith, ints, o.straight)
      | inr h ↦ elim h [ inl o ↦ omega (arith, ints, o.straight) | inr h ↦ elim h [ inl o ↦ omega (arith, ints, o.straight) | inr h ↦ h ] ]
    ]
  ];
  odd = refl;
}

inside_2 : IsInside (sides lot_2) (point (pos 7) (pos 7))
inside_2 = record {
  clear = λ h. elim h [
    | inl o ↦ omega (arith, ints, o.straight)
    | inr h ↦ elim h [
      | inl o ↦ omega (arith, ints, o.straight)
      | inr h ↦ elim h [ inl o ↦ omega (arith, ints, o.straight) | inr h ↦ elim h [ inl o ↦ omega (arith, ints, o.straight) | inr h ↦ h ] ]
    ]
  ];
  odd = refl;
}

at_7_7 : BrokenAt overlap lots 1 2 (point (pos 7) (pos 7))
unfolding BrokenAt feature_at
at_7_7 = record {
  f = lot_1;
  g = lot_2;
  subject = record { live = refl; on_side = record { class = refl; subtype = tt } };
  partner = record { live = refl; on_side = record { class = refl; subtype = tt } };
  first = lit< tt;
  inside_a = inside_1;
  inside_b = inside_2;
}

-- at the first one's border it is not broken
on_border : OnBoundary (sides lot_1) (point (pos 10) (pos 7))
on_border = inr (inl (record {
  straight = refl;
  across = inl (omega (arith, ints), omega (arith, ints));
  along =
      inl (omega (arith, ints), omega (arith, ints));
}))

not_at_10_7 : ¬ (BrokenAt overlap lots 1 2 (point (pos 10) (pos 7)))
unfolding BrokenAt feature_at
not_at_10_7 h =
    let l : Some lot_1 ≡ Some h.f = h.subject.live in
    let same : lot_1 ≡ h.f = cc in
    h.inside_a.clear (rw (← same) on_border)

-- the finding of the subject 1 is one cell; that of the subject 2 is none
abbrev up_or_down : ℤ → ℤ → HalfPlane
up_or_down b c = record { a = pos 0; b = b; c = c; op = Over }

-- the one finding of a first lot with the lot 2: what is inside both
abbrev with_2 : List Finding
with_2 = record {
  other = 2;
  whole = false;
  cells = (
      x_over (pos 0) ∷ x_under (pos 10) ∷ up_or_down (pos 10) (pos 0) ∷ up_or_down (negsuc 9) (pos 100)
      ∷ x_over (pos 5) ∷ x_under (pos 15) ∷ up_or_down (pos 10) (negsuc 49) ∷ up_or_down (negsuc 9) (pos 150) ∷ []
      ) ∷ [];
} ∷ []

cut_lots : IsCutting overlap lots 1 with_2
unfolding IsCutting feature_at envelope_of has_point parts_allow pair_allows parts_of shadow_of flat_by with_bound pair_by is_above
cut_lots = (lot_1, refl, refl)

cut_none : IsCutting overlap lots 2 []
unfolding IsCutting feature_at envelope_of
cut_none = (lot_2, refl, refl)

-- a feature of another class is not judged
cut_unjudged : IsCutting (record overlap { origin = record { class = 2; subtype = None } }) lots 1 []
unfolding IsCutting feature_at
cut_unjudged = (lot_1, refl, refl)

-- ---- the same two squares, of two subtypes, and a rule between these
abbrev lots_of : ℕ → Side
lots_of s = record { class = 1; subtype = Some s }

abbrev of_subtype : ℕ → Feature → Feature
of_subtype s f = record f { subtype = s }

abbrev of_two : List Feature
of_two = of_subtype 1 lot_1 ∷ of_subtype 2 lot_2 ∷ []

abbrev between : Row
between = record { kind = kind.PolygonMustNotOverlapWith; origin = lots_of 1; dest = lots_of 2 }

between_at_7_7 : BrokenAt between of_two 1 2 (point (pos 7) (pos 7))
unfolding BrokenAt feature_at
between_at_7_7 = record {
  f = of_subtype 1 lot_1;
  g = of_subtype 2 lot_2;
  subject = record { live = refl; on_side = record { class = refl; subtype = refl } };
  partner = record { live = refl; on_side = record { class = refl; subtype = refl } };
  inside_a = inside_1;
  inside_b = inside_2;
}

-- the first is judged, the second is not
cut_of_two : IsCutting between of_two 1 with_2
unfolding IsCutting feature_at envelope_of has_point parts_allow pair_allows parts_of shadow_of flat_by with_bound pair_by is_above
cut_of_two = (of_subtype 1 lot_1, refl, refl)

cut_of_second : IsCutting between of_two 2 []
unfolding IsCutting feature_at
cut_of_second = (of_subtype 2 lot_2, refl, refl)

-- and once the second has another subtype, nothing is found
cut_retyped : IsCutting between (of_subtype 1 lot_1 ∷ of_subtype 3 lot_2 ∷ []) 1 []
unfolding IsCutting feature_at envelope_of
cut_retyped = (of_subtype 1 lot_1, refl, refl)

-- ---- why the laws want features that fit: over a line an odd number of its segments runs below, so far above its envelope is 'inside'
abbrev road : Feature
road = record {
  handle = 1;
  class = 1;
  subtype = 0;
  shape = record {
    kind = shapes.Line;
    parts =
        ((at (pos 0) (pos 0) ∷ at (pos 10) (pos 0) ∷ []) ∷ []) ∷ [];
  };
}

above_road : IsInside (sides road) (point (pos 5) (pos 100))
above_road = record { clear = λ h. elim h [ inl o ↦ omega (arith, ints, o.straight) | inr h ↦ h ]; odd = refl }

out_of_envelope : ¬ (RectHolds (env road) (point (pos 5) (pos 100)))
unfolding envelope_of
out_of_envelope h = omega (arith, ints, h.above)
