-- Where so many of the features near a subject are at a place, it is no bad place, whatever else is there.
use Rattle.std.proofs.Common.{◌≡◌, inl, inr, ℕ, ◌≤◌, Bool, true, false, refl, List, [], ◌∷◌, Some, cond, arith}
use Rattle.std.specs.Prelude.{◌&&◌, ◌==◌, nat_le, filter}
use Rattle.std.specs.List.{list_any}
use Rattle.std.proofs.lemmas.Bool.{false≢true, cases_Bool, and_from, or_left, or_right, leb-true}
use Rattle.std.proofs.lemmas.Bool.Decides.{nat_tests}
use Rattle.plane_terms.specs.Lists.{SomeOf, how_many}
use Rattle.plane_terms.specs.Point.{Place, point_at}
use Rattle.plane_terms.specs.Rectangle.{RectHolds, rects_meet}
use Rattle.plane_terms.specs.Segment.{Segment, OnSegment}
use Rattle.plane_terms.specs.Line.{holds_place}
use Rattle.plane_terms.proofs.ListLemmas.{how_many_joined}
use Rattle.plane_terms.proofs.Truths.{both_parts}
use Rattle.cell_laws.proofs.OnLine.{at_itself}
use Rattle.cell_laws.proofs.AtPlaces.{same_is}
use Rattle.rule_words.specs.declared.rule_kind.RuleKind.{RuleKind}
use Rattle.rule_words.specs.declared.rule_kind.RuleKind.TheVariants as rule
use Rattle.topology_terms.specs.Feature.{Feature, Side, is_on_side, sides, place, env, feature_at, IsAscending}
use Rattle.topology_terms.specs.Together.{sides_all}
use Rattle.topology_terms.specs.Tests.{holds_at, segments_at, ends_at}
use Rattle.topology_terms.specs.Plans.{near, none_at, is_point_at, has_side_at, ends_there, is_dangle, is_pseudo}
use Rattle.topology_terms.specs.Broken.{Row}
use Rattle.sound_laws.proofs.Meetings.{meets_test}
use Rattle.validation_laws.specs.Views.{counts_at, counts_by, enough_of, has_enough}
use Rattle.validation_laws.proofs.Fewer.{fewer_pass}
use Rattle.rule_laws.proofs.Nears.{is_near}
use Rattle.rule_laws.proofs.Held.{line_held, place_held}
use Rattle.rule_laws.proofs.Tests.{place_from}
use Rattle.rule_laws.proofs.Lawful.{row_of}

-- ---- how many pass
one_more : {A : Type 0} (s : A → Bool) (b : Bool) (x : A) (ys : List A) → how_many s ys ≤ how_many s (cond b (x ∷ ys) ys)
one_more s true x ys = elim (cases_Bool (s x)) [ inl t ↦ rw t (omega arith) | inr t ↦ rw t (omega arith) ]
one_more s false x ys = omega arith

-- what passes t is kept by r, and passes s there
no_fewer : {A : Type 0} (t r s : A → Bool) → ((x : A) → t x ≡ true → (r x ≡ true) × (s x ≡ true)) → (xs : List A)
    → how_many t xs ≤ how_many s (filter r xs)
no_fewer t r s m [] = omega arith
no_fewer t r s m (x ∷ xs) =
    let rest = no_fewer t r s m xs in
    elim (cases_Bool (t x)) [
      | inl e ↦ let k = m x e in rw (e, k.0, k.1) (omega (arith, rest))
      | inr e ↦ rw e (omega (arith, rest, one_more s (r x) x (filter r xs)))
    ]

one_passes : {A : Type 0} (test : A → Bool) (xs : List A) → list_any test xs ≡ true → 1 ≤ how_many test xs
one_passes test [] e = absurd (false≢true e)
one_passes test (x ∷ xs) e = elim (cases_Bool (test x)) [
  | inl t ↦ rw t (omega arith)
  | inr t ↦ rw t (one_passes test xs (rw t at e))
]

any_passes : {A : Type 0} (test : A → Bool) (xs : List A) → 1 ≤ how_many test xs → list_any test xs ≡ true
any_passes test [] l = absurd (omega (arith, l))
any_passes test (x ∷ xs) l = elim (cases_Bool (test x)) [
  | inl t ↦ or_left (test x) (list_any test xs) t
  | inr t ↦ or_right (test x) (list_any test xs) (any_passes test xs (rw t at l))
]

-- ---- those at a place are near a subject that holds the place
some_on : (ss : List Segment) (q : Place) → holds_at ss q ≡ true → SomeOf (λ s. OnSegment s (point_at q)) ss
some_on [] q e = absurd (false≢true e)
some_on (s ∷ ss) q e = elim (cases_Bool (holds_place s q)) [
  | inl t ↦ inl (place_from s q (point_at q) (at_itself q) t)
  | inr t ↦ inr (some_on ss q (rw t at e))
]

side_held : (g : Feature) (q : Place) → has_side_at g q ≡ true → RectHolds (env g) (point_at q)
side_held g q e = line_held g (point_at q) (some_on (sides g) q e)

point_held : (g : Feature) (q : Place) → is_point_at g q ≡ true → RectHolds (env g) (point_at q)
point_held g q e = place_held g (point_at q) (rw (same_is (place g) q e) (at_itself q))

-- the envelope of what counts holds the place
pub counts_held : (row : Row) (g : Feature) (q : Place) → counts_at row g q ≡ true → RectHolds (env g) (point_at q)
counts_held row g q t = by_kind row.kind t
  where
    by_kind : (k : RuleKind) → counts_by k row g q ≡ true → RectHolds (env g) (point_at q)
    by_kind rule.LineEndpointMustBeCoveredBy t = point_held g q (both_parts (is_on_side row.dest g) (is_point_at g q) t).1
    by_kind other t =
        let ends = (both_parts (is_on_side row.origin g) (ends_there g q && has_side_at g q) t).1 in
        side_held g q (both_parts (ends_there g q) (has_side_at g q) ends).1

module _ (f : Feature) (q : Place) (held : RectHolds (env f) (point_at q)) where
  is_near_by : (A : Side) (g : Feature) → is_on_side A g ≡ true → RectHolds (env g) (point_at q) → is_near A f g ≡ true
  is_near_by A g t h = and_from (is_on_side A g) (rects_meet (env f) (env g)) t (meets_test (env f) (env g) (point_at q, held, h))

  side_near : (A : Side) (g : Feature) → is_on_side A g ≡ true → has_side_at g q ≡ true → is_near A f g ≡ true
  side_near A g t e = is_near_by A g t (side_held g q e)

  point_near : (A : Side) (g : Feature) → is_on_side A g ≡ true → is_point_at g q ≡ true → is_near A f g ≡ true
  point_near A g t e = is_near_by A g t (point_held g q e)

-- each that has a segment there counts with one at least
segments_many : (q : Place) (gs : List Feature) → how_many (λ (g : Feature). has_side_at g q) gs ≤ segments_at gs q
segments_many q [] = omega arith
segments_many q (g ∷ gs) =
    let rest = segments_many q gs in
    let sum = how_many_joined (λ (t : Segment). holds_place t q) (sides g) (sides_all gs) in
    elim (cases_Bool (has_side_at g q)) [
      | inl t ↦ rw (t, sum) (omega (arith, rest, one_passes (λ (s : Segment). holds_place s q) (sides g) t))
      | inr t ↦ rw (t, sum) (omega (arith, rest))
    ]

-- ---- tests of numbers
pub le_more : (m j k : ℕ) → j ≤ k → nat_le m j ≡ true → nat_le m k ≡ true
le_more m j k l t = grind (arith, nat_tests)

not_one : (n : ℕ) → 3 ≤ n → (n == 1) ≡ false
not_one n l = grind (arith, nat_tests)

not_two : (b : Bool) (n : ℕ) → 3 ≤ n → (b && (n == 2)) ≡ false
not_two b n l = grind (arith, nat_tests)

-- ---- enough for a rule
-- three ends, three segments at least
module _ (A : Side) (f : Feature) (q : Place) (held : RectHolds (env f) (point_at q)) (G : List Feature) where
  ends_many : nat_le 3 (how_many (λ (g : Feature). is_on_side A g && (ends_there g q && has_side_at g q)) G) ≡ true
      → 3 ≤ segments_at (near A f G) q
  ends_many t =
      let counted = no_fewer (λ (g : Feature). is_on_side A g && (ends_there g q && has_side_at g q)) (is_near A f)
      (λ (g : Feature). has_side_at g q) (λ g e.
      let k = both_parts (is_on_side A g) (ends_there g q && has_side_at g q) e in
      let side = (both_parts (ends_there g q) (has_side_at g q) k.1).1 in
      (side_near f q held A g k.0 side, side)) G in
      omega (arith, leb-true 3 _ t, counted, segments_many q (near A f G))

  points_some : nat_le 1 (how_many (λ (g : Feature). is_on_side A g && is_point_at g q) G) ≡ true
      → list_any (λ (g : Feature). is_point_at g q) (near A f G) ≡ true
  points_some t =
      let counted = no_fewer (λ (g : Feature). is_on_side A g && is_point_at g q) (is_near A f) (λ (g : Feature). is_point_at g q) (λ g e.
      let k = both_parts (is_on_side A g) (is_point_at g q) e in
      (point_near f q held A g k.0 k.1, k.1)) G in
      any_passes (λ (g : Feature). is_point_at g q) (near A f G) (omega (arith, leb-true 1 _ t, counted))

module _ (A B : Side) (f : Feature) (q : Place) (held : RectHolds (env f) (point_at q)) (G : List Feature) where
  pub no_dangle : has_enough (row_of rule.LineMustNotHaveDangles A B) G q ≡ true → is_dangle (near A f G) q ≡ false
  no_dangle t = not_one (segments_at (near A f G) q) (ends_many A f q held G t)

  pub no_pseudo : has_enough (row_of rule.LineMustNotHavePseudoNodes A B) G q ≡ true → is_pseudo (near A f G) q ≡ false
  no_pseudo t = not_two (ends_at (near A f G) q == 2) (segments_at (near A f G) q) (ends_many A f q held G t)

  pub not_bare : has_enough (row_of rule.LineEndpointMustBeCoveredBy A B) G q ≡ true → none_at is_point_at (near B f G) q ≡ false
  not_bare t = rw (points_some B f q held G t) refl

-- what is enough stays so where there is more
pub enough_more : (row : Row) (F V : List Feature) (q : Place) → IsAscending V → IsAscending F
    → ((h : ℕ) (g : Feature) → feature_at V h ≡ Some g → feature_at F h ≡ Some g) → has_enough row V q ≡ true → has_enough row F q ≡ true
enough_more row F V q v u m t =
    le_more (enough_of row.kind) (how_many (λ (g : Feature). counts_at row g q) V) (how_many (λ (g : Feature). counts_at row g q) F)
    (fewer_pass (λ (g : Feature). counts_at row g q) V F v u (λ h g e w. m h g e)) t
