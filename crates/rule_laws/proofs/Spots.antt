-- Rules that are broken at places of the subject, by a test of those around it.
use Rattle.std.proofs.Common.{◌≡◌, ◌↔◌, ◌⊎◌, inl, inr, ℕ, ℤ, pos, ◌*ℤ◌, ◌<ℤ◌, ◌<◌, Bool, true, false, refl, sym, ◌∙◌, ap, List, [], ◌∷◌, map, cond, arith, int_le}
use Rattle.std.specs.Prelude.{filter, not, ◌&&◌, ◌==◌, int_lt}
use Rattle.std.specs.List.{list_any}
use Rattle.std.proofs.lemmas.Int.{ints}
use Rattle.std.proofs.lemmas.Bool.{false≢true}
use Rattle.plane_terms.specs.Lists.{Every, SomeOf, how_many, is_odd, AreMany}
use Rattle.plane_terms.specs.Point.{Place, Point, IsAt, same_place, point_at}
use Rattle.plane_terms.specs.Rectangle.{RectHolds}
use Rattle.plane_terms.specs.Segment.{Segment, IsSegment, OnSegment, cross}
use Rattle.plane_terms.specs.Polygon.{IsInside, counts}
use Rattle.plane_terms.specs.Line.{holds_place}
use Rattle.plane_terms.specs.Cell.{InCell, InCells, HavePoints, at_place}
use Rattle.plane_terms.specs.declared.kind.Kind.{Kind}
use Rattle.plane_terms.specs.Share.{turn}
use Rattle.plane_terms.specs.declared.kind.Kind.TheVariants as shapes
use Rattle.topology_terms.specs.Feature.{Feature, sides, place, env}
use Rattle.topology_terms.specs.Together.{ends, sides_all, ends_all}
use Rattle.topology_terms.specs.Tests.{holds_at, is_inside_at, in_order_once, segments_at, ends_at}
use Rattle.topology_terms.specs.Plans.{bad_places, own_place, own_ends, none_at, is_point_at, has_side_at, is_round, ends_there, is_dangle, is_pseudo}
use Rattle.number_laws.proofs.Order.{cases_order_ℤ, lt_scaled, scaled_le, le_from_scaled, over_unscaled, product_over}
use Rattle.number_laws.proofs.Tests.{Decides-int_le, Decides-int_lt}
use Rattle.cell_laws.proofs.Lists.{some_map}
use Rattle.cell_laws.proofs.Outside.{at_place_points}
use Rattle.cell_laws.proofs.Meeting.{at_turn}
use Rattle.cell_laws.proofs.OnLine.{at_itself}
use Rattle.plane_terms.proofs.ListLemmas.{every_map}
use Rattle.rule_laws.proofs.Held.{place_held, line_held, end_held}
use Rattle.rule_laws.proofs.Crossings.{inside_held}
use Rattle.rule_laws.proofs.Words.{OnSides, AtEnd, AtPlace, IsLoose, IsJoint}
use Rattle.rule_laws.proofs.Families.{IsFit}
use Rattle.rule_laws.proofs.None.{NoneRule, none_round}
use Rattle.rule_laws.proofs.Alone.{AloneRule}
use Rattle.rule_laws.proofs.Around.{round}
use Rattle.rule_laws.proofs.Uncovered.{every_flat, none_each, some_same_of}
use Rattle.cell_laws.proofs.AtPlaces.{same_is, is_same}
use Rattle.rule_laws.proofs.Tests.{any_some, at_test, end_test, side_test, place_from, place_test, straight}
use Rattle.rule_laws.proofs.Counted.{count_test, many_round}
use Rattle.plane_terms.proofs.Truths.{same_by_truth}

-- ---- places that pass a test, and the cells of them
picked_points : (test : Place → Bool) (p : Point) (B : Type 0) → ((q : Place) → IsAt q p → (test q ≡ true) ↔ B) → (qs : List Place)
    → SomeOf (λ q. IsAt q p) (filter test qs) ↔ (SomeOf (λ q. IsAt q p) qs × B)
picked_points test p B m [] = (λ h. absurd h, λ h. h.0)
picked_points test p B m (q ∷ qs) = pick (picked_points test p B m qs) (test q) refl
  where
    pick : (SomeOf (λ q. IsAt q p) (filter test qs) ↔ (SomeOf (λ q. IsAt q p) qs × B)) → (b : Bool) → test q ≡ b
        → SomeOf (λ q. IsAt q p) (cond b (q ∷ filter test qs) (filter test qs)) ↔ ((IsAt q p ⊎ SomeOf (λ q. IsAt q p) qs) × B)
    pick k true e = (
      λ h. elim h [ inl a ↦ (inl a, (m q a).0 e) | inr i ↦ let n = k.0 i in (inr n.0, n.1) ],
      λ h. elim h.0 [ inl a ↦ inl a | inr i ↦ inr (k.1 (i, h.1)) ],
    )
    pick k false e = (
      λ h. let n = k.0 h in (inr n.0, n.1),
      λ h. elim h.0 [ inl a ↦ absurd (false≢true (sym e ∙ (m q a).1 h.1)) | inr i ↦ k.1 (i, h.1) ],
    )

cells_of_points : (qs : List Place) (p : Point) → InCells (map {A = Place} at_place qs) p ↔ SomeOf (λ q. IsAt q p) qs
cells_of_points qs p =
    let a = some_map (λ c. InCell c p) at_place qs in
    let b = some_same_of (λ (q : Place). Unit {0}) (λ q. InCell (at_place q) p) (λ q. IsAt q p) (λ q u. at_place_points q p) qs
    (all_places qs) in
    (λ h. b.0 (a.0 h), λ h. a.1 (b.1 h))
  where
    all_places : (qs : List Place) → Every (λ (q : Place). Unit {0}) qs
    all_places [] = tt
    all_places (q ∷ qs) = (tt, all_places qs)

pub places_have : (qs : List Place) → HavePoints (map {A = Place} at_place qs)
places_have [] = tt
places_have (q ∷ qs) = ((point_at q, (at_place_points q (point_at q)).1 (at_itself q)), places_have qs)

bad_points : (places : Feature → List Place) (bad : List Feature → Place → Bool) (f : Feature) (gs : List Feature) (p : Point) (B : Type 0)
    → ((q : Place) → IsAt q p → (bad gs q ≡ true) ↔ B) → InCells (bad_places places bad f gs) p ↔ (SomeOf (λ q. IsAt q p) (places f) × B)
bad_points places bad f gs p B m =
    let a = cells_of_points (filter (bad gs) (places f)) p in
    let b = picked_points (bad gs) p B m (places f) in
    (λ h. b.0 (a.0 h), λ h. a.1 (b.1 h))

-- ---- each place once
once_back : (q : Place) (p : Point) (qs : List Place) → SomeOf (λ r. IsAt r p) (filter (λ r. not (same_place q r)) qs)
    → SomeOf (λ r. IsAt r p) qs
once_back q p [] h = h
once_back q p (r ∷ qs) h = pick (not (same_place q r)) (once_back q p qs) h
  where
    pick : (b : Bool) → (SomeOf (λ r. IsAt r p) (filter (λ r. not (same_place q r)) qs) → SomeOf (λ r. IsAt r p) qs)
        → SomeOf (λ r. IsAt r p) (cond b (r ∷ filter (λ r. not (same_place q r)) qs) (filter (λ r. not (same_place q r)) qs))
        → IsAt r p ⊎ SomeOf (λ r. IsAt r p) qs
    pick true k h = elim h [ inl a ↦ inl a | inr i ↦ inr (k i) ]
    pick false k h = inr (k h)

once_there : (q : Place) (p : Point) (qs : List Place) → SomeOf (λ r. IsAt r p) qs
    → IsAt q p ⊎ SomeOf (λ r. IsAt r p) (filter (λ r. not (same_place q r)) qs)
once_there q p [] h = inr h
once_there q p (r ∷ qs) h = pick (same_place q r) refl (once_there q p qs) h
  where
    pick : (b : Bool) → same_place q r ≡ b
        → (SomeOf (λ r. IsAt r p) qs → IsAt q p ⊎ SomeOf (λ r. IsAt r p) (filter (λ r. not (same_place q r)) qs))
        → IsAt r p ⊎ SomeOf (λ r. IsAt r p) qs
        → IsAt q p ⊎ SomeOf (λ r. IsAt r p)
        (cond (not b) (r ∷ filter (λ r. not (same_place q r)) qs) (filter (λ r. not (same_place q r)) qs))
    pick true e k (inl a) = inl (rw (same_is q r e) a)
    pick true e k (inr i) = k i
    pick false e k (inl a) = inr (inl a)
    pick false e k (inr i) = elim (k i) [ inl a ↦ inl a | inr j ↦ inr (inr j) ]

once_points : (p : Point) (qs : List Place) → SomeOf (λ q. IsAt q p) (in_order_once qs) ↔ SomeOf (λ q. IsAt q p) qs
once_points p [] = (λ h. h, λ h. h)
once_points p (q ∷ qs) =
    let k = once_points p qs in (
      λ h. elim h [ inl a ↦ inl a | inr i ↦ inr (k.0 (once_back q p (in_order_once qs) i)) ],
      λ h. elim h [ inl a ↦ inl a | inr i ↦ once_there q p (in_order_once qs) (k.1 i) ],
    )

own_end_points : (f : Feature) (p : Point) → SomeOf (λ q. IsAt q p) (own_ends f) ↔ AtEnd f p
own_end_points f p = once_points p (ends f)

own_place_points : (f : Feature) (p : Point) → SomeOf (λ q. IsAt q p) (own_place f) ↔ AtPlace f p
own_place_points f p = (λ h. elim h [ inl a ↦ a | inr i ↦ absurd i ], λ a. inl a)

-- ---- none of those around is at the place
pub not_test : (b : Bool) (P : Type 0) → (b ≡ true) ↔ P → (not b ≡ true) ↔ ¬ P
not_test true P m = (λ e. absurd (false≢true e), λ n. absurd (n (m.0 refl)))
not_test false P m = (λ e p. false≢true (m.1 p), λ n. refl)

module _ (k l : Kind) (places : Feature → List Place) (X C : Feature → Point → Type 0) (at : Feature → Place → Bool)
    (spots : (f : Feature) (p : Point) → SomeOf (λ q. IsAt q p) (places f) ↔ X f p)
    (held_a : (f : Feature) (p : Point) → X f p → RectHolds (env f) p)
    (held_b : (g : Feature) (p : Point) → IsFit l g → C g p → RectHolds (env g) p)
    (test : (g : Feature) (q : Place) (p : Point) → IsFit l g → IsAt q p → (at g q ≡ true) ↔ C g p) where
  none_test : (gs : List Feature) (q : Place) (p : Point) → Every (IsFit l) gs → IsAt q p
      → (none_at at gs q ≡ true) ↔ Every (λ g. ¬ (C g p)) gs
  none_test gs q p u a =
      let x = any_some (IsFit l) (λ g. C g p) (λ (g : Feature). at g q) (λ g w. test g q p w a) gs u in
      let y = not_test (list_any (λ (g : Feature). at g q) gs) (SomeOf (λ g. C g p) gs) x in
      let z = none_each (λ g. C g p) gs in
      (λ e. z.1 (y.0 e), λ n. y.1 (z.0 n))

  pub none_at_rule : NoneRule k l X C (bad_places places (none_at at))
  none_at_rule = record {
    held_a = λ f p u h. held_a f p h;
    held_b = held_b;
    exact = λ f gs p u v.
        let a = bad_points places (none_at at) f gs p (Every (λ g. ¬ (C g p)) gs) (λ q i. none_test gs q p v i) in
        let b = spots f p in
        (λ h. let m = a.0 h in (b.0 m.0, m.1), λ h. a.1 (b.1 h.0, h.1));
    some = λ f gs u v. places_have (filter (none_at at gs) (places f));
  }

point_test : (g : Feature) (q : Place) (p : Point) → IsAt q p → (is_point_at g q ≡ true) ↔ AtPlace g p
point_test g q p a = (
  λ e. rw (sym (same_is (place g) q e)) at a,
  λ b. is_same (place g) q (let t = (at_test q (place g) p a).1 b in sym (same_is q (place g) t)),
)

-- rules 18 and 23
pub end_point_rule : (k l : Kind) → NoneRule k l AtEnd AtPlace (bad_places own_ends (none_at is_point_at))
end_point_rule k l =
    none_at_rule k l own_ends AtEnd AtPlace is_point_at own_end_points end_held (λ g p u h. place_held g p h)
    (λ g q p u a. point_test g q p a)

pub place_point_rule : (k l : Kind) → NoneRule k l AtPlace AtPlace (bad_places own_place (none_at is_point_at))
place_point_rule k l =
    none_at_rule k l own_place AtPlace AtPlace is_point_at own_place_points place_held (λ g p u h. place_held g p h)
    (λ g q p u a. point_test g q p a)

-- rules 25 and 26
pub place_side_rule : (k l : Kind) → NoneRule k l AtPlace OnSides (bad_places own_place (none_at has_side_at))
place_side_rule k l =
    none_at_rule k l own_place AtPlace OnSides has_side_at own_place_points place_held (λ g p u h. line_held g p h)
    (λ g q p u a. side_test (sides g) q p u.proper a)

-- rule 27
pub place_end_rule : (k l : Kind) → NoneRule k l AtPlace AtEnd (bad_places own_place (none_at ends_there))
place_end_rule k l =
    none_at_rule k l own_place AtPlace AtEnd ends_there own_place_points place_held (λ g p u h. end_held g p h)
    (λ g q p u a. end_test (ends g) q p a)

-- ---- a place inside a polygon
le_scaled_test : (a b : ℤ) (w : ℕ) → 0 < w → int_le (a *ℤ pos w) (b *ℤ pos w) ≡ int_le (a *ℤ pos 1) b
le_scaled_test a b w o = same_by_truth (int_le (a *ℤ pos w) (b *ℤ pos w)) (int_le (a *ℤ pos 1) b)
    (λ t. (Decides-int_le (a *ℤ pos 1) b).1
    (let k = le_from_scaled a b w o ((Decides-int_le (a *ℤ pos w) (b *ℤ pos w)).0 t) in omega (arith, ints, k)))
    (λ t. (Decides-int_le (a *ℤ pos w) (b *ℤ pos w)).1
    (scaled_le a b w (let k = (Decides-int_le (a *ℤ pos 1) b).0 t in omega (arith, ints, k))))

lt_from_scaled : (a b : ℤ) (w : ℕ) → (a *ℤ pos w) <ℤ (b *ℤ pos w) → a <ℤ b
lt_from_scaled a b w h = elim (cases_order_ℤ a b) [ inl o ↦ o | inr o ↦ let k = scaled_le b a w o in absurd (omega (arith, ints, k, h)) ]

lt_scaled_test : (a b : ℤ) (w : ℕ) → 0 < w → int_lt (a *ℤ pos w) (b *ℤ pos w) ≡ int_lt a (b *ℤ pos 1)
lt_scaled_test a b w o = same_by_truth (int_lt (a *ℤ pos w) (b *ℤ pos w)) (int_lt a (b *ℤ pos 1))
    (λ t. (Decides-int_lt a (b *ℤ pos 1)).1
    (let k = lt_from_scaled a b w ((Decides-int_lt (a *ℤ pos w) (b *ℤ pos w)).0 t) in omega (arith, ints, k)))
    (λ t. (Decides-int_lt (a *ℤ pos w) (b *ℤ pos w)).1
    (lt_scaled a b w o (let k = (Decides-int_lt a (b *ℤ pos 1)).0 t in omega (arith, ints, k))))

over_test : (c d t : ℤ) (w : ℕ) → 0 < w → c ≡ pos w *ℤ t → d ≡ t → int_lt (pos 0) c ≡ int_lt (pos 0) d
over_test c d t w o e f = same_by_truth (int_lt (pos 0) c) (int_lt (pos 0) d)
    (λ h. (Decides-int_lt (pos 0) d).1 (rw f (over_unscaled (pos w) t (omega (arith, ints, o)) (rw e at ((Decides-int_lt (pos 0) c).0 h)))))
    (λ h. (Decides-int_lt (pos 0) c).1 (rw e (product_over (pos w) t (omega (arith, ints, o)) (rw f at ((Decides-int_lt (pos 0) d).0 h)))))

three : (a b c d e f : Bool) → a ≡ d → b ≡ e → c ≡ f → (a && (b && c)) ≡ (d && (e && f))
three a b c d e f x y z = rw (x, y, z) refl

counts_at : (s : Segment) (q : Place) (p : Point) → IsAt q p → counts s p ≡ counts s (point_at q)
counts_at s q p a =
    three (int_le (s.lo.x *ℤ pos p.w) p.x) (int_lt p.x (s.hi.x *ℤ pos p.w)) (int_lt (pos 0) (cross s p)) (int_le (s.lo.x *ℤ pos 1) q.x)
    (int_lt q.x (s.hi.x *ℤ pos 1)) (int_lt (pos 0) (cross s (point_at q)))
    (rw a.x (le_scaled_test s.lo.x q.x p.w p.positive))
    (rw a.x (lt_scaled_test q.x s.hi.x p.w p.positive))
    (over_test (cross s p) (cross s (point_at q)) (turn s q) p.w p.positive
    (rw (a.x, a.y) (at_turn s.lo.x s.lo.y s.hi.x s.hi.y q.x q.y (pos p.w))) (straight s.lo.x s.lo.y s.hi.x s.hi.y q.x q.y))

count_at : (ss : List Segment) (q : Place) (p : Point) → IsAt q p → how_many (λ s. counts s p) ss ≡ how_many (λ s. counts s (point_at q)) ss
count_at [] q p a = refl
count_at (s ∷ ss) q p a = rw (counts_at s q p a, count_at ss q p a) refl

both_tests : (a b : Bool) (P Q : Type 0) → (a ≡ true) ↔ P → (b ≡ true) ↔ Q → ((a && b) ≡ true) ↔ (P × Q)
both_tests true b P Q m n = (λ e. (m.0 refl, n.0 e), λ h. n.1 h.1)
both_tests false b P Q m n = (λ e. absurd (false≢true e), λ h. absurd (false≢true (m.1 h.0)))

pub inside_test : (ss : List Segment) (q : Place) (p : Point) → Every IsSegment ss → IsAt q p → (is_inside_at ss q ≡ true) ↔ IsInside ss p
inside_test ss q p u a =
    let x = side_test ss q p u a in
    let y = not_test (holds_at ss q) (SomeOf (λ s. OnSegment s p) ss) x in
    let e = ap is_odd (count_at ss q p a) in
    let z = both_tests (not (holds_at ss q)) (is_odd (how_many (λ s. counts s (point_at q)) ss)) (¬ (SomeOf (λ s. OnSegment s p) ss))
    (is_odd (how_many (λ s. counts s p) ss) ≡ true) y ((λ t. e ∙ t), (λ t. sym e ∙ t)) in
    (λ t. let k = z.0 t in record { clear = k.0; odd = k.1 }, λ i. z.1 (i.clear, i.odd))

-- rule 24
pub place_inside_rule : (k : Kind)
    → NoneRule k shapes.Polygon AtPlace (λ g p. IsInside (sides g) p) (bad_places own_place (none_at is_round))
place_inside_rule k =
    none_at_rule k shapes.Polygon own_place AtPlace (λ g p. IsInside (sides g) p) is_round own_place_points place_held
    (λ g p u h. inside_held g.shape u.kind p h) (λ g q p u a. inside_test (sides g) q p u.proper a)

-- ---- counted
places_any : (qs : List Place) → Every (λ (q : Place). Unit {0}) qs
places_any [] = tt
places_any (q ∷ qs) = (tt, places_any qs)

loose_test : (gs : List Feature) (n : ℕ) (q : Place) (p : Point) → Every (IsFit shapes.Line) gs → IsAt q p
    → ((segments_at gs q == n) ≡ true) ↔ AreMany (λ (t : Segment). OnSegment t p) (sides_all gs) n
loose_test gs n q p u a =
    count_test IsSegment (λ t. OnSegment t p) (λ t. holds_place t q) (λ t g. (place_from t q p a, place_test t q p g a)) (sides_all gs) n
    ((every_flat IsSegment sides gs).1 (every_map (IsFit shapes.Line) (λ g. Every IsSegment (sides g)) (λ g w. w.proper) gs u))

ends_test : (gs : List Feature) (n : ℕ) (q : Place) (p : Point) → IsAt q p
    → ((ends_at gs q == n) ≡ true) ↔ AreMany (λ (r : Place). IsAt r p) (ends_all gs) n
ends_test gs n q p a =
    count_test (λ (r : Place). Unit {0}) (λ r. IsAt r p) (same_place q) (λ r u. at_test q r p a) (ends_all gs) n
    (places_any (ends_all gs))

segments_round : (gs hs : List Feature) (n : ℕ) (p : Point) → Every (IsFit shapes.Line) gs → Every (IsFit shapes.Line) hs
    → round p gs ≡ round p hs → AreMany (λ (t : Segment). OnSegment t p) (sides_all gs) n
    → AreMany (λ (t : Segment). OnSegment t p) (sides_all hs) n
segments_round gs hs n p u v e h =
    many_round sides (λ t p. OnSegment t p) (IsFit shapes.Line) (λ g p w i. line_held g p i) p gs hs n u v e h

ends_round : (gs hs : List Feature) (n : ℕ) (p : Point) → Every (IsFit shapes.Line) gs → Every (IsFit shapes.Line) hs
    → round p gs ≡ round p hs → AreMany (λ (q : Place). IsAt q p) (ends_all gs) n → AreMany (λ (q : Place). IsAt q p) (ends_all hs) n
ends_round gs hs n p u v e h = many_round ends (λ q p. IsAt q p) (IsFit shapes.Line) (λ g p w i. end_held g p i) p gs hs n u v e h

-- rule 14
pub dangle_rule : AloneRule shapes.Line shapes.Line (λ f gs p. AtEnd f p × IsLoose gs p) (bad_places own_ends is_dangle)
dangle_rule = record {
  held = λ f gs p u h. end_held f p h.0;
  local = λ f gs hs p u v w m e h. (h.0, segments_round gs hs 1 p v w e h.1);
  exact = λ f gs p u v o.
      let a = bad_points own_ends is_dangle f gs p (IsLoose gs p) (λ q i. loose_test gs 1 q p v i) in
      let b = own_end_points f p in
      (λ h. let m = a.0 h in (b.0 m.0, m.1), λ h. a.1 (b.1 h.0, h.1));
  some = λ f gs u v. places_have (filter (is_dangle gs) (own_ends f));
}

joint_test : (gs : List Feature) (q : Place) (p : Point) → Every (IsFit shapes.Line) gs → IsAt q p → (is_pseudo gs q ≡ true) ↔ IsJoint gs p
joint_test gs q p u i = both_tests (ends_at gs q == 2) (segments_at gs q == 2) _ _ (ends_test gs 2 q p i) (loose_test gs 2 q p u i)

-- rule 15
pub pseudo_rule : AloneRule shapes.Line shapes.Line (λ f gs p. AtEnd f p × IsJoint gs p) (bad_places own_ends is_pseudo)
pseudo_rule = record {
  held = λ f gs p u h. end_held f p h.0;
  local = λ f gs hs p u v w m e h. (h.0, (ends_round gs hs 2 p v w e h.1.0, segments_round gs hs 2 p v w e h.1.1));
  exact = λ f gs p u v o.
      let a = bad_points own_ends is_pseudo f gs p (IsJoint gs p) (λ q i. joint_test gs q p v i) in
      let b = own_end_points f p in
      (λ h. let m = a.0 h in (b.0 m.0, m.1), λ h. a.1 (b.1 h.0, h.1));
  some = λ f gs u v. places_have (filter (is_pseudo gs) (own_ends f));
}

-- ---- tests of a place that depend on the features round it
module _ (l : Kind) (bad : List Feature → Place → Bool) (B : List Feature → Point → Type 0)
    (test : (gs : List Feature) (q : Place) (p : Point) → Every (IsFit l) gs → IsAt q p → (bad gs q ≡ true) ↔ B gs p)
    (local : (gs hs : List Feature) (p : Point) → Every (IsFit l) gs → Every (IsFit l) hs → round p gs ≡ round p hs → B gs p → B hs p) where
  bad_around : (gs hs : List Feature) (q : Place) → Every (IsFit l) gs → Every (IsFit l) hs → round (point_at q) gs ≡ round (point_at q) hs
      → bad gs q ≡ bad hs q
  bad_around gs hs q u v e =
      let p = point_at q in
      let m = test gs q p u (at_itself q) in
      let n = test hs q p v (at_itself q) in
      same_by_truth (bad gs q) (bad hs q) (λ t. n.1 (local gs hs p u v e (m.0 t))) (λ t. m.1 (local hs gs p v u (sym e) (n.0 t)))

pub dangle_around : (gs hs : List Feature) (q : Place) → Every (IsFit shapes.Line) gs → Every (IsFit shapes.Line) hs
    → round (point_at q) gs ≡ round (point_at q) hs → is_dangle gs q ≡ is_dangle hs q
dangle_around = bad_around shapes.Line is_dangle IsLoose (λ gs q p u i. loose_test gs 1 q p u i) (λ gs hs p u v e h. segments_round gs hs 1 p u v e h)

pub pseudo_around : (gs hs : List Feature) (q : Place) → Every (IsFit shapes.Line) gs → Every (IsFit shapes.Line) hs
    → round (point_at q) gs ≡ round (point_at q) hs → is_pseudo gs q ≡ is_pseudo hs q
pseudo_around = bad_around shapes.Line is_pseudo IsJoint joint_test (λ gs hs p u v e h. (ends_round gs hs 2 p u v e h.0, segments_round gs hs 2 p u v e h.1))

pub point_around : (gs hs : List Feature) (q : Place) → Every (IsFit shapes.Point) gs → Every (IsFit shapes.Point) hs
    → round (point_at q) gs ≡ round (point_at q) hs → none_at is_point_at gs q ≡ none_at is_point_at hs q
point_around = bad_around shapes.Point (none_at is_point_at) (λ gs p. Every (λ g. ¬ (AtPlace g p)) gs)
    (none_test shapes.Line shapes.Point own_ends AtEnd AtPlace is_point_at own_end_points end_held (λ g p u h. place_held g p h)
    (λ g q p u a. point_test g q p a))
    (λ gs hs p u v e h. none_round shapes.Point AtPlace (λ g p i c. place_held g p c) gs hs p v e h)
