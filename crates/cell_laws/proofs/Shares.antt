-- What `share_of` says of two segments, and that it says it alone.
use Rattle.std.proofs.Common.{◌≡◌, ℕ, ◌<◌, ℤ, pos, ◌-ℤ◌, ◌*ℤ◌, ◌≤ℤ◌, ◌<ℤ◌, arith, refl, sym, subst, ◌⊎◌, inl, inr, ◌∙◌, Bool, true, false}
use Rattle.std.proofs.Common.{cond, ◌&&◌, ◌||◌, ◌↔◌}
use Rattle.std.specs.Bool.{Decides}
use Rattle.std.specs.Ordering.{int_eq}
use Rattle.std.proofs.lemmas.Bool.Decides.{Decides-and, Decides-or, Decides-int_eq}
use Rattle.std.proofs.lemmas.Int.{ints}
use Rattle.std.proofs.lemmas.Bool.{false≢true, cases_Bool}
use Rattle.plane_terms.specs.Point.{Place, Point, IsAt}
use Rattle.plane_terms.specs.Segment.{Segment, IsSegment, IsEndOf, SharePoint, Overlap, comes_before}
use Rattle.number_laws.proofs.Ring.{num, ◌⊖◌, ◌⊗◌, same_by}
use Rattle.number_laws.proofs.Order.{zero_unscaled, cases_order_ℤ}
use Rattle.number_laws.proofs.Tests.{Decides-int_lt}
use Rattle.plane_terms.specs.Share.{AreSame, MeetOnce, CrossOnce, TouchOnce, turn, one_side, share_on_line, is_beside, is_parallel}
use Rattle.plane_terms.specs.Share.{has_end_on, share_of}
use Rattle.plane_terms.specs.declared.share.Share.{Share}
use Rattle.plane_terms.specs.declared.share.Share.TheVariants.{Nothing, Along, Cross, Touch}
use Rattle.cell_laws.proofs.Meeting.{NoneShared, apart_over, apart_under, apart_sym, turns_differ, Straddle, NoEnds, SomeEnd, cross_once}
use Rattle.cell_laws.proofs.Meeting.{touch_once, cross_sym, touch_sym}
use Rattle.cell_laws.proofs.OnLine.{Before, Upto, cases_before, not_before, apart_before, touch_at, overlap, OnOneLine, both_upto}

abbrev pub Means : Share → Segment → Segment → Type 0
Means Nothing s t = NoneShared s t
Means Along s t = Overlap s t
Means Cross s t = CrossOnce s t
Means Touch s t = TouchOnce s t

-- ---- what the tests say
Decides-before : (p q : Place) → Decides (comes_before p q) (Before p.x p.y q.x q.y)
Decides-before p q = Decides-or _ _ (Decides-int_lt p.x q.x) (Decides-and _ _ (Decides-int_eq p.x q.x) (Decides-int_lt p.y q.y))

pub read_before : (p q : Place) → comes_before p q ≡ true → Before p.x p.y q.x q.y
read_before p q e = (Decides-before p q).0 e

pub before_not : (p q : Place) → Upto q.x q.y p.x p.y → comes_before p q ≡ false
before_not p q u = elim (cases_Bool (comes_before p q)) [ inl e ↦ absurd (not_before p.x p.y q.x q.y (read_before p q e) u) | inr e ↦ e ]

pub read_not_before : (p q : Place) → comes_before p q ≡ false → Upto q.x q.y p.x p.y
read_not_before p q e = elim (cases_before p.x p.y q.x q.y) [ inl h ↦ absurd (false≢true (sym e ∙ (Decides-before p q).1 h)) | inr h ↦ h ]

abbrev OneSide : ℤ → ℤ → Type 0
OneSide a b = ((pos 0 <ℤ a) × (pos 0 <ℤ b)) ⊎ ((a <ℤ pos 0) × (b <ℤ pos 0))

abbrev TwoSides : ℤ → ℤ → Type 0
TwoSides a b = ((pos 0 ≤ℤ a) × (b ≤ℤ pos 0)) ⊎ ((a ≤ℤ pos 0) × (pos 0 ≤ℤ b))

cases_sides : (a b : ℤ) → OneSide a b ⊎ TwoSides a b
cases_sides a b = elim (cases_order_ℤ (pos 0) a) [
  | inl h ↦ elim (cases_order_ℤ (pos 0) b) [ inl k ↦ inl (inl (h, k)) | inr k ↦ inr (inl (omega (arith, ints), k)) ]
  | inr h ↦ elim (cases_order_ℤ b (pos 0)) [
    | inl k ↦ elim (cases_order_ℤ a (pos 0)) [ inl l ↦ inl (inr (l, k)) | inr l ↦ inr (inl (l, omega (arith, ints))) ]
    | inr k ↦ inr (inr (h, k))
  ]
]

Decides-one_side : (a b : ℤ) → Decides (one_side a b) (OneSide a b)
Decides-one_side a b = Decides-or _ _ (Decides-and _ _ (Decides-int_lt (pos 0) a) (Decides-int_lt (pos 0) b))
    (Decides-and _ _ (Decides-int_lt a (pos 0)) (Decides-int_lt b (pos 0)))

read_one_side : (a b : ℤ) → one_side a b ≡ true → OneSide a b
read_one_side a b e = (Decides-one_side a b).0 e

read_two_sides : (a b : ℤ) → one_side a b ≡ false → TwoSides a b
read_two_sides a b e = elim (cases_sides a b) [ inl h ↦ absurd (false≢true (sym e ∙ (Decides-one_side a b).1 h)) | inr h ↦ h ]

read_same : (a b : ℤ) → int_eq a b ≡ true → a ≡ b
read_same a b e = (Decides-int_eq a b).0 e

same_is : (a b : ℤ) → a ≡ b → int_eq a b ≡ true
same_is a b h = (Decides-int_eq a b).1 h

read_differ : (a b : ℤ) → int_eq a b ≡ false → ¬ (a ≡ b)
read_differ a b e = λ h. false≢true (sym e ∙ same_is a b h)

-- ---- the choice, by the values of its tests
line_by : (s t : Segment) (a b c d : Bool) → (a ≡ true → NoneShared s t) → (b ≡ true → NoneShared s t)
    → (c ≡ true → d ≡ true → Overlap s t) → (a ≡ false → c ≡ false → TouchOnce s t) → (b ≡ false → d ≡ false → TouchOnce s t)
    → Means (cond (a || b) Nothing (cond (c && d) Along Touch)) s t
line_by s t true b c d f g h i j = f refl
line_by s t false true c d f g h i j = g refl
line_by s t false false true true f g h i j = h refl refl
line_by s t false false false d f g h i j = i refl refl
line_by s t false false true false f g h i j = j refl refl

choose : (s t : Segment) (a b c d e : Bool) (line : Share) → (a ≡ true → NoneShared s t) → (b ≡ true → NoneShared s t)
    → (a ≡ false → b ≡ false → c ≡ true → Means line s t) → (a ≡ false → b ≡ false → c ≡ false → (d ≡ true) ⊎ (e ≡ true) → TouchOnce s t)
    → (a ≡ false → b ≡ false → c ≡ false → d ≡ false → e ≡ false → CrossOnce s t)
    → Means (cond (a || b) Nothing (cond c line (cond (d || e) Touch Cross))) s t
choose s t true b c d e line u v w x y = u refl
choose s t false true c d e line u v w x y = v refl
choose s t false false true d e line u v w x y = w refl refl refl
choose s t false false false true e line u v w x y = x refl refl refl (inl refl)
choose s t false false false false true line u v w x y = x refl refl refl (inr refl)
choose s t false false false false false line u v w x y = y refl refl refl refl refl

-- one of two numbers is zero, or neither
read_end : (a b : ℤ) → int_eq a (pos 0) || int_eq b (pos 0) ≡ true → (a ≡ pos 0) ⊎ (b ≡ pos 0)
read_end a b e = by_cases (int_eq a (pos 0)) refl e
  where
    by_cases : (v : Bool) → int_eq a (pos 0) ≡ v → v || int_eq b (pos 0) ≡ true → (a ≡ pos 0) ⊎ (b ≡ pos 0)
    by_cases true f e = inl (read_same a (pos 0) f)
    by_cases false f e = inr (read_same b (pos 0) e)

read_no_end : (a b : ℤ) → int_eq a (pos 0) || int_eq b (pos 0) ≡ false → ¬ (a ≡ pos 0) × ¬ (b ≡ pos 0)
read_no_end a b e = (
  λ h. false≢true (sym e ∙ rw (same_is a (pos 0) h) refl),
  λ h. false≢true (sym (by_cases (int_eq a (pos 0)) e)
      ∙ same_is b (pos 0) h),
)
  where
    by_cases : (v : Bool) → v || int_eq b (pos 0) ≡ false → int_eq b (pos 0) ≡ false
    by_cases true e = absurd (false≢true (sym e))
    by_cases false e = e

line_means : (s t : Segment) → IsSegment s → IsSegment t → OnOneLine s t → Means (share_on_line s t) s t
line_means s t g h z =
    line_by s t (comes_before s.hi t.lo) (comes_before t.hi s.lo) (comes_before t.lo s.hi) (comes_before s.lo t.hi)
    (λ e. apart_before s t g h (read_before s.hi t.lo e))
    (λ e. apart_sym s t (apart_before t s h g (read_before t.hi s.lo e)))
    (λ e f. overlap s t g h z (read_before t.lo s.hi e) (read_before s.lo t.hi f))
    (λ e f.
    let k = both_upto s.hi.x s.hi.y t.lo.x t.lo.y (read_not_before t.lo s.hi f) (read_not_before s.hi t.lo e) in
    touch_at s t g h k.0 k.1)
    (λ e f.
    let k = both_upto t.hi.x t.hi.y s.lo.x s.lo.y (read_not_before s.lo t.hi f) (read_not_before t.hi s.lo e) in
    touch_sym s t (touch_at t s h g k.0 k.1))

beside : (s t : Segment) → IsSegment s → OneSide (turn t s.lo) (turn t s.hi) → NoneShared s t
beside s t g (inl (h, k)) = apart_over s t g h k
beside s t g (inr (h, k)) = apart_under s t g h k

at_zero : (a b : ℤ) → TwoSides a b → a ≡ b → (a ≡ pos 0) × (b ≡ pos 0)
at_zero a b (inl (h, k)) e = (omega (arith, ints), omega (arith, ints))
at_zero a b (inr (h, k)) e = (omega (arith, ints), omega (arith, ints))

one_line : (s t : Segment) → TwoSides (turn t s.lo) (turn t s.hi) → TwoSides (turn s t.lo) (turn s t.hi) → turn t s.lo ≡ turn t s.hi
    → OnOneLine s t
one_line s t h k e =
    let z = at_zero (turn t s.lo) (turn t s.hi) h e in
    let y = at_zero (turn s t.lo) (turn s t.hi) k (too (turn t s.lo) (turn t s.hi) (turn s t.lo) (turn s t.hi) (turns_differ s t) e) in
    record { a = z.0; b = z.1; c = y.0; d = y.1 }
  where
    too : (a b c d : ℤ) → a -ℤ b ≡ d -ℤ c → a ≡ b → c ≡ d
    too a b c d f e = omega (arith, ints)

-- which of the two goes from left to right
straddles : (s t : Segment) → TwoSides (turn t s.lo) (turn t s.hi) → TwoSides (turn s t.lo) (turn s t.hi) → ¬ (turn t s.lo ≡ turn t s.hi)
    → Straddle s t ⊎ Straddle t s
straddles s t (inl (h, k)) y n =
    let d = below (turn t s.lo) (turn t s.hi) h k n in
    let o = other (turn t s.lo) (turn t s.hi) (turn s t.lo) (turn s t.hi) (turns_differ s t) d y in
    inl (record { from = h; to = k; turns = d; other_from = o.0; other_to = o.1 })
  where
    below : (a b : ℤ) → pos 0 ≤ℤ a → b ≤ℤ pos 0 → ¬ (a ≡ b) → b <ℤ a
    below a b h k n = elim (cases_order_ℤ b a) [ inl l ↦ l | inr l ↦ absurd (n (omega (arith, ints))) ]

    other : (a b c d : ℤ) → a -ℤ b ≡ d -ℤ c → b <ℤ a → TwoSides c d → (c ≤ℤ pos 0) × (pos 0 ≤ℤ d)
    other a b c d e h (inl (k, l)) = absurd (omega (arith, ints))
    other a b c d e h (inr (k, l)) = (k, l)
straddles s t (inr (h, k)) y n =
    let d = above (turn t s.lo) (turn t s.hi) h k n in
    let o = other (turn t s.lo) (turn t s.hi) (turn s t.lo) (turn s t.hi) (turns_differ s t) d y in
    inr (record { from = o.0; to = o.1; turns = o.2; other_from = h; other_to = k })
  where
    above : (a b : ℤ) → a ≤ℤ pos 0 → pos 0 ≤ℤ b → ¬ (a ≡ b) → a <ℤ b
    above a b h k n = elim (cases_order_ℤ a b) [ inl l ↦ l | inr l ↦ absurd (n (omega (arith, ints))) ]

    other : (a b c d : ℤ) → a -ℤ b ≡ d -ℤ c → a <ℤ b → TwoSides c d → (pos 0 ≤ℤ c) × (d ≤ℤ pos 0) × (d <ℤ c)
    other a b c d e h (inl (k, l)) = (k, l, omega (arith, ints))
    other a b c d e h (inr (k, l)) = absurd (omega (arith, ints))

touches : (s t : Segment) → Straddle s t ⊎ Straddle t s → SomeEnd s t → TouchOnce s t
touches s t (inl h) e = touch_once s t h e
touches s t (inr h) e = touch_sym s t (touch_once t s h (elim e [ inl f ↦ inr f | inr f ↦ inl f ]))

crosses : (s t : Segment) → Straddle s t ⊎ Straddle t s → NoEnds s t → CrossOnce s t
crosses s t (inl h) n = cross_once s t h n
crosses s t (inr h) n = cross_sym s t (cross_once t s h (record { a = n.c; b = n.d; c = n.a; d = n.b }))

pub share_of-means : (s t : Segment) → IsSegment s → IsSegment t → Means (share_of s t) s t
unfolding share_of
share_of-means s t g h =
    let a = turn t s.lo in
    let b = turn t s.hi in
    let c = turn s t.lo in
    let d = turn s t.hi in
    choose s t (is_beside s t) (is_beside t s) (is_parallel s t) (has_end_on s t) (has_end_on t s) (share_on_line s t)
    (λ e. beside s t g (read_one_side a b e))
    (λ e. apart_sym s t (beside t s h (read_one_side c d e)))
    (λ e f z. line_means s t g h (one_line s t (read_two_sides a b e) (read_two_sides c d f) (read_same a b z)))
    (λ e f z n. touches s t (straddles s t (read_two_sides a b e) (read_two_sides c d f) (read_differ a b z)) (elim n [
      | inl x ↦ inl
          (read_end a b x)
      | inr x ↦ inr (read_end c d x)
    ]))
    (λ e f z k l.
    let m = read_no_end a b k in
    let n = read_no_end c d l in
    crosses s t (straddles s t (read_two_sides a b e) (read_two_sides c d f) (read_differ a b z)) (record {
      a = m.0;
      b = m.1;
      c = n.0;
      d = n.1;
    }))

-- ---- no two of the four hold together
-- two that are the same as a third
third : (a p q : ℤ) (aw pw qw : ℕ) → 0 < aw → a *ℤ pos pw ≡ p *ℤ pos aw → a *ℤ pos qw ≡ q *ℤ pos aw → p *ℤ pos qw ≡ q *ℤ pos pw
third a p q aw pw qw o e f =
    let x : p *ℤ pos aw *ℤ pos qw ≡ q *ℤ pos aw *ℤ pos pw = rw (← e, ← f)
    (same_by (num a ⊗ num (pos pw) ⊗ num (pos qw)) (num a ⊗ num (pos qw) ⊗ num (pos pw)) (omega arith)) in
    even (p *ℤ pos qw) (q *ℤ pos pw) (zero_unscaled (pos aw) (p *ℤ pos qw -ℤ q *ℤ pos pw) (omega (arith, ints))
    (taken p q (pos aw) (pos pw) (pos qw) ∙ nought (p *ℤ pos aw *ℤ pos qw) (q *ℤ pos aw *ℤ pos pw) x))
  where
    taken : (p q a u v : ℤ) → a *ℤ (p *ℤ v -ℤ q *ℤ u) ≡ p *ℤ a *ℤ v -ℤ q *ℤ a *ℤ u
    taken p q a u v = same_by (num a ⊗ (num p ⊗ num v ⊖ num q ⊗ num u)) (num p ⊗ num a ⊗ num v ⊖ num q ⊗ num a ⊗ num u) (omega arith)

    nought : (u v : ℤ) → u ≡ v → u -ℤ v ≡ pos 0
    nought u v e = omega (arith, ints)

    even : (u v : ℤ) → u -ℤ v ≡ pos 0 → u ≡ v
    even u v e = omega (arith, ints)

apart : (u v : ℤ) → u ≡ v → v -ℤ u ≡ pos 0
apart u v e = omega (arith, ints)

together : (u v : ℤ) → v -ℤ u ≡ pos 0 → u ≡ v
together u v e = omega (arith, ints)

pub same_third : (a p q : Point) → AreSame a p → AreSame a q → AreSame p q
same_third a p q h k = (
  apart (p.x *ℤ pos q.w) (q.x *ℤ pos p.w) (third a.x p.x q.x a.w p.w q.w a.positive (together (a.x *ℤ pos p.w) (p.x *ℤ pos a.w) h.0)
      (together (a.x *ℤ pos q.w) (q.x *ℤ pos a.w) k.0)),
  apart (p.y *ℤ pos q.w) (q.y *ℤ pos p.w) (third a.y p.y q.y a.w p.w q.w a.positive (together (a.y *ℤ pos p.w) (p.y *ℤ pos a.w) h.1)
      (together (a.y *ℤ pos q.w) (q.y *ℤ pos a.w) k.1)),
)

-- a point that is the same as a grid point is at it
moved : (x p q : ℤ) (pw qw : ℕ) → 0 < pw → p *ℤ pos qw ≡ q *ℤ pos pw → p ≡ x *ℤ pos pw → q ≡ x *ℤ pos qw
moved x p q pw qw o e f =
    let g : x *ℤ pos pw *ℤ pos qw ≡ q *ℤ pos pw = rw (← f) e in
    even q (x *ℤ pos qw) (zero_unscaled (pos pw) (q -ℤ x *ℤ pos qw) (omega (arith, ints)) (taken x q (pos pw) (pos qw)
    ∙ nought (q *ℤ pos pw) (x *ℤ pos pw *ℤ pos qw) (sym g)))
  where
    taken : (x q u v : ℤ) → u *ℤ (q -ℤ x *ℤ v) ≡ q *ℤ u -ℤ x *ℤ u *ℤ v
    taken x q u v = same_by (num u ⊗ (num q ⊖ num x ⊗ num v)) (num q ⊗ num u ⊖ num x ⊗ num u ⊗ num v) (omega arith)

    nought : (u v : ℤ) → u ≡ v → u -ℤ v ≡ pos 0
    nought u v e = omega (arith, ints)

    even : (u v : ℤ) → u -ℤ v ≡ pos 0 → u ≡ v
    even u v e = omega (arith, ints)

at_same : (at : Place) (p q : Point) → AreSame p q → IsAt at p → IsAt at q
at_same at p q e a = record {
  x = moved at.x p.x q.x p.w q.w p.positive
      (together (p.x *ℤ pos q.w) (q.x *ℤ pos p.w) e.0) a.x;
  y = moved at.y p.y q.y p.w q.w p.positive
      (together (p.y *ℤ pos q.w) (q.y *ℤ pos p.w) e.1) a.y;
}

pub end_same : (s : Segment) (p q : Point) → AreSame p q → IsEndOf s p → IsEndOf s q
end_same s p q e (inl a) = inl (at_same s.lo p q e a)
end_same s p q e (inr a) = inr (at_same s.hi p q e a)

ends_same : (s t : Segment) (p q : Point) → AreSame p q → IsEndOf s p ⊎ IsEndOf t p → IsEndOf s q ⊎ IsEndOf t q
ends_same s t p q e (inl a) = inl (end_same s p q e a)
ends_same s t p q e (inr a) = inr (end_same t p q e a)

apart_once : {s t : Segment} → NoneShared s t → MeetOnce s t → ⊥
apart_once a m = a.never m.at m.first m.second

two_once : {s t : Segment} → Overlap s t → MeetOnce s t → ⊥
two_once o m = o.apart (same_third m.at o.p o.q (m.only o.p o.p_on_s o.p_on_t) (m.only o.q o.q_on_s o.q_on_t))

cross_touch : {s t : Segment} → CrossOnce s t → TouchOnce s t → ⊥
cross_touch {s} {t} c d = c.inner (ends_same s t d.meet.at c.meet.at (d.meet.only c.meet.at c.meet.first c.meet.second) d.end)

pub means_one : (a b : Share) (s t : Segment) → Means a s t → Means b s t → a ≡ b
means_one Nothing Nothing s t h k = refl
means_one Nothing Along s t h k = absurd (h.never k.p k.p_on_s k.p_on_t)
means_one Nothing Cross s t h k = absurd (apart_once h k.meet)
means_one Nothing Touch s t h k = absurd (apart_once h k.meet)
means_one Along Nothing s t h k = absurd (k.never h.p h.p_on_s h.p_on_t)
means_one Along Along s t h k = refl
means_one Along Cross s t h k = absurd (two_once h k.meet)
means_one Along Touch s t h k = absurd (two_once h k.meet)
means_one Cross Nothing s t h k = absurd (apart_once k h.meet)
means_one Cross Along s t h k = absurd (two_once k h.meet)
means_one Cross Cross s t h k = refl
means_one Cross Touch s t h k = absurd (cross_touch h k)
means_one Touch Nothing s t h k = absurd (apart_once k h.meet)
means_one Touch Along s t h k = absurd (two_once k h.meet)
means_one Touch Cross s t h k = absurd (cross_touch k h)
means_one Touch Touch s t h k = refl

pub exactly : (r : Share) (s t : Segment) → Means r s t → (k : Share) → (r ≡ k) ↔ Means k s t
exactly r s t h k = (λ e. subst (λ x. Means x s t) e h, λ m. means_one r k s t h m)

-- ---- in the words of the plane
pub none_shared : (r : Share) (s t : Segment) → (r ≡ Nothing) ↔ NoneShared s t → (r ≡ Nothing) ↔ ¬ (SharePoint s t)
none_shared r s t e = (λ h p. (e.0 h).never p.0 p.1 p.2, λ n. e.1 (record { never = λ p o q. n (p, o, q) }))
