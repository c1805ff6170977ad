-- Of a segment that has no point between p and q, four facts hold an even number of times: it counts for p, it counts for q, its one end
-- is low, its other end is low.
use Rattle.std.proofs.Common.{◌≡◌, ℕ, ◌<◌, ℤ, pos, ◌-ℤ◌, ◌*ℤ◌, ◌≤ℤ◌, ◌<ℤ◌, arith, sym, refl, inl, inr, ◌∙◌, Bool, true, false, ◌&&◌}
use Rattle.std.specs.Int.RustNames.{int_le, int_lt}
use Rattle.std.proofs.lemmas.Int.{ints}
use Rattle.plane_terms.specs.Point.{Place, Point, right_by}
use Rattle.plane_terms.specs.Segment.{Segment, cross, comes_before, segment_between}
use Rattle.plane_terms.specs.Polygon.{counts}
use Rattle.number_laws.proofs.Ring.{num, ◌⊖◌, ◌⊗◌, le_read, lt_read}
use Rattle.number_laws.proofs.Order.{le_trans_ℤ, scaled_le, lt_scaled, cases_order_ℤ}
use Rattle.number_laws.proofs.Tests.{Decides-int_le, Decides-int_lt, int_le_false, int_lt_false}
use Rattle.column_laws.proofs.Parity.{differ, differ_back, in_order, out_of_order}
use Rattle.column_laws.proofs.Between.{drawn}
use Rattle.column_laws.proofs.Balances.{Opposite}
use Rattle.column_laws.proofs.Depths.{Misses, depth, both_across, first_across, second_across, within_across}

-- right of p and not right of q, and strictly below the line through them
abbrev pub is_low : Point → Point → Place → Bool
is_low p q v = int_lt p.x (v.x *ℤ pos p.w) && (int_le (v.x *ℤ pos q.w) q.x && int_lt (pos 0) (depth p q v))

-- ---- tests
le_true : (u v : ℤ) → u ≤ℤ v → int_le u v ≡ true
le_true u v = (Decides-int_le u v).1

lt_true : (u v : ℤ) → u <ℤ v → int_lt u v ≡ true
lt_true u v = (Decides-int_lt u v).1

-- numbers that never stand opposite have one sign
one_sign : (u v : ℤ) → (Opposite u v → ⊥) → int_lt (pos 0) u ≡ int_lt (pos 0) v
one_sign u v f =
    elim (cases_order_ℤ (pos 0) u) [
      | inl h ↦ elim (cases_order_ℤ (pos 0) v) [
        | inl k ↦ lt_true (pos 0) u h ∙ sym (lt_true (pos 0) v k)
        | inr k ↦ absurd (f (inl (h, k)))
      ]
      | inr h ↦ elim (cases_order_ℤ (pos 0) v) [
        | inl k ↦ absurd (f (inr (h, k)))
        | inr k ↦ int_lt_false (pos 0) u h ∙ sym (int_lt_false (pos 0) v k)
      ]
    ]

-- the last of three tests, or none
third_is : (a b c : Bool) → a ≡ true → b ≡ true → (a && (b && c)) ≡ c
third_is a b c e f = rw (e, f) refl

first_not : (a b c : Bool) → a ≡ false → (a && (b && c)) ≡ false
first_not a b c e = rw e refl

second_not : (a b c : Bool) → b ≡ false → (a && (b && c)) ≡ false
second_not true b c e = rw e refl
second_not false b c e = refl

-- the four facts by their values
by_values : (a b c d a' b' c' d' : Bool) → a ≡ a' → b ≡ b' → c ≡ c' → d ≡ d' → differ a' b' ≡ differ c' d' → differ a b ≡ differ c d
by_values a b c d a' b' c' d' e f g h k = rw (e, f, g, h) k

differ_right : (a b : Bool) → a ≡ b → differ a false ≡ differ false b
unfolding differ
differ_right true b e = e
differ_right false b e = e

differ_left : (a b : Bool) → a ≡ b → differ false a ≡ differ b false
unfolding differ
differ_left a true e = e
differ_left a false e = e

both_same : (a b : Bool) → a ≡ b → differ a b ≡ differ false false
unfolding differ
both_same true b e = rw (← e) refl
both_same false b e = sym e

-- ---- where the ranges are
-- x / v is at most y / w: what is not right of the first is not right of the second
not_past : (x y l : ℤ) (v w : ℕ) → 0 < v → pos 0 ≤ℤ (y *ℤ pos v -ℤ x *ℤ pos w) → (l *ℤ pos v) ≤ℤ x → y <ℤ (l *ℤ pos w) → ⊥
not_past x y l v w pv h k m =
    let e = le_read (num l ⊗ num (pos v) ⊗ num (pos w)) (num x ⊗ num (pos w)) (scaled_le (l *ℤ pos v) x w k) in
    let f = lt_read (num y ⊗ num (pos v)) (num l ⊗ num (pos w) ⊗ num (pos v)) (lt_scaled y (l *ℤ pos w) v pv m) in
    let g = le_read (num (pos 0)) (num y ⊗ num (pos v) ⊖ num x ⊗ num (pos w)) h in
    omega (arith, e, f, g)

module _ (p q : Point) (from_left : pos 0 ≤ℤ right_by p q) where
  right_of_first : (l : ℤ) → q.x <ℤ (l *ℤ pos q.w) → p.x <ℤ (l *ℤ pos p.w)
  right_of_first l h =
      elim (cases_order_ℤ p.x (l *ℤ pos p.w)) [
        | inl k ↦ k
        | inr k ↦ absurd (not_past p.x q.x l p.w q.w p.positive from_left k h)
      ]

  left_of_second : (l : ℤ) → (l *ℤ pos p.w) ≤ℤ p.x → (l *ℤ pos q.w) ≤ℤ q.x
  left_of_second l h =
      elim (cases_order_ℤ q.x (l *ℤ pos q.w)) [
        | inl k ↦ absurd (not_past p.x q.x l p.w q.w p.positive from_left h k)
        | inr k ↦ k
      ]

  module _ (s : Segment) (order : s.lo.x ≤ℤ s.hi.x) (miss : Misses s p q) where
    abbrev AreEven : Type 0
    AreEven = differ (counts s p) (counts s q) ≡ differ (is_low p q s.lo) (is_low p q s.hi)

    abbrev p_from : Bool
    p_from = int_le (s.lo.x *ℤ pos p.w) p.x

    abbrev p_to : Bool
    p_to = int_lt p.x (s.hi.x *ℤ pos p.w)

    abbrev q_from : Bool
    q_from = int_le (s.lo.x *ℤ pos q.w) q.x

    abbrev q_to : Bool
    q_to = int_lt q.x (s.hi.x *ℤ pos q.w)

    abbrev lo_from : Bool
    lo_from = int_lt p.x (s.lo.x *ℤ pos p.w)

    abbrev hi_to : Bool
    hi_to = int_le (s.hi.x *ℤ pos q.w) q.x

    abbrev p_over : Bool
    p_over = int_lt (pos 0) (cross s p)

    abbrev q_over : Bool
    q_over = int_lt (pos 0) (cross s q)

    abbrev lo_under : Bool
    lo_under = int_lt (pos 0) (depth p q s.lo)

    abbrev hi_under : Bool
    hi_under = int_lt (pos 0) (depth p q s.hi)

    even_by : (e f g h : Bool) → counts s p ≡ e → counts s q ≡ f → is_low p q s.lo ≡ g → is_low p q s.hi ≡ h → differ e f ≡ differ g h
        → AreEven
    even_by e f g h = by_values (counts s p) (counts s q) (is_low p q s.lo) (is_low p q s.hi) e f g h

    -- the segment lies right of q
    beyond : q.x <ℤ (s.lo.x *ℤ pos q.w) → AreEven
    beyond h =
        let l = right_of_first s.lo.x h in
        let r = far q.x (s.lo.x *ℤ pos q.w) (s.hi.x *ℤ pos q.w) h (scaled_le s.lo.x s.hi.x q.w order) in
        even_by false false false false (first_not p_from p_to p_over (int_le_false (s.lo.x *ℤ pos p.w) p.x l))
        (first_not q_from q_to q_over (int_le_false (s.lo.x *ℤ pos q.w) q.x h)) (second_not lo_from q_from lo_under (int_le_false (s.lo.x *ℤ pos q.w) q.x h))
        (second_not p_to hi_to hi_under (int_le_false (s.hi.x *ℤ pos q.w) q.x r)) refl
      where
        far : (x u v : ℤ) → x <ℤ u → u ≤ℤ v → x <ℤ v
        far x u v h k = omega (arith, ints)

    -- it ends at p or before
    before : (s.hi.x *ℤ pos p.w) ≤ℤ p.x → AreEven
    before h =
        let r = left_of_second s.hi.x h in
        let l = le_trans_ℤ (s.lo.x *ℤ pos p.w) (s.hi.x *ℤ pos p.w) p.x (scaled_le s.lo.x s.hi.x p.w order) h in
        even_by false false false false (second_not p_from p_to p_over (int_lt_false p.x (s.hi.x *ℤ pos p.w) h))
        (second_not q_from q_to q_over (int_lt_false q.x (s.hi.x *ℤ pos q.w) r)) (first_not lo_from q_from lo_under (int_lt_false p.x (s.lo.x *ℤ pos p.w) l))
        (first_not p_to hi_to hi_under (int_lt_false p.x (s.hi.x *ℤ pos p.w) h)) refl

    -- it reaches what lies between p and q across
    module _ (lo_left : (s.lo.x *ℤ pos q.w) ≤ℤ q.x) (hi_right : p.x <ℤ (s.hi.x *ℤ pos p.w)) where
      q_from_is : q_from ≡ true
      q_from_is = le_true (s.lo.x *ℤ pos q.w) q.x lo_left

      p_to_is : p_to ≡ true
      p_to_is = lt_true p.x (s.hi.x *ℤ pos p.w) hi_right

      over_both : (s.lo.x *ℤ pos p.w) ≤ℤ p.x → q.x <ℤ (s.hi.x *ℤ pos q.w) → AreEven
      over_both l r =
          even_by p_over q_over false false (third_is p_from p_to p_over (le_true (s.lo.x *ℤ pos p.w) p.x l) p_to_is)
          (third_is q_from q_to q_over q_from_is (lt_true q.x (s.hi.x *ℤ pos q.w) r)) (first_not lo_from q_from lo_under (int_lt_false p.x (s.lo.x *ℤ pos p.w) l))
          (second_not p_to hi_to hi_under (int_le_false (s.hi.x *ℤ pos q.w) q.x r))
          (both_same p_over q_over (one_sign (cross s p) (cross s q) (both_across s p q miss l hi_right lo_left r)))

      over_first : (s.lo.x *ℤ pos p.w) ≤ℤ p.x → (s.hi.x *ℤ pos q.w) ≤ℤ q.x → AreEven
      over_first l r =
          even_by p_over false false hi_under (third_is p_from p_to p_over (le_true (s.lo.x *ℤ pos p.w) p.x l) p_to_is)
          (second_not q_from q_to q_over (int_lt_false q.x (s.hi.x *ℤ pos q.w) r)) (first_not lo_from q_from lo_under (int_lt_false p.x (s.lo.x *ℤ pos p.w) l))
          (third_is p_to hi_to hi_under p_to_is (le_true (s.hi.x *ℤ pos q.w) q.x r))
          (differ_right p_over hi_under (one_sign (cross s p) (depth p q s.hi) (first_across s p q miss l hi_right lo_left r)))

      over_second : p.x <ℤ (s.lo.x *ℤ pos p.w) → q.x <ℤ (s.hi.x *ℤ pos q.w) → AreEven
      over_second l r =
          even_by false q_over lo_under false (first_not p_from p_to p_over (int_le_false (s.lo.x *ℤ pos p.w) p.x l))
          (third_is q_from q_to q_over q_from_is (lt_true q.x (s.hi.x *ℤ pos q.w) r))
          (third_is lo_from q_from lo_under (lt_true p.x (s.lo.x *ℤ pos p.w) l) q_from_is)
          (second_not p_to hi_to hi_under (int_le_false (s.hi.x *ℤ pos q.w) q.x r))
          (differ_left q_over lo_under (sym (one_sign (depth p q s.lo) (cross s q) (second_across s p q miss l hi_right lo_left r))))

      over_neither : p.x <ℤ (s.lo.x *ℤ pos p.w) → (s.hi.x *ℤ pos q.w) ≤ℤ q.x → AreEven
      over_neither l r =
          even_by false false lo_under hi_under (first_not p_from p_to p_over (int_le_false (s.lo.x *ℤ pos p.w) p.x l))
          (second_not q_from q_to q_over (int_lt_false q.x (s.hi.x *ℤ pos q.w) r)) (third_is lo_from q_from lo_under (lt_true p.x (s.lo.x *ℤ pos p.w) l) q_from_is)
          (third_is p_to hi_to hi_under p_to_is (le_true (s.hi.x *ℤ pos q.w) q.x r))
          (sym (both_same lo_under hi_under (one_sign (depth p q s.lo) (depth p q s.hi) (within_across s p q miss l hi_right lo_left r))))

      reaching : AreEven
      reaching =
          elim (cases_order_ℤ p.x (s.lo.x *ℤ pos p.w)) [
            | inl l ↦ elim (cases_order_ℤ q.x (s.hi.x *ℤ pos q.w)) [ inl r ↦ over_second l r | inr r ↦ over_neither l r ]
            | inr l ↦ elim (cases_order_ℤ q.x (s.hi.x *ℤ pos q.w)) [ inl r ↦ over_both l r | inr r ↦ over_first l r ]
          ]

    facts_even : AreEven
    facts_even =
        elim (cases_order_ℤ q.x (s.lo.x *ℤ pos q.w)) [
          | inl h ↦ beyond h
          | inr h ↦ elim (cases_order_ℤ p.x (s.hi.x *ℤ pos p.w)) [ inl k ↦ reaching h k | inr k ↦ before k ]
        ]

  -- of the segment between two vertices
  pub between_even : (u v : Place) → Misses (segment_between u v) p q
      → differ (counts (segment_between u v) p) (counts (segment_between u v) q) ≡ differ (is_low p q u) (is_low p q v)
  between_even u v = by_order (comes_before u v) refl
    where
      by_order : (t : Bool) → comes_before u v ≡ t → Misses (drawn u v t) p q
          → differ (counts (drawn u v t) p) (counts (drawn u v t) q) ≡ differ (is_low p q u) (is_low p q v)
      by_order true e m = facts_even (drawn u v true) (in_order u v e) m
      by_order false e m = facts_even (drawn u v false) (out_of_order u v e) m ∙ differ_back (is_low p q v) (is_low p q u)
