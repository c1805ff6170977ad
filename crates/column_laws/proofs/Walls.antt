-- A wall: its vertices and vertical segments.
use Rattle.std.proofs.Common.{◌≡◌, ℕ, ℤ, pos, ◌-ℤ◌, ◌*ℤ◌, ◌≤ℤ◌, ◌<ℤ◌, arith, sym, subst, ap, ◌⊎◌, inl, inr, ◌∙◌, Bool, true, cond, ◌&&◌}
use Rattle.std.proofs.Common.{List, [], ◌∷◌, None}
use Rattle.std.proofs.lemmas.Int.{ints}
use Rattle.std.proofs.lemmas.Bool.{and_parts, and_from, false≢true, or_cases, or_left, or_right}
use Rattle.std.specs.Int.RustNames.{int_le}
use Rattle.plane_terms.specs.Point.{Point}
use Rattle.plane_terms.specs.Lists.{Every, EveryPair, is_odd}
use Rattle.plane_terms.specs.Segment.{Segment, IsSegment, cross, IsBetween, OnSegment, MeetAtEnds}
use Rattle.plane_terms.specs.Polygon.{OnBoundary}
use Rattle.plane_terms.specs.Cell.{InCells}
use Rattle.plane_terms.specs.Columns.{put, ordinates, column, slots, is_covered, intervals}
use Rattle.column_laws.specs.Rising.{IsRising}
use Rattle.column_laws.specs.Slots.{IsFree, IsFrom, IsJudged}
use Rattle.plane_terms.proofs.ListLemmas.{every_map}
use Rattle.column_laws.proofs.Every.{every_both, by_test}
use Rattle.column_laws.proofs.Numbers.{every-put, IsRising-put, among-put, among-put_other}
use Rattle.plane_terms.proofs.ListLemmas.{IsAmong}
use Rattle.column_laws.proofs.Intervals.{intervals_out, intervals_in}
use Rattle.column_laws.proofs.Order.{chain-column}
use Rattle.column_laws.proofs.Segments.{one_way}
use Rattle.column_laws.proofs.Slots.{slots_out}
use Rattle.column_laws.proofs.Strip.{in_column_test, on_cases, same_count, column_parts, clear_by_each, each_by_clear}
use Rattle.number_laws.proofs.Order.{scaled_le, lt_scaled, zero_unscaled}
use Rattle.number_laws.proofs.Ring.{num, ◌⊖◌, ◌⊗◌, same_by}

abbrev equal : ℤ → ℤ → Bool
equal u x = int_le u x && int_le x u

equal_out : (u x : ℤ) → equal u x ≡ true → u ≡ x
equal_out u x e =
    let h = and_parts (int_le u x) (int_le x u) e in
    let a : int_le u x ≡ true = h.0 in
    let b : int_le x u ≡ true = h.1 in
    omega (arith, ints)

equal_in : (u x : ℤ) → u ≡ x → equal u x ≡ true
equal_in u x e = and_from (int_le u x) (int_le x u) (grind (arith, ints)) (grind (arith, ints))

-- ---- the ordinates
module _ (x : ℤ) where
  one_end : ℤ → ℤ → List ℤ → List ℤ
  one_end u v ys = cond (equal u x) (put v ys) ys

  rising_end : (u v : ℤ) (ys : List ℤ) → IsRising ys → IsRising (cond (equal u x) (put v ys) ys)
  rising_end u v ys h = by_test IsRising (equal u x) (put v ys) ys (λ e. IsRising-put v ys h) (λ e. h)

  pub ordinates-rising : (ss : List Segment) → IsRising (ordinates x ss)
  ordinates-rising [] = tt
  ordinates-rising (s ∷ ss) = rising_end s.hi.x s.hi.y (cond (equal s.lo.x x) (put s.lo.y (ordinates x ss)) (ordinates x ss))
      (rising_end s.lo.x s.lo.y (ordinates x ss) (ordinates-rising ss))

  all_end : (P : ℤ → Type 0) (u v : ℤ) (ys : List ℤ) → (u ≡ x → P v) → Every P ys → Every P (cond (equal u x) (put v ys) ys)
  all_end P u v ys f h = by_test (Every P) (equal u x) (put v ys) ys (λ e. every-put P v ys (f (equal_out u x e)) h) (λ e. h)

  pub ordinates-all : (P : ℤ → Type 0) (ss : List Segment) → Every (λ s. (s.lo.x ≡ x → P s.lo.y) × (s.hi.x ≡ x → P s.hi.y)) ss
      → Every P (ordinates x ss)
  ordinates-all P [] h = tt
  ordinates-all P (s ∷ ss) h = all_end P s.hi.x s.hi.y (cond (equal s.lo.x x) (put s.lo.y (ordinates x ss)) (ordinates x ss)) h.0.1
      (all_end P s.lo.x s.lo.y (ordinates x ss) h.0.0 (ordinates-all P ss h.1))

  kept_end : (z u v : ℤ) (ys : List ℤ) → IsAmong z ys → IsAmong z (cond (equal u x) (put v ys) ys)
  kept_end z u v ys m = by_test (IsAmong z) (equal u x) (put v ys) ys (λ e. among-put_other z v ys m) (λ e. m)

  own_end : (u v : ℤ) (ys : List ℤ) → u ≡ x → IsAmong v (cond (equal u x) (put v ys) ys)
  own_end u v ys e = by_test (IsAmong v) (equal u x) (put v ys) ys (λ k. among-put v ys)
      (λ k. absurd (false≢true (sym k ∙ equal_in u x e)))

  pub ordinates-each : (ss : List Segment)
      → Every (λ s. (s.lo.x ≡ x → IsAmong s.lo.y (ordinates x ss)) × (s.hi.x ≡ x → IsAmong s.hi.y (ordinates x ss))) ss
  ordinates-each [] = tt
  ordinates-each (s ∷ ss) =
      let low = cond (equal s.lo.x x) (put s.lo.y (ordinates x ss)) (ordinates x ss) in (
        ((λ e. kept_end s.lo.y s.hi.x s.hi.y low (own_end s.lo.x s.lo.y (ordinates x ss) e)), (λ e. own_end s.hi.x s.hi.y low e)),
        every_map (λ t. (t.lo.x ≡ x → IsAmong t.lo.y (ordinates x ss)) × (t.hi.x ≡ x → IsAmong t.hi.y (ordinates x ss))) (λ t. (t.lo.x ≡ x
            → IsAmong t.lo.y (ordinates x (s ∷ ss))) × (t.hi.x ≡ x → IsAmong t.hi.y (ordinates x (s ∷ ss))))
            (λ t f. (
              (λ e. kept_end t.lo.y s.hi.x s.hi.y low (kept_end t.lo.y s.lo.x s.lo.y (ordinates x ss) (f.0 e))),
              (λ e. kept_end t.hi.y s.hi.x s.hi.y low (kept_end t.hi.y s.lo.x s.lo.y (ordinates x ss) (f.1 e))),
            )) ss
            (ordinates-each ss),
      )

  -- ---- what a vertical segment covers
  abbrev covers : Segment → ℤ → ℤ → Bool
  covers s a b = equal s.lo.x x && equal s.hi.x x && (int_le s.lo.y a && int_le b s.hi.y)

abbrev pub Covering : ℤ → List Segment → Segment → Type 0
Covering x ss s = s.lo.x ≡ x → s.hi.x ≡ x → (a b : ℤ) → s.lo.y ≤ℤ a → b ≤ℤ s.hi.y → is_covered x ss a b ≡ true

covers_in : (x : ℤ) (s : Segment) (a b : ℤ) → s.lo.x ≡ x → s.hi.x ≡ x → s.lo.y ≤ℤ a → b ≤ℤ s.hi.y
    → (int_le s.lo.x x && int_le x s.lo.x && (int_le s.hi.x x && int_le x s.hi.x) && (int_le s.lo.y a && int_le b s.hi.y)) ≡ true
covers_in x s a b e f h k =
    let p = equal_in s.lo.x x e in
    let q = equal_in s.hi.x x f in
    let r : int_le s.lo.y a ≡ true = grind (arith, ints) in
    let t : int_le b s.hi.y ≡ true = grind (arith, ints) in
    and_from (int_le s.lo.x x && int_le x s.lo.x && (int_le s.hi.x x && int_le x s.hi.x)) (int_le s.lo.y a && int_le b s.hi.y)
    (and_from (int_le s.lo.x x && int_le x s.lo.x) (int_le s.hi.x x && int_le x s.hi.x) p q)
    (and_from (int_le s.lo.y a) (int_le b s.hi.y) r t)

pub covering-each : (x : ℤ) (ss : List Segment) → Every (Covering x ss) ss
covering-each x [] = tt
covering-each x (s ∷ ss) = (
  (λ e f a b h k. or_left (int_le s.lo.x x && int_le x s.lo.x && (int_le s.hi.x x && int_le x s.hi.x) &&
      (int_le s.lo.y a && int_le b s.hi.y)) (is_covered x ss a b) (covers_in x s a b e f h k)),
  every_map (Covering x ss) (Covering x (s ∷ ss))
      (λ t g e f a b h k. or_right (int_le s.lo.x x && int_le x s.lo.x && (int_le s.hi.x x && int_le x s.hi.x) &&
      (int_le s.lo.y a && int_le b s.hi.y)) (is_covered x ss a b) (g e f a b h k)) ss (covering-each x ss),
)

upright : (lx hx u v x : ℤ) (w : ℕ) (px : ℤ) → lx ≡ x → hx ≡ x → px ≡ x *ℤ pos w → (hx -ℤ lx) *ℤ u -ℤ v *ℤ (px -ℤ lx *ℤ pos w) ≡ pos 0
upright lx hx u v x w px e f g =
    rw (e, f, g) (same_by ((num x ⊖ num x) ⊗ num u ⊖ num v ⊗ (num x ⊗ num (pos w) ⊖ num x ⊗ num (pos w))) (num (pos 0)) (omega arith))

-- a point of the wall between the ends of a vertical segment is on it
pub covered-on : (x : ℤ) (ss : List Segment) (p : Point) → p.x ≡ x *ℤ pos p.w → (a b : ℤ) → is_covered x ss a b ≡ true
    → (a *ℤ pos p.w) <ℤ p.y → p.y <ℤ (b *ℤ pos p.w) → OnBoundary ss p
covered-on x [] p e a b c h k = absurd (false≢true c)
covered-on x (s ∷ ss) p e a b c h k =
    elim (or_cases (int_le s.lo.x x && int_le x s.lo.x && (int_le s.hi.x x && int_le x s.hi.x) && (int_le s.lo.y a && int_le b s.hi.y))
    (is_covered x ss a b) c) [
      | inl f ↦ inl (on f)
      | inr f ↦ inr (covered-on x ss p e a b f h k)
    ]
  where
    by_true : (u v : ℤ) → int_le u v ≡ true → u ≤ℤ v
    by_true u v e = omega (arith, ints)

    on : (int_le s.lo.x x && int_le x s.lo.x && (int_le s.hi.x x && int_le x s.hi.x) && (int_le s.lo.y a && int_le b s.hi.y)) ≡ true
        → OnSegment s p
    on f =
        let g = and_parts (int_le s.lo.x x && int_le x s.lo.x && (int_le s.hi.x x && int_le x s.hi.x))
        (int_le s.lo.y a && int_le b s.hi.y) f in
        let g' = and_parts (int_le s.lo.x x && int_le x s.lo.x) (int_le s.hi.x x && int_le x s.hi.x) g.0 in
        let r = and_parts (int_le s.lo.y a) (int_le b s.hi.y) g.1 in
        let l = equal_out s.lo.x x g'.0 in
        let m = equal_out s.hi.x x g'.1 in
        record {
          straight = upright s.lo.x s.hi.x (p.y -ℤ s.lo.y *ℤ pos p.w) (s.hi.y -ℤ s.lo.y) x p.w p.x l m e;
          across = inl (omega (arith, ints, e, ap (λ v. v *ℤ pos p.w) l), omega (arith, ints, e, ap (λ v. v *ℤ pos p.w) m));
          along = inl (
            omega (arith, ints, scaled_le s.lo.y a p.w (by_true s.lo.y a r.0), h),
            omega
                (arith, ints, scaled_le b s.hi.y p.w (by_true b s.hi.y r.1), k),
          );
        }

-- ---- a point of an interval is on no segment that ends at the wall
end_height : (lx ly hx hy y : ℤ) (w : ℕ) → lx <ℤ hx → (hx -ℤ lx) *ℤ (y -ℤ ly *ℤ pos w) -ℤ (hy -ℤ ly) *ℤ (hx *ℤ pos w -ℤ lx *ℤ pos w)
    ≡ pos 0 → y ≡ hy *ℤ pos w
end_height lx ly hx hy y w d e =
    let z = zero_unscaled (hx -ℤ lx) (y -ℤ hy *ℤ pos w) (omega (arith, ints))
    (same_by ((num hx ⊖ num lx) ⊗ (num y ⊖ num hy ⊗ num (pos w))) ((num hx ⊖ num lx) ⊗ (num y ⊖ num ly ⊗ num (pos w)) ⊖
    (num hy ⊖ num ly) ⊗ (num hx ⊗ num (pos w) ⊖ num lx ⊗ num (pos w))) (omega arith) ∙ e) in
    omega (arith, ints, z)

module _ (x : ℤ) (ss : List Segment) (p : Point) (e : p.x ≡ x *ℤ pos p.w) where
  on_none_that_ends : (s : Segment) → IsSegment s → OnSegment s p → s.hi.x ≡ x
      → ((s.lo.x ≡ x → IsAmong s.lo.y (ordinates x ss)) × (s.hi.x ≡ x → IsAmong s.hi.y (ordinates x ss))) → Covering x ss s
      → InCells (intervals (is_covered x ss) None (ordinates x ss)) p → ⊥
  on_none_that_ends s g o h among covering i = by_kind g.ordered o.along
    where
      by_kind : (s.lo.x <ℤ s.hi.x) ⊎ ((s.lo.x ≡ s.hi.x) × (s.lo.y <ℤ s.hi.y)) → IsBetween (s.lo.y *ℤ pos p.w) (s.hi.y *ℤ pos p.w) p.y → ⊥
      by_kind (inl d) b =
          let y : p.y ≡ s.hi.y *ℤ pos p.w = end_height s.lo.x s.lo.y s.hi.x s.hi.y p.y p.w d
          (subst (λ v. (s.hi.x -ℤ s.lo.x) *ℤ (p.y -ℤ s.lo.y *ℤ pos p.w) -ℤ (s.hi.y -ℤ s.lo.y) *ℤ (v -ℤ s.lo.x *ℤ pos p.w) ≡ pos 0) (e
          ∙ ap (λ v. v *ℤ pos p.w) (sym h)) o.straight) in
          intervals_out (is_covered x ss) p s.hi.y s.hi.y (λ a b k l m. absurd (omega (arith, ints, k, l, m))) (omega (arith, ints))
          (omega (arith, ints)) None (ordinates x ss) (ordinates-rising x ss) (among.1 h) (among.1 h) i
      by_kind (inr d) (inl b) = intervals_out (is_covered x ss) p s.lo.y s.hi.y (λ a b k l m. covering (d.0 ∙ h) h a b k m) b.0 b.1 None
          (ordinates x ss) (ordinates-rising x ss) (among.0 (d.0 ∙ h)) (among.1 h) i
      by_kind (inr d) (inr b) = omega (arith, ints, lt_scaled s.lo.y s.hi.y p.w p.positive d.1, b.0, b.1)

  pub wall_out : (even : Bool) (y : ℤ) → x <ℤ y → Every IsSegment ss → EveryPair MeetAtEnds ss → Every (IsFree x y) ss
      → InCells (slots even None (column x y ss)) p → InCells (intervals (is_covered x ss) None (ordinates x ss)) p → IsJudged even ss p
  wall_out even y d g m f h i =
      let a : IsFrom x y p = from y d in
      let r = slots_out x y even None (column x y ss) (chain-column x y d ss m) tt p
      (record { right = a.right; left = omega (arith, ints, a.left) }) h in
      record {
        clear = clear_by_each p ss (every_map
            (λ s. (IsSegment s × IsFree x y s) × ((in_column_test x y s ≡ true → ¬ (cross s p ≡ pos 0))
            × (((s.lo.x ≡ x → IsAmong s.lo.y (ordinates x ss)) × (s.hi.x ≡ x → IsAmong s.hi.y (ordinates x ss))) × Covering x ss s)))
            (λ s. ¬ (OnSegment s p))
            (λ s k o. elim (on_cases x y p a s k.0.0 k.0.1 o) [
              | inl t ↦ k.1.0 t o.straight
              | inr t ↦ on_none_that_ends s k.0.0 o t.1
                  k.1.1.0 k.1.1.1 i
            ])
            ss
            (every_both (λ s. IsSegment s × IsFree x y s) (λ s. (in_column_test x y s ≡ true → ¬ (cross s p ≡ pos 0))
            × (((s.lo.x ≡ x → IsAmong s.lo.y (ordinates x ss)) × (s.hi.x ≡ x → IsAmong s.hi.y (ordinates x ss)))
            × Covering x ss s)) ss
            (every_both IsSegment (IsFree x y) ss g f)
            (every_both (λ s. in_column_test x y s ≡ true
            → ¬ (cross s p ≡ pos 0)) (λ s. ((s.lo.x ≡ x → IsAmong s.lo.y (ordinates x ss)) × (s.hi.x ≡ x
            → IsAmong s.hi.y (ordinates x ss))) × Covering x ss s) ss
            (column_parts (λ s. ¬ (cross s p ≡ pos 0)) x y ss r.off)
            (every_both (λ s. (s.lo.x ≡ x → IsAmong s.lo.y (ordinates x ss)) × (s.hi.x ≡ x → IsAmong s.hi.y (ordinates x ss)))
            (Covering x ss) ss (ordinates-each x ss) (covering-each x ss)))));
        parity = ap is_odd (same_count x y p a ss f) ∙ r.parity;
      }
    where
      from : (y : ℤ) → x <ℤ y → IsFrom x y p
      from y d = record { right = omega (arith, ints, e); left = omega (arith, ints, e, lt_scaled x y p.w p.positive d) }

-- ---- a vertex is on the boundary
between_low : (u v z : ℤ) (w : ℕ) → z ≡ u *ℤ pos w → (u ≤ℤ v) ⊎ (v ≤ℤ u) → IsBetween (u *ℤ pos w) (v *ℤ pos w) z
between_low u v z w e (inl h) = inl (omega (arith, ints, e), omega (arith, ints, e, scaled_le u v w h))
between_low u v z w e (inr h) = inr (omega (arith, ints, e, scaled_le v u w h), omega (arith, ints, e))

between_high : (u v z : ℤ) (w : ℕ) → z ≡ v *ℤ pos w → (u ≤ℤ v) ⊎ (v ≤ℤ u) → IsBetween (u *ℤ pos w) (v *ℤ pos w) z
between_high u v z w e (inl h) = inl (omega (arith, ints, e, scaled_le u v w h), omega (arith, ints, e))
between_high u v z w e (inr h) = inr (omega (arith, ints, e), omega (arith, ints, e, scaled_le v u w h))

at_low : (lx ly hx hy x y : ℤ) (w : ℕ) → x ≡ lx *ℤ pos w → y ≡ ly *ℤ pos w
    → (hx -ℤ lx) *ℤ (y -ℤ ly *ℤ pos w) -ℤ (hy -ℤ ly) *ℤ (x -ℤ lx *ℤ pos w) ≡ pos 0
at_low lx ly hx hy x y w e f = rw (e, f)
    (same_by ((num hx ⊖ num lx) ⊗ (num ly ⊗ num (pos w) ⊖ num ly ⊗ num (pos w)) ⊖ (num hy ⊖ num ly) ⊗
    (num lx ⊗ num (pos w) ⊖ num lx ⊗ num (pos w))) (num (pos 0)) (omega arith))

at_high : (lx ly hx hy x y : ℤ) (w : ℕ) → x ≡ hx *ℤ pos w → y ≡ hy *ℤ pos w
    → (hx -ℤ lx) *ℤ (y -ℤ ly *ℤ pos w) -ℤ (hy -ℤ ly) *ℤ (x -ℤ lx *ℤ pos w) ≡ pos 0
at_high lx ly hx hy x y w e f = rw (e, f)
    (same_by ((num hx ⊖ num lx) ⊗ (num hy ⊗ num (pos w) ⊖ num ly ⊗ num (pos w)) ⊖ (num hy ⊖ num ly) ⊗
    (num hx ⊗ num (pos w) ⊖ num lx ⊗ num (pos w))) (num (pos 0)) (omega arith))

low_on : (s : Segment) (p : Point) → p.x ≡ s.lo.x *ℤ pos p.w → p.y ≡ s.lo.y *ℤ pos p.w → OnSegment s p
low_on s p e f = record {
  straight = at_low s.lo.x s.lo.y s.hi.x s.hi.y p.x p.y p.w e f;
  across = between_low s.lo.x s.hi.x p.x p.w e
      (one_way s.lo.x s.hi.x);
  along = between_low s.lo.y s.hi.y p.y p.w f (one_way s.lo.y s.hi.y);
}

high_on : (s : Segment) (p : Point) → p.x ≡ s.hi.x *ℤ pos p.w → p.y ≡ s.hi.y *ℤ pos p.w → OnSegment s p
high_on s p e f = record {
  straight = at_high s.lo.x s.lo.y s.hi.x s.hi.y p.x p.y p.w e f;
  across = between_high s.lo.x s.hi.x p.x p.w e
      (one_way s.lo.x s.hi.x);
  along = between_high s.lo.y s.hi.y p.y p.w f (one_way s.lo.y s.hi.y);
}

pub wall_interval : (x : ℤ) (ss : List Segment) (p : Point) → p.x ≡ x *ℤ pos p.w → ¬ (OnBoundary ss p)
    → InCells (intervals (is_covered x ss) None (ordinates x ss)) p
wall_interval x ss p e clear =
    intervals_in (is_covered x ss) p (λ a b c h k. clear (covered-on x ss p e a b c h k)) None (ordinates x ss) tt
    (ordinates-all x (λ b. ¬ (p.y ≡ b *ℤ pos p.w)) ss
    (every_map (λ s. ¬ (OnSegment s p)) (λ s. (s.lo.x ≡ x → ¬ (p.y ≡ s.lo.y *ℤ pos p.w)) × (s.hi.x ≡ x → ¬ (p.y ≡ s.hi.y *ℤ pos p.w)))
    (λ s n. (
      (λ f g. n (low_on s p (e ∙ ap (λ v. v *ℤ pos p.w) (sym f)) g)),
      (λ f g. n (high_on s p (e ∙ ap (λ v. v *ℤ pos p.w) (sym f)) g)),
    )) ss (each_by_clear p ss clear)))
