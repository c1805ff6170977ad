-- In a strip without vertices inside, the segments that count are those of the column.
use Rattle.std.proofs.Common.{◌≡◌, ℕ, suc, ℤ, pos, ◌*ℤ◌, ◌≤ℤ◌, ◌<ℤ◌, arith, sym, ap, refl, ◌⊎◌, inl, inr, ◌∙◌, Bool, true, false, cond}
use Rattle.std.proofs.Common.{◌&&◌, List, [], ◌∷◌, None}
use Rattle.std.proofs.lemmas.Int.{ints}
use Rattle.std.proofs.lemmas.Bool.{and_parts, and_cases, and_from, false≢true}
use Rattle.std.specs.Int.RustNames.{int_le, int_lt}
use Rattle.plane_terms.specs.Point.{Point}
use Rattle.plane_terms.specs.Lists.{Every, EveryPair, how_many, is_odd}
use Rattle.plane_terms.specs.Segment.{Segment, IsSegment, cross, IsBetween, OnSegment, MeetAtEnds}
use Rattle.plane_terms.specs.Polygon.{OnBoundary, counts}
use Rattle.plane_terms.specs.Cell.{InCells}
use Rattle.plane_terms.specs.Columns.{is_lower, place, column, slots}
use Rattle.plane_terms.proofs.ListLemmas.{every_map}
use Rattle.column_laws.proofs.Every.{every_both}
use Rattle.column_laws.specs.Slots.{IsAcross, IsFrom, IsFree, IsJudged}
use Rattle.column_laws.proofs.Lines.{IsWithin}
use Rattle.cell_laws.proofs.HalfPlanes.{left_value}
use Rattle.column_laws.proofs.Segments.{Spans, on_from_line}
use Rattle.column_laws.proofs.Order.{every-column, column-spans, chain-column}
use Rattle.column_laws.proofs.Slots.{IsOff, below_it, is_above, slots_out, slots_in}
use Rattle.number_laws.proofs.Order.{le_trans_ℤ, scaled_le, lt_scaled, le_from_scaled}

abbrev pub in_column_test : ℤ → ℤ → Segment → Bool
in_column_test x y s = int_le s.lo.x x && int_le y s.hi.x

-- ---- counting
count-place : (test : Segment → Bool) (x y : ℤ) (s : Segment) (ts : List Segment)
    → how_many test (place x y s ts) ≡ how_many test (s ∷ ts)
count-place test x y s [] = refl
count-place test x y s (t ∷ ts) = by_cases (is_lower x y s t) (count-place test x y s ts)
  where
    swap : (a b : Bool) (n : ℕ) → cond a (suc (cond b (suc n) n)) (cond b (suc n) n) ≡ cond b (suc (cond a (suc n) n)) (cond a (suc n) n)
    swap true true n = refl
    swap true false n = refl
    swap false true n = refl
    swap false false n = refl

    by_cases : (b : Bool) → how_many test (place x y s ts) ≡ how_many test (s ∷ ts)
        → how_many test (cond b (s ∷ t ∷ ts) (t ∷ place x y s ts)) ≡ how_many test (s ∷ t ∷ ts)
    by_cases true h = refl
    by_cases false h = ap (λ n. cond (test t) (suc n) n) h ∙ swap (test t) (test s) (how_many test ts)

module _ (x y : ℤ) (p : Point) (a : IsFrom x y p) where
  counted : (s : Segment) → in_column_test x y s ≡ true → counts s p ≡ is_above p s
  counted s e =
      let h = and_parts (int_le s.lo.x x) (int_le y s.hi.x) e in
      let f : s.lo.x ≤ℤ x = by_true s.lo.x x h.0 in
      let g : y ≤ℤ s.hi.x = by_true y s.hi.x h.1 in
      let l = low (s.lo.x *ℤ pos p.w) (x *ℤ pos p.w) p.x (scaled_le s.lo.x x p.w f) a.right in
      let r = high (s.hi.x *ℤ pos p.w) (y *ℤ pos p.w) p.x (scaled_le y s.hi.x p.w g) a.left in
      rw (l, r) refl
    where
      by_true : (u v : ℤ) → int_le u v ≡ true → u ≤ℤ v
      by_true u v e = omega (arith, ints)

      low : (u v z : ℤ) → u ≤ℤ v → v ≤ℤ z → int_le u z ≡ true
      low u v z h k = grind (arith, ints)

      high : (u v z : ℤ) → v ≤ℤ u → z <ℤ v → int_lt z u ≡ true
      high u v z h k = grind (arith, ints)

  not_counted : (s : Segment) → IsFree x y s → in_column_test x y s ≡ false → counts s p ≡ false
  not_counted s f e = elim (and_cases (int_le s.lo.x x) (int_le y s.hi.x) e) [ inl h ↦ by_low f.low h | inr h ↦ by_high f.high h ]
    where
      rest : (b c : Bool) → b ≡ false → (b && c) ≡ false
      rest b c e = rw e refl

      under : (u v z : ℤ) → u ≤ℤ v → z <ℤ u → int_le v z ≡ false
      under u v z h k = grind (arith, ints)

      past : (u v z : ℤ) → u ≤ℤ v → v ≤ℤ z → int_lt z u ≡ false
      past u v z h k = grind (arith, ints)

      middle : (b c d : Bool) → c ≡ false → (b && (c && d)) ≡ false
      middle true c d e = rw e refl
      middle false c d e = refl

      by_low : (s.lo.x ≤ℤ x) ⊎ (y ≤ℤ s.lo.x) → int_le s.lo.x x ≡ false → counts s p ≡ false
      by_low (inl h) e = absurd (omega (arith, ints))
      by_low (inr h) e = rest (int_le (s.lo.x *ℤ pos p.w) p.x) (int_lt p.x (s.hi.x *ℤ pos p.w) && is_above p s)
          (under (y *ℤ pos p.w) (s.lo.x *ℤ pos p.w) p.x (scaled_le y s.lo.x p.w h) a.left)

      by_high : (s.hi.x ≤ℤ x) ⊎ (y ≤ℤ s.hi.x) → int_le y s.hi.x ≡ false → counts s p ≡ false
      by_high (inr h) e = absurd (omega (arith, ints))
      by_high (inl h) e = middle (int_le (s.lo.x *ℤ pos p.w) p.x) (int_lt p.x (s.hi.x *ℤ pos p.w)) (is_above p s)
          (past (s.hi.x *ℤ pos p.w) (x *ℤ pos p.w) p.x (scaled_le s.hi.x x p.w h) a.right)

  pub same_count : (ss : List Segment) → Every (IsFree x y) ss → how_many (λ s. counts s p) ss ≡ below_it p (column x y ss)
  same_count [] f = refl
  same_count (s ∷ ss) f = by_test (in_column_test x y s) refl (same_count ss f.1)
    where
      by_test : (b : Bool) → in_column_test x y s ≡ b → how_many (λ s. counts s p) ss ≡ below_it p (column x y ss)
          → how_many (λ s. counts s p) (s ∷ ss) ≡ below_it p (cond b (place x y s (column x y ss)) (column x y ss))
      by_test true e h = rw (counted s e, h) (sym (count-place (is_above p) x y s (column x y ss)))
      by_test false e h = rw (not_counted s f.0 e, h) refl

  -- ---- the boundary
  pub on_cases : (s : Segment) → IsSegment s → IsFree x y s → OnSegment s p
      → (in_column_test x y s ≡ true) ⊎ ((p.x ≡ x *ℤ pos p.w) × (s.hi.x ≡ x))
  on_cases s g f o = by_high (ordered g.ordered o.across) f.low f.high
    where
      ordered : (s.lo.x <ℤ s.hi.x) ⊎ ((s.lo.x ≡ s.hi.x) × (s.lo.y <ℤ s.hi.y)) → IsBetween (s.lo.x *ℤ pos p.w) (s.hi.x *ℤ pos p.w) p.x
          → IsAcross s.lo.x s.hi.x p
      ordered g (inl h) = record { right = h.0; left = h.1 }
      ordered (inl g) (inr h) = absurd (omega (arith, ints, lt_scaled s.lo.x s.hi.x p.w p.positive g, h.0, h.1))
      ordered (inr g) (inr h) = record {
        right = omega (arith, ints, ap (λ v. v *ℤ pos p.w) g.0, h.0, h.1);
        left = omega
            (arith, ints, ap (λ v. v *ℤ pos p.w) g.0, h.0, h.1);
      }

      passes : s.lo.x ≤ℤ x → y ≤ℤ s.hi.x → in_column_test x y s ≡ true
      passes h k = and_from (int_le s.lo.x x) (int_le y s.hi.x) (grind (arith, ints)) (grind (arith, ints))

      same : (u v : ℤ) → u ≤ℤ v → v ≤ℤ u → u ≡ v
      same u v h k = omega (arith, ints)

      between : (u v z : ℤ) → z ≤ℤ u → u ≤ℤ v → v ≤ℤ z → v ≡ u
      between u v z h k l = omega (arith, ints)

      by_high : IsAcross s.lo.x s.hi.x p → (s.lo.x ≤ℤ x) ⊎ (y ≤ℤ s.lo.x) → (s.hi.x ≤ℤ x) ⊎ (y ≤ℤ s.hi.x)
          → (in_column_test x y s ≡ true) ⊎ ((p.x ≡ x *ℤ pos p.w) × (s.hi.x ≡ x))
      by_high c (inr l) h = absurd (omega (arith, ints, scaled_le y s.lo.x p.w l, c.right, a.left))
      by_high c (inl l) (inr h) = inl (passes l h)
      by_high c (inl l) (inl h) =
          let e = scaled_le s.hi.x x p.w h in
          inr (
            between (x *ℤ pos p.w) p.x (s.hi.x *ℤ pos p.w) e a.right c.left,
            same s.hi.x x h
                (le_from_scaled x s.hi.x p.w p.positive (le_trans_ℤ (x *ℤ pos p.w) p.x (s.hi.x *ℤ pos p.w) a.right c.left)),
          )

place_parts : (P : Segment → Type 0) (x y : ℤ) (s : Segment) (ts : List Segment) → Every P (place x y s ts) → P s × Every P ts
place_parts P x y s [] h = (h.0, tt)
place_parts P x y s (t ∷ ts) h = by_cases (is_lower x y s t) (place_parts P x y s ts) h
  where
    by_cases : (b : Bool) → (Every P (place x y s ts) → P s × Every P ts) → Every P (cond b (s ∷ t ∷ ts) (t ∷ place x y s ts))
        → P s × (P t × Every P ts)
    by_cases true f h = h
    by_cases false f h = let r = f h.1 in (r.0, (h.0, r.1))

-- what holds of the column holds of each segment that passes its test
pub column_parts : (P : Segment → Type 0) (x y : ℤ) (ss : List Segment) → Every P (column x y ss)
    → Every (λ s. in_column_test x y s ≡ true → P s) ss
column_parts P x y [] h = tt
column_parts P x y (s ∷ ss) h = by_cases (in_column_test x y s) refl (column_parts P x y ss) h
  where
    by_cases : (b : Bool) → in_column_test x y s ≡ b → (Every P (column x y ss) → Every (λ s. in_column_test x y s ≡ true → P s) ss)
        → Every P (cond b (place x y s (column x y ss)) (column x y ss))
        → (in_column_test x y s ≡ true → P s) × Every (λ s. in_column_test x y s ≡ true → P s) ss
    by_cases true e f h = let r = place_parts P x y s (column x y ss) h in ((λ k. r.0), f r.1)
    by_cases false e f h = ((λ k. absurd (false≢true (sym e ∙ k))), f h)

pub clear_by_each : (p : Point) (ss : List Segment) → Every (λ s. ¬ (OnSegment s p)) ss → ¬ (OnBoundary ss p)
clear_by_each p [] h b = b
clear_by_each p (s ∷ ss) h (inl b) = h.0 b
clear_by_each p (s ∷ ss) h (inr b) = clear_by_each p ss h.1 b

pub each_by_clear : (p : Point) (ss : List Segment) → ¬ (OnBoundary ss p) → Every (λ s. ¬ (OnSegment s p)) ss
each_by_clear p [] h = tt
each_by_clear p (s ∷ ss) h = ((λ b. h (inl b)), each_by_clear p ss (λ b. h (inr b)))

-- a point that is not on the boundary is off each segment of the column
pub off_by_clear : (x y : ℤ) (p : Point) → x <ℤ y → IsAcross x y p → (ss : List Segment) → ¬ (OnBoundary ss p) → IsOff p (column x y ss)
off_by_clear x y p d a ss h =
    every_map (λ s. Spans x y s × ¬ (OnSegment s p)) (λ s. ¬ (cross s p ≡ pos 0)) (λ s f e. f.1
    (on_from_line s p (omega (arith, ints, f.0.low, f.0.high)) (left_value s p ∙ e) (record {
      right = omega (arith, ints, scaled_le s.lo.x x p.w f.0.low, a.right);
      left = omega (arith, ints, scaled_le y s.hi.x p.w f.0.high, a.left);
    })))
    (column x y ss) (every_both (Spans x y) (λ s. ¬ (OnSegment s p)) (column x y ss) (column-spans x y ss)
    (every-column x y (λ s. ¬ (OnSegment s p)) ss (each_by_clear p ss h)))

-- ---- the open strip
pub strip_out : (even : Bool) (x y : ℤ) (ss : List Segment) → x <ℤ y → Every IsSegment ss → EveryPair MeetAtEnds ss
    → Every (IsFree x y) ss → (p : Point) → IsWithin x y p → InCells (slots even None (column x y ss)) p → IsJudged even ss p
strip_out even x y ss d g m f p w h =
    let a : IsFrom x y p = record { right = omega (arith, ints, w.right); left = w.left } in
    let r = slots_out x y even None (column x y ss) (chain-column x y d ss m) tt p
    (record { right = omega (arith, ints, w.right); left = omega (arith, ints, w.left) }) h in
    record {
      clear = clear_by_each p ss (every_map (λ s. (IsSegment s × IsFree x y s) × (in_column_test x y s ≡ true → ¬ (cross s p ≡ pos 0)))
          (λ s. ¬ (OnSegment s p)) (λ s k o. elim (on_cases x y p a s k.0.0 k.0.1 o) [
            | inl t ↦ k.1 t o.straight
            | inr t ↦ omega
                (arith, ints, t.0, w.right)
          ]) ss
          (every_both (λ s. IsSegment s × IsFree x y s) (λ s. in_column_test x y s ≡ true
          → ¬ (cross s p ≡ pos 0)) ss (every_both IsSegment (IsFree x y) ss g f)
          (column_parts (λ s. ¬ (cross s p ≡ pos 0)) x y ss r.off)));
      parity = ap is_odd (same_count x y p a ss f) ∙ r.parity;
    }

pub strip_in : (even : Bool) (x y : ℤ) (ss : List Segment) → x <ℤ y → EveryPair MeetAtEnds ss → Every (IsFree x y) ss → (p : Point)
    → IsFrom x y p → IsJudged even ss p → InCells (slots even None (column x y ss)) p
strip_in even x y ss d m f p a j =
    let c : IsAcross x y p = record { right = a.right; left = omega (arith, ints, a.left) } in
    slots_in x y even None (column x y ss) (chain-column x y d ss m) p c (record {
      over = tt;
      off = off_by_clear x y p d c ss j.clear;
      parity = ap is_odd (sym (same_count x y p a ss f)) ∙ j.parity;
    })
