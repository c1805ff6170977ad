-- The two theorems.
use Rattle.std.proofs.Common.{◌≡◌, ◌⊎◌, ℤ, pos, ◌*ℤ◌, ◌≤ℤ◌, ◌<ℤ◌, arith, sym, ap, refl, inl, inr, ◌∙◌, Bool, true, false, ◌&&◌, List, []}
use Rattle.std.proofs.Common.{◌∷◌, Some}
use Rattle.std.proofs.lemmas.Int.{ints}
use Rattle.std.proofs.lemmas.Bool.{false≢true, false_from_ne_true}
use Rattle.std.specs.Int.RustNames.{int_le, int_lt}
use Rattle.plane_terms.specs.Point.{Point}
use Rattle.plane_terms.specs.Lists.{Every, how_many, is_odd}
use Rattle.plane_terms.specs.HalfPlane.{x_over}
use Rattle.plane_terms.specs.Segment.{Segment, cross, OnSegment}
use Rattle.plane_terms.specs.Polygon.{OnBoundary, counts, IsSimpleList}
use Rattle.plane_terms.specs.Cell.{InCells}
use Rattle.plane_terms.specs.Columns.{put, abscissas, cells_from, last, inside_by, outside_by}
use Rattle.plane_terms.specs.Laws.{InsideIsExact, OutsideIsExact}
use Rattle.cell_laws.proofs.GridLines.{x_over_holds, x_under_holds}
use Rattle.cell_laws.proofs.Meets.{kept_points}
use Rattle.column_laws.specs.Rising.{IsRising}
use Rattle.column_laws.specs.Slots.{IsJudged, IsBeside, slot_cells}
use Rattle.plane_terms.proofs.ListLemmas.{every_map}
use Rattle.column_laws.proofs.Numbers.{IsRising-put, among-put, among-put_other}
use Rattle.plane_terms.proofs.ListLemmas.{IsAmong}
use Rattle.column_laws.proofs.Intervals.{StandsAt, StandsAt-next, from_first}
use Rattle.column_laws.proofs.Strip.{clear_by_each}
use Rattle.column_laws.proofs.Cells.{EndsAt, cells_out, cells_in, some_left, some_right, some_cases}
use Rattle.number_laws.proofs.Order.{cases_order_ℤ, scaled_le}

pub abscissas-rising : (ss : List Segment) → IsRising (abscissas ss)
abscissas-rising [] = tt
abscissas-rising (s ∷ ss) = IsRising-put s.lo.x (put s.hi.x (abscissas ss)) (IsRising-put s.hi.x (abscissas ss) (abscissas-rising ss))

abbrev pub EndsAmong : List ℤ → Segment → Type 0
EndsAmong xs s = IsAmong s.lo.x xs × IsAmong s.hi.x xs

pub abscissas-each : (ss : List Segment) → Every (EndsAmong (abscissas ss)) ss
abscissas-each [] = tt
abscissas-each (s ∷ ss) =
    let xs = abscissas ss in (
      (among-put s.lo.x (put s.hi.x xs), among-put_other s.hi.x s.lo.x (put s.hi.x xs) (among-put s.hi.x xs)),
      every_map (EndsAmong xs) (EndsAmong (put s.lo.x (put s.hi.x xs)))
          (λ t h. (
            among-put_other t.lo.x s.lo.x (put s.hi.x xs) (among-put_other t.lo.x s.hi.x xs h.0),
            among-put_other t.hi.x s.lo.x
                (put s.hi.x xs) (among-put_other t.hi.x s.hi.x xs h.1),
          )) ss (abscissas-each ss),
    )

among_at : (x v : ℤ) (xs : List ℤ) → IsAmong v (x ∷ xs) → StandsAt (Some x) xs v
among_at x v xs (inl e) = inl (omega (arith, ints))
among_at x v xs (inr m) = inr m

below_last : (x : ℤ) (xs : List ℤ) → IsRising (x ∷ xs) → (v : ℤ) → StandsAt (Some x) xs v → v ≤ℤ last x xs
below_last x [] r v (inl h) = h
below_last x [] r v (inr m) = absurd m
below_last x (y ∷ ys) r v m = below_last y ys r.1 v (StandsAt-next (Some x) y ys r v m)

-- ---- left and right of all
-- p is across from no segment
pub record IsAway (p : Point) (s : Segment) : Type 0 where
  pub counts_not : counts s p ≡ false
  pub off : ¬ (OnSegment s p)

pub none_counts : (p : Point) (ss : List Segment) → Every (IsAway p) ss → how_many (λ s. counts s p) ss ≡ 0
none_counts p [] h = refl
none_counts p (s ∷ ss) h = rw h.0.counts_not (none_counts p ss h.1)

pub all_clear : (p : Point) (ss : List Segment) → Every (IsAway p) ss → ¬ (OnBoundary ss p)
all_clear p ss h = clear_by_each p ss (every_map (IsAway p) (λ s. ¬ (OnSegment s p)) (λ s a. a.off) ss h)

away_judged : (p : Point) (ss : List Segment) → Every (IsAway p) ss → IsJudged true ss p
away_judged p ss h = record { clear = all_clear p ss h; parity = ap is_odd (none_counts p ss h) }

left_away : (x : ℤ) (p : Point) → p.x <ℤ (x *ℤ pos p.w) → (s : Segment) → x ≤ℤ s.lo.x → x ≤ℤ s.hi.x → IsAway p s
left_away x p l s h k =
    let a = scaled_le x s.lo.x p.w h in
    let b = scaled_le x s.hi.x p.w k in
    record {
      counts_not = first (int_le (s.lo.x *ℤ pos p.w) p.x) (int_lt p.x (s.hi.x *ℤ pos p.w) && int_lt (pos 0) (cross s p))
          (fails (s.lo.x *ℤ pos p.w) p.x (x *ℤ pos p.w) a l);
      off = λ o. elim o.across [ inl c ↦ omega (arith, ints, c.0, a, l) | inr c ↦ omega (arith, ints, c.0, b, l) ];
    }
  where
    first : (b c : Bool) → b ≡ false → (b && c) ≡ false
    first b c e = rw e refl

    fails : (u z v : ℤ) → v ≤ℤ u → z <ℤ v → int_le u z ≡ false
    fails u z v h k = grind (arith, ints)

right_away : (x : ℤ) (p : Point) → (x *ℤ pos p.w) <ℤ p.x → (s : Segment) → s.lo.x ≤ℤ x → s.hi.x ≤ℤ x → IsAway p s
right_away x p l s h k =
    let a = scaled_le s.lo.x x p.w h in
    let b = scaled_le s.hi.x x p.w k in
    record {
      counts_not = second (int_le (s.lo.x *ℤ pos p.w) p.x) (int_lt p.x (s.hi.x *ℤ pos p.w)) (int_lt (pos 0) (cross s p))
          (fails (s.hi.x *ℤ pos p.w) p.x (x *ℤ pos p.w) b l);
      off = λ o. elim o.across [ inl c ↦ omega (arith, ints, c.1, b, l) | inr c ↦ omega (arith, ints, c.1, a, l) ];
    }
  where
    second : (b c d : Bool) → c ≡ false → (b && (c && d)) ≡ false
    second true c d e = rw e refl
    second false c d e = refl

    fails : (u z v : ℤ) → u ≤ℤ v → v <ℤ z → int_lt z u ≡ false
    fails u z v h k = grind (arith, ints)

-- ---- by the list of abscissas
module _ (ss : List Segment) (p : Point) where
  ends : (x : ℤ) (xs : List ℤ) → Every (EndsAmong (x ∷ xs)) ss → Every (EndsAt x xs) ss
  ends x xs e = every_map (EndsAmong (x ∷ xs)) (EndsAt x xs) (λ s m. (among_at x s.lo.x xs m.0, among_at x s.hi.x xs m.1)) ss e

  left_of_all : (x : ℤ) (xs : List ℤ) → IsRising (x ∷ xs) → Every (EndsAmong (x ∷ xs)) ss → p.x <ℤ (x *ℤ pos p.w) → Every (IsAway p) ss
  left_of_all x xs r e l = every_map (EndsAmong (x ∷ xs)) (IsAway p) (λ s m. left_away x p l s (from_first x xs r s.lo.x m.0)
      (from_first x xs r s.hi.x m.1)) ss e

  right_of_all : (x : ℤ) (xs : List ℤ) → IsRising (x ∷ xs) → Every (EndsAmong (x ∷ xs)) ss → (last x xs *ℤ pos p.w) <ℤ p.x
      → Every (IsAway p) ss
  right_of_all x xs r e l = every_map (EndsAt x xs) (IsAway p) (λ s m. right_away (last x xs) p l s (below_last x xs r s.lo.x m.0)
      (below_last x xs r s.hi.x m.1)) ss (ends x xs e)

  pub beside_away : (xs : List ℤ) → IsRising xs → Every (EndsAmong xs) ss → IsBeside xs p → Every (IsAway p) ss
  beside_away [] r e h = none_at_all ss e
    where
      none_at_all : (ss : List Segment) → Every (EndsAmong []) ss → Every (IsAway p) ss
      none_at_all [] e = tt
      none_at_all (s ∷ ss) e = absurd e.0.0
  beside_away (x ∷ xs) r e (inl h) = left_of_all x xs r e h
  beside_away (x ∷ xs) r e (inr h) = right_of_all x xs r e h

  beside_judged : (xs : List ℤ) → IsRising xs → Every (EndsAmong xs) ss → IsBeside xs p → IsJudged true ss p
  beside_judged xs r e h = away_judged p ss (beside_away xs r e h)

module _ (ss : List Segment) (p : Point) (valid : IsSimpleList ss) where
  -- ---- the cells of one parity
  pub slots_clear : (even : Bool) (xs : List ℤ) → IsRising xs → Every (EndsAmong xs) ss → InCells (slot_cells even ss xs) p
      → IsJudged even ss p
  slots_clear even [] r e h = absurd h
  slots_clear even (x ∷ xs) r e h = cells_out even ss valid p x xs r (ends ss p x xs e) h

  pub slots_enough : (even : Bool) (xs : List ℤ) → IsRising xs → Every (EndsAmong xs) ss → IsJudged even ss p
      → IsBeside xs p ⊎ InCells (slot_cells even ss xs) p
  slots_enough even [] r e j = inl tt
  slots_enough even (x ∷ xs) r e j =
      elim (cases_order_ℤ p.x (x *ℤ pos p.w)) [
        | inl k ↦ inl (inl k)
        | inr k ↦ elim (cases_order_ℤ (last x xs *ℤ pos p.w) p.x) [
          | inl l ↦ inl (inr l)
          | inr l ↦ inr (cells_in even ss valid p x xs r (ends ss p x xs e) k l j)
        ]
      ]

  both_parities : {A : Type 0} → IsJudged true ss p → IsJudged false ss p → A
  both_parities j k = absurd (false≢true (sym j.parity ∙ k.parity))

  inside_out : (xs : List ℤ) → IsRising xs → Every (EndsAmong xs) ss → InCells (inside_by ss xs) p → IsJudged false ss p
  inside_out [] r e h = absurd h
  inside_out (x ∷ xs) r e h = slots_clear false (x ∷ xs) r e h

  inside_in : (xs : List ℤ) → IsRising xs → Every (EndsAmong xs) ss → IsJudged false ss p → InCells (inside_by ss xs) p
  inside_in [] r e j = both_parities (beside_judged ss p [] r e tt) j
  inside_in (x ∷ xs) r e j = elim (slots_enough false (x ∷ xs) r e j) [
    | inl h ↦ both_parities
        (beside_judged ss p (x ∷ xs) r e h) j
    | inr h ↦ h
  ]

  outside_out : (xs : List ℤ) → IsRising xs → Every (EndsAmong xs) ss → InCells (outside_by ss xs) p → IsJudged true ss p
  outside_out [] r e h = beside_judged ss p [] r e tt
  outside_out (x ∷ xs) r e (inl h) = beside_judged ss p (x ∷ xs) r e (inl ((x_under_holds x p).0 h.0))
  outside_out (x ∷ xs) r e (inr h) =
      elim (some_cases (cells_from true ss x xs) ((x_over (last x xs) ∷ []) ∷ []) p h) [
        | inl k ↦ slots_clear true (x ∷ xs) r e k
        | inr k ↦ elim k [ inl l ↦ beside_judged ss p (x ∷ xs) r e (inr ((x_over_holds (last x xs) p).0 l.0)) | inr l ↦ absurd l ]
      ]

  outside_in : (xs : List ℤ) → IsRising xs → Every (EndsAmong xs) ss → IsJudged true ss p → InCells (outside_by ss xs) p
  outside_in [] r e j = inl tt
  outside_in (x ∷ xs) r e j =
      elim (slots_enough true (x ∷ xs) r e j) [
        | inl h ↦ elim h [
          | inl k ↦ inl ((x_under_holds x p).1 k, tt)
          | inr l ↦ inr (some_right (cells_from true ss x xs) ((x_over (last x xs) ∷ []) ∷ []) p
              (inl ((x_over_holds (last x xs) p).1 l, tt)))
        ]
        | inr h ↦ inr (some_left (cells_from true ss x xs) ((x_over (last x xs) ∷ []) ∷ []) p h)
      ]

-- the cells of `inside` hold exactly the points inside
pub inside_is_exact : InsideIsExact
inside_is_exact ss valid p =
    let k = kept_points (inside_by ss (abscissas ss)) p in (
      (λ h. let j = inside_out ss p valid (abscissas ss) (abscissas-rising ss) (abscissas-each ss)
          (k.0 h) in record { clear = j.clear; odd = j.parity }),
      (λ i. k.1 (inside_in ss p valid (abscissas ss) (abscissas-rising ss) (abscissas-each ss) (record {
        clear = i.clear;
        parity = i.odd;
      }))),
    )

-- those of `outside` exactly the points neither inside nor on the boundary
pub outside_is_exact : OutsideIsExact
outside_is_exact ss valid p =
    let k = kept_points (outside_by ss (abscissas ss)) p in (
      (λ h. let j = outside_out ss p valid (abscissas ss) (abscissas-rising ss) (abscissas-each ss)
          (k.0 h) in record { clear = j.clear; even = λ e. false≢true (sym j.parity ∙ e) }),
      (λ i. k.1 (outside_in ss p valid (abscissas ss) (abscissas-rising ss) (abscissas-each ss) (record {
        clear = i.clear;
        parity = false_from_ne_true (is_odd (how_many (λ s. counts s p) ss)) i.even;
      }))),
    )
