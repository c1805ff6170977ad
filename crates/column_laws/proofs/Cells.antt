-- The cells of `inside` hold exactly the points inside, and those of `outside` the points neither inside nor on the boundary.
use Rattle.std.proofs.Common.{◌≡◌, ℤ, pos, ◌+ℤ◌, ◌*ℤ◌, ◌≤ℤ◌, ◌<ℤ◌, arith, sym, subst, refl, ◌⊎◌, inl, inr, Bool, true, false, ◌&&◌, List}
use Rattle.std.proofs.Common.{[], ◌∷◌, ◌++◌, Some, None}
use Rattle.std.proofs.lemmas.Int.{ints}
use Rattle.std.specs.Int.RustNames.{int_le}
use Rattle.plane_terms.specs.Point.{Point}
use Rattle.plane_terms.specs.Lists.{Every}
use Rattle.plane_terms.specs.Segment.{Segment}
use Rattle.plane_terms.specs.Polygon.{IsSimpleList}
use Rattle.plane_terms.specs.Cell.{Cell, InCell, InCells}
use Rattle.plane_terms.specs.Columns.{ordinates, column, slots, is_covered, intervals, in_column, at_wall, on_wall, wall, cells_from, last}
use Rattle.cell_laws.proofs.Lists.{some_append}
use Rattle.cell_laws.proofs.GridLines.{x_over_holds, x_under_holds, x_is_holds}
use Rattle.column_laws.specs.Rising.{IsRising}
use Rattle.column_laws.specs.Slots.{IsFree, IsJudged}
use Rattle.plane_terms.proofs.ListLemmas.{every_map}
use Rattle.column_laws.proofs.Lines.{IsWithin}
use Rattle.column_laws.proofs.Intervals.{StandsAt, StandsAt-next, from_first}
use Rattle.column_laws.proofs.Slots.{IsIn-append, IsIn-left, IsIn-right}
use Rattle.column_laws.proofs.Strip.{strip_out, strip_in}
use Rattle.column_laws.proofs.Walls.{wall_out, wall_interval}
use Rattle.number_laws.proofs.Order.{cases_order_ℤ, lt_scaled}

-- ---- points of lists of cells
pub some_left : (c d : List Cell) (p : Point) → InCells c p → InCells (c ++ d) p
some_left c d p h = (some_append (λ e. InCell e p) c d).1 (inl h)

pub some_right : (c d : List Cell) (p : Point) → InCells d p → InCells (c ++ d) p
some_right c d p h = (some_append (λ e. InCell e p) c d).1 (inr h)

pub some_cases : (c d : List Cell) (p : Point) → InCells (c ++ d) p → InCells c p ⊎ InCells d p
some_cases c d p h = (some_append (λ e. InCell e p) c d).0 h

column_out : (x y : ℤ) (cs : List Cell) (p : Point) → InCells (in_column x y cs) p → IsWithin x y p × InCells cs p
column_out x y [] p h = absurd h
column_out x y (c ∷ cs) p (inl h) = (record { right = (x_over_holds x p).0 h.0; left = (x_under_holds y p).0 h.1.0 }, inl h.1.1)
column_out x y (c ∷ cs) p (inr h) = let r = column_out x y cs p h in (r.0, inr r.1)

column_in : (x y : ℤ) (cs : List Cell) (p : Point) → IsWithin x y p → InCells cs p → InCells (in_column x y cs) p
column_in x y [] p w h = h
column_in x y (c ∷ cs) p w (inl h) = inl ((x_over_holds x p).1 w.right, ((x_under_holds y p).1 w.left, h))
column_in x y (c ∷ cs) p w (inr h) = inr (column_in x y cs p w h)

at_out : (x : ℤ) (c : Cell) (gs : List Cell) (p : Point) → InCells (at_wall x c gs) p → (p.x ≡ x *ℤ pos p.w) × InCell c p × InCells gs p
at_out x c [] p h = absurd h
at_out x c (g ∷ gs) p (inl h) = ((x_is_holds x p).0 h.0, IsIn-left c g p h.1, inl (IsIn-right c g p h.1))
at_out x c (g ∷ gs) p (inr h) = let r = at_out x c gs p h in (r.0, r.1, inr r.2)

at_in : (x : ℤ) (c : Cell) (gs : List Cell) (p : Point) → p.x ≡ x *ℤ pos p.w → InCell c p → InCells gs p → InCells (at_wall x c gs) p
at_in x c [] p e h k = k
at_in x c (g ∷ gs) p e h (inl k) = inl ((x_is_holds x p).1 e, IsIn-append c g p h k)
at_in x c (g ∷ gs) p e h (inr k) = inr (at_in x c gs p e h k)

on_out : (x : ℤ) (cs gs : List Cell) (p : Point) → InCells (on_wall x cs gs) p → (p.x ≡ x *ℤ pos p.w) × InCells cs p × InCells gs p
on_out x [] gs p h = absurd h
on_out x (c ∷ cs) gs p h =
    elim (some_cases (at_wall x c gs) (on_wall x cs gs) p h) [
      | inl k ↦ let r = at_out x c gs p k in (r.0, inl r.1, r.2)
      | inr k ↦ let r = on_out x cs gs p k in (r.0, inr r.1, r.2)
    ]

on_in : (x : ℤ) (cs gs : List Cell) (p : Point) → p.x ≡ x *ℤ pos p.w → InCells cs p → InCells gs p → InCells (on_wall x cs gs) p
on_in x [] gs p e h k = h
on_in x (c ∷ cs) gs p e (inl h) k = some_left (at_wall x c gs) (on_wall x cs gs) p (at_in x c gs p e h k)
on_in x (c ∷ cs) gs p e (inr h) k = some_right (at_wall x c gs) (on_wall x cs gs) p (on_in x cs gs p e h k)

-- ---- where the ends lie
abbrev pub EndsAt : ℤ → List ℤ → Segment → Type 0
EndsAt x xs s = StandsAt (Some x) xs s.lo.x × StandsAt (Some x) xs s.hi.x

free_end : (x y : ℤ) (ys : List ℤ) → IsRising (y ∷ ys) → (v : ℤ) → StandsAt (Some x) (y ∷ ys) v → (v ≤ℤ x) ⊎ (y ≤ℤ v)
free_end x y ys r v (inl h) = inl h
free_end x y ys r v (inr m) = inr (from_first y ys r v m)

free_by_ends : (x y : ℤ) (ys : List ℤ) → IsRising (y ∷ ys) → (s : Segment) → EndsAt x (y ∷ ys) s → IsFree x y s
free_by_ends x y ys r s h = record { low = free_end x y ys r s.lo.x h.0; high = free_end x y ys r s.hi.x h.1 }

last_end : (x v : ℤ) → StandsAt (Some x) [] v → v ≤ℤ x
last_end x v (inl h) = h
last_end x v (inr m) = absurd m

free_at_last : (x : ℤ) (s : Segment) → EndsAt x [] s → IsFree x (x +ℤ pos 1) s
free_at_last x s h = record { low = inl (last_end x s.lo.x h.0); high = inl (last_end x s.hi.x h.1) }

no_column : (x : ℤ) (ss : List Segment) → Every (EndsAt x []) ss → column x (x +ℤ pos 1) ss ≡ []
no_column x [] h = refl
no_column x (s ∷ ss) h = rw (and_false (int_le s.lo.x x) (int_le (x +ℤ pos 1) s.hi.x) (past x s.hi.x (last_end x s.hi.x h.0.1)))
    (no_column x ss h.1)
  where
    and_false : (b c : Bool) → c ≡ false → (b && c) ≡ false
    and_false true c e = e
    and_false false c e = refl

    past : (x v : ℤ) → v ≤ℤ x → int_le (x +ℤ pos 1) v ≡ false
    past x v h = grind (arith, ints)

one_more : (x : ℤ) → x <ℤ (x +ℤ pos 1)
one_more x = omega (arith, ints)

module _ (even : Bool) (ss : List Segment) (valid : IsSimpleList ss) (p : Point) where
  wall_exact_out : (x y : ℤ) → x <ℤ y → Every (IsFree x y) ss → InCells (wall even x ss (column x y ss)) p → IsJudged even ss p
  wall_exact_out x y d f h =
      let r = on_out x (slots even None (column x y ss)) (intervals (is_covered x ss) None (ordinates x ss)) p h in
      wall_out x ss p r.0 even y d valid.proper valid.simple f r.1 r.2

  wall_exact_in : (x y : ℤ) → x <ℤ y → Every (IsFree x y) ss → p.x ≡ x *ℤ pos p.w → IsJudged even ss p
      → InCells (wall even x ss (column x y ss)) p
  wall_exact_in x y d f e j =
      on_in x (slots even None (column x y ss)) (intervals (is_covered x ss) None (ordinates x ss)) p e
      (strip_in even x y ss d valid.simple f p (record {
        right = omega (arith, ints, e);
        left = omega
            (arith, ints, e, lt_scaled x y p.w p.positive d);
      }) j)
      (wall_interval x ss p e j.clear)

  last_wall : (x : ℤ) → Every (EndsAt x []) ss → Every (IsFree x (x +ℤ pos 1)) ss
  last_wall x h = every_map (EndsAt x []) (IsFree x (x +ℤ pos 1)) (λ s. free_at_last x s) ss h

  pub cells_out : (x : ℤ) (xs : List ℤ) → IsRising (x ∷ xs) → Every (EndsAt x xs) ss → InCells (cells_from even ss x xs) p
      → IsJudged even ss p
  cells_out x [] r h k = wall_exact_out x (x +ℤ pos 1) (one_more x) (last_wall x h)
      (subst (λ c. InCells (wall even x ss c) p) (sym (no_column x ss h)) k)
  cells_out x (y ∷ ys) r h k =
      let f = every_map (EndsAt x (y ∷ ys)) (IsFree x y) (λ s. free_by_ends x y ys r.1 s) ss h in
      elim (some_cases (wall even x ss (column x y ss))
      (in_column x y (slots even None (column x y ss)) ++ cells_from even ss y ys) p k) [
        | inl k ↦ wall_exact_out x y r.0.0 f k
        | inr k ↦ elim (some_cases (in_column x y (slots even None (column x y ss))) (cells_from even ss y ys) p k) [
          | inl k ↦ let c = column_out x y (slots even None (column x y ss)) p k in strip_out even x y ss r.0.0 valid.proper valid.simple
              f p c.0 c.1
          | inr k ↦ cells_out y ys r.1 (every_map (EndsAt x (y ∷ ys)) (EndsAt y ys)
              (λ s e. (StandsAt-next (Some x) y ys r s.lo.x e.0, StandsAt-next (Some x) y ys r s.hi.x e.1)) ss h) k
        ]
      ]

  pub cells_in : (x : ℤ) (xs : List ℤ) → IsRising (x ∷ xs) → Every (EndsAt x xs) ss → (x *ℤ pos p.w) ≤ℤ p.x
      → p.x ≤ℤ (last x xs *ℤ pos p.w) → IsJudged even ss p → InCells (cells_from even ss x xs) p
  cells_in x [] r h a b j = subst (λ c. InCells (wall even x ss c) p) (no_column x ss h)
      (wall_exact_in x (x +ℤ pos 1) (one_more x) (last_wall x h) (both p.x (x *ℤ pos p.w) a b) j)
    where
      both : (u v : ℤ) → v ≤ℤ u → u ≤ℤ v → u ≡ v
      both u v h k = omega (arith, ints)
  cells_in x (y ∷ ys) r h a b j =
      let f = every_map (EndsAt x (y ∷ ys)) (IsFree x y) (λ s. free_by_ends x y ys r.1 s) ss h in
      let walls = wall even x ss (column x y ss) in
      let columns = in_column x y (slots even None (column x y ss)) in
      let rest = cells_from even ss y ys in
      elim (cases_order_ℤ p.x (y *ℤ pos p.w)) [
        | inl k ↦ elim (cases_order_ℤ (x *ℤ pos p.w) p.x) [
          | inl l ↦ some_right walls (columns ++ rest) p
              (some_left columns rest p (column_in x y (slots even None (column x y ss)) p (record { right = l; left = k })
              (strip_in even x y ss r.0.0 valid.simple f p (record { right = a; left = k }) j)))
          | inr l ↦ some_left walls (columns ++ rest) p (wall_exact_in x y r.0.0 f (both p.x (x *ℤ pos p.w) a l) j)
        ]
        | inr k ↦ some_right walls (columns ++ rest) p
            (some_right columns rest p (cells_in y ys r.1
            (every_map (EndsAt x (y ∷ ys)) (EndsAt y ys)
            (λ s e. (StandsAt-next (Some x) y ys r s.lo.x e.0, StandsAt-next (Some x) y ys r s.hi.x e.1)) ss h) k b j))
      ]
    where
      both : (u v : ℤ) → v ≤ℤ u → u ≤ℤ v → u ≡ v
      both u v h k = omega (arith, ints)
