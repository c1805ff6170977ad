-- The segments of a column stand in one order.
use Rattle.std.proofs.Common.{◌≡◌, ℤ, ◌<ℤ◌, arith, true, ◌&&◌, List, [], ◌∷◌}
use Rattle.std.proofs.lemmas.Int.{ints}
use Rattle.std.proofs.lemmas.Bool.{and_parts}
use Rattle.std.specs.Int.RustNames.{int_le}
use Rattle.plane_terms.specs.Lists.{Every, EveryPair}
use Rattle.plane_terms.specs.Segment.{Segment, left_of, MeetAtEnds}
use Rattle.plane_terms.specs.Columns.{is_lower, place, column}
use Rattle.plane_terms.proofs.ListLemmas.{every_map}
use Rattle.column_laws.proofs.Every.{every_both, by_test}
use Rattle.column_laws.proofs.Lines.{lower_trans}
use Rattle.column_laws.proofs.Segments.{Spans, Apart, Lower, apart_from_ends, lower_from_test, lower_from_failed}

-- each is lower than those after it
abbrev pub Chain : ℤ → ℤ → List Segment → Type 0
Chain x y ss = EveryPair (Lower x y) ss

module _ (x y : ℤ) where
  pub every-place : (P : Segment → Type 0) (s : Segment) (ts : List Segment) → P s → Every P ts → Every P (place x y s ts)
  every-place P s [] h k = (h, tt)
  every-place P s (t ∷ ts) h k = by_test (Every P) (is_lower x y s t) (s ∷ t ∷ ts) (t ∷ place x y s ts) (λ e. (h, k))
      (λ e. (k.0, every-place P s ts h k.1))

  pub every-column : (P : Segment → Type 0) (ss : List Segment) → Every P ss → Every P (column x y ss)
  every-column P [] h = tt
  every-column P (s ∷ ss) h = by_test (Every P) (int_le s.lo.x x && int_le y s.hi.x) (place x y s (column x y ss)) (column x y ss)
      (λ e. every-place P s (column x y ss) h.0 (every-column P ss h.1)) (λ e. every-column P ss h.1)

  spans_from_test : (s : Segment) → (int_le s.lo.x x && int_le y s.hi.x) ≡ true → Spans x y s
  spans_from_test s e =
      let h = and_parts (int_le s.lo.x x) (int_le y s.hi.x) e in
      let a : int_le s.lo.x x ≡ true = h.0 in
      let b : int_le y s.hi.x ≡ true = h.1 in
      record { low = omega (arith, ints); high = omega (arith, ints) }

  pub column-spans : (ss : List Segment) → Every (Spans x y) (column x y ss)
  column-spans [] = tt
  column-spans (s ∷ ss) = by_test (Every (Spans x y)) (int_le s.lo.x x && int_le y s.hi.x) (place x y s (column x y ss)) (column x y ss)
      (λ e. every-place (Spans x y) s (column x y ss) (spans_from_test s e) (column-spans ss)) (λ e. column-spans ss)

  chain-place : x <ℤ y → (s : Segment) (ts : List Segment) → Spans x y s → Every (λ t. Spans x y t × Apart x y s t) ts → Chain x y ts
      → Chain x y (place x y s ts)
  chain-place d s [] f g c = (tt, tt)
  chain-place d s (t ∷ ts) f g c =
      by_test (Chain x y) (is_lower x y s t) (s ∷ t ∷ ts) (t ∷ place x y s ts)
      (λ e. let st = lower_from_test x y s t d f g.0.0 g.0.1 e in
      ((st, every_map (Lower x y t) (Lower x y s) (λ u tu. lower_trans x y (left_of s) (left_of t) (left_of u) st tu) ts c.0), c))
      (λ e. (every-place (Lower x y t) s ts (lower_from_failed x y s t d f g.0.0 g.0.1 e) c.0, chain-place d s ts f g.1 c.1))

  pub chain-column : x <ℤ y → (ss : List Segment) → EveryPair MeetAtEnds ss → Chain x y (column x y ss)
  chain-column d [] h = tt
  chain-column d (s ∷ ss) h =
      by_test (Chain x y) (int_le s.lo.x x && int_le y s.hi.x) (place x y s (column x y ss)) (column x y ss)
      (λ e. let f = spans_from_test s e in
      chain-place d s (column x y ss) f (every_map (λ t. Spans x y t × MeetAtEnds s t) (λ t. Spans x y t × Apart x y s t)
      (λ t g. (g.0, apart_from_ends x y s t d f g.0 g.1)) (column x y ss) (every_both (Spans x y) (MeetAtEnds s) (column x y ss)
      (column-spans ss) (every-column (MeetAtEnds s) ss h.0))) (chain-column d ss h.1))
      (λ e. chain-column d ss h.1)
