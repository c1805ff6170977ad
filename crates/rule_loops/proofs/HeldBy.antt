-- A segment of which both ends are on another lies on it, and where it lies on one nothing is left of it.
use Rattle.std.proofs.Common.{◌≡◌, inl, inr, ℕ, ◌+◌, ◌<◌, ℤ, pos, ◌*◌, ◌+ℤ◌, ◌*ℤ◌, Bool, true, false, List, [], ◌∷◌, Some, refl, sym, ◌∙◌, ap, subst, take, drop, length, get_or, cond, arith}
use Rattle.std.specs.Prelude.{slice_get, flat_map}
use Rattle.std.specs.Bool.{OnTrue}
use Rattle.std.proofs.lemmas.Int.{ints}
use Rattle.std.proofs.lemmas.List.{take-append-drop}
use Rattle.std.proofs.lemmas.Option.{slice_get_read}
use Rattle.plane_terms.specs.Lists.{Every, SomeOf}
use Rattle.plane_terms.specs.Point.{Point, point_at}
use Rattle.plane_terms.specs.Segment.{Segment, IsSegment, IsBetween, OnSegment, cross}
use Rattle.plane_terms.specs.Share.{turn}
use Rattle.plane_terms.specs.Line.{holds_place}
use Rattle.plane_terms.specs.Cell.{Cell, InCells, on_segment}
use Rattle.plane_terms.proofs.ListLemmas.{every_right, SomeOf-append_left, SomeOf-append_right}
use Rattle.topology_terms.specs.Feature.{Feature, is_on_side, Side, sides}
use Rattle.topology_terms.specs.Cells.{out_of_segments}
use Rattle.number_laws.proofs.Order.{zero_unscaled}
use Rattle.cell_laws.proofs.AtPlaces.{turn_on}
use Rattle.cell_laws.proofs.Meeting.{weighted_cross, times_zero}
use Rattle.cell_laws.proofs.OnLine.{at_itself}
use Rattle.cell_laws.proofs.SegmentCells.{on_segment_points}
use Rattle.cell_laws.proofs.Weights.{weights}
use Rattle.rule_laws.proofs.Held.{low_held, high_held}
use Rattle.rule_laws.proofs.Tests.{place_from}
use Rattle.rule_laws.proofs.Uncovered.{every_flat, uncovered_points, uncovered_have_points, segment_has_point, one_cell, out_points}
use Rattle.rule_loops.specs.Blocks.{block_size, left_from, block_of}
use Rattle.topology_terms.specs.Together.{of_side}
use Rattle.rule_loops.specs.Views.{left_of_segment, IsHeldBy}
use Rattle.rule_loops.proofs.Blocked.{left_block}
use Rattle.rule_loops.proofs.More.{side_apart}
use Rattle.rule_loops.proofs.Opened.{some_at}
use Rattle.rule_loops.proofs.Rest.{drop_one}
use Rattle.rule_loops.proofs.Sharing.{no_cells}

-- ---- between two numbers that are between two others
between_both : (a b c d v : ℤ) (w : ℕ) → IsBetween (a *ℤ pos 1) (b *ℤ pos 1) c → IsBetween (a *ℤ pos 1) (b *ℤ pos 1) d
    → IsBetween (c *ℤ pos w) (d *ℤ pos w) v → IsBetween (a *ℤ pos w) (b *ℤ pos w) v
between_both a b c d v w (inl h) (inl k) o =
    inl (
      low_held a c d v w (omega (arith, ints, h.0)) (omega (arith, ints, k.0)) o,
      high_held b c d v w (omega (arith, ints, h.1)) (omega (arith, ints, k.1)) o,
    )
between_both a b c d v w (inr h) (inr k) o =
    inr (
      low_held b c d v w (omega (arith, ints, h.0)) (omega (arith, ints, k.0)) o,
      high_held a c d v w (omega (arith, ints, h.1)) (omega (arith, ints, k.1)) o,
    )
between_both a b c d v w (inl h) (inr k) o =
    inl (
      low_held a c d v w (omega (arith, ints, h.0)) (omega (arith, ints, h.0, h.1, k.0)) o,
      high_held b c d v w (omega (arith, ints, h.1)) (omega (arith, ints, k.1, h.0, h.1)) o,
    )
between_both a b c d v w (inr h) (inl k) o =
    inl (
      low_held a c d v w (omega (arith, ints, k.0, k.1, h.0)) (omega (arith, ints, k.0)) o,
      high_held b c d v w (omega (arith, ints, h.1, k.0, k.1)) (omega (arith, ints, k.1)) o,
    )

-- ---- a segment on another
held_by_ends : (s t : Segment) → IsSegment s → holds_place t s.lo ≡ true → holds_place t s.hi ≡ true → IsHeldBy s t
held_by_ends s t g a b p o =
    let lo = place_from t s.lo (point_at s.lo) (at_itself s.lo) a in
    let hi = place_from t s.hi (point_at s.hi) (at_itself s.hi) b in
    let w = weights s p g o in
    let none : w.k *ℤ cross t p ≡ pos 0 = weighted_cross t s p w ∙ nothing (w.n *ℤ turn t s.lo) (w.m *ℤ turn t s.hi)
    (times_zero w.n (turn t s.lo) (turn_on t s.lo lo)) (times_zero w.m (turn t s.hi) (turn_on t s.hi hi)) in
    record {
      straight = zero_unscaled w.k (cross t p) w.k_over none;
      across = between_both t.lo.x t.hi.x s.lo.x s.hi.x p.x p.w lo.across hi.across o.across;
      along = between_both t.lo.y t.hi.y s.lo.y s.hi.y p.y p.w lo.along hi.along o.along;
    }
  where
    nothing : (u v : ℤ) → u ≡ pos 0 → v ≡ pos 0 → u +ℤ v ≡ pos 0
    nothing u v e f = omega (arith, ints)

pub held_when : (s t : Segment) (b : Bool) → IsSegment s → holds_place t s.lo ≡ true → b ≡ holds_place t s.hi → OnTrue b (IsHeldBy s t)
held_when s t true g e h = held_by_ends s t g e (sym h)
held_when s t false g e h = tt

pub some_here : (P : Segment → Type 0) (ts : List Segment) (i : ℕ) (t : Segment) → i < length ts → t ≡ get_or ts i t → P t → SomeOf P ts
some_here P ts i t l e h = some_at P ts i t (slice_get_read ts (length ts) i t refl l e) h

pub some_in_block : (P : Segment → Type 0) (k : ℕ) (ts : List Segment) → SomeOf P (block_of k ts) → SomeOf P ts
some_in_block P k ts h =
    let m = block_size ts * k in
    let left : SomeOf P (left_from k ts) =
    subst (SomeOf P) (sym (left_block k ts)) (SomeOf-append_left P (block_of k ts) (left_from (k + 1) ts) h) in
    subst (SomeOf P) (take-append-drop m ts) (SomeOf-append_right P (take m ts) (drop m ts) left)

-- ---- what is left
none_on : (s : Segment) (ts : List Segment) (p : Point) → OnSegment s p → SomeOf (IsHeldBy s) ts → Every (λ t. ¬ (OnSegment t p)) ts → ⊥
none_on s [] p o h n = h
none_on s (t ∷ ts) p o h n = elim h [ inl i ↦ n.0 (i p o) | inr i ↦ none_on s ts p o i n.1 ]

of_that_side : (P : Feature → Type 0) (S : Side) (F : List Feature) (i : ℕ) (g : Feature) → slice_get F i ≡ Some g → is_on_side S g ≡ true
    → Every P (of_side S F) → P g
of_that_side P S F i g e t h =
    let later = drop (i + 1) F in
    let rest = every_right P (of_side S (take i F)) (of_side S (drop i F)) (subst (Every P) (side_apart S F i) h) in
    let first : of_side S (drop i F) ≡ g ∷ of_side S later = ap (of_side S) (drop_one F i g e)
    ∙ ap (λ (b : Bool). cond b (g ∷ of_side S later) (of_side S later)) t in
    (subst (Every P) first rest).0

pub none_of_held : (s : Segment) (S : Side) (F : List Feature) (i : ℕ) (g : Feature) → slice_get F i ≡ Some g → is_on_side S g ≡ true
    → IsSegment s → Every IsSegment (sides g) → SomeOf (IsHeldBy s) (sides g) → left_of_segment (of_side S F) s ≡ []
none_of_held s S F i g e t u v h =
    let outs : Feature → List (List Cell) = λ (g : Feature). out_of_segments s (sides g) in
    let gs = of_side S F in
    no_cells (left_of_segment gs s) (uncovered_have_points (on_segment s ∷ []) (flat_map outs gs) (segment_has_point s u, tt)) (λ p j.
    let y = (uncovered_points (on_segment s ∷ []) (flat_map outs gs) p).0 j in
    let o = (on_segment_points s p u).0 ((one_cell (on_segment s) p).0 y.0) in
    let out = of_that_side (λ (g : Feature). Every (λ ds. InCells ds p) (outs g)) S F i g e t
    ((every_flat (λ ds. InCells ds p) outs gs).0 y.1) in
    none_on s (sides g) p o h ((out_points s (sides g) p u v o).0 out))
