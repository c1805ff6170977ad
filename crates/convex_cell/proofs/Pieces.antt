-- A list that begins with another, and a piece of a cell.
use Rattle.std.proofs.Common.{◌≡◌, ◌↔◌, ◌≤◌, ◌<◌, ◌∙◌, ℕ, ℤ, pos, neg_ℤ, ◌*ℤ◌, ◌≤ℤ◌, ◌<ℤ◌, List, [], ◌∷◌, ◌++◌, false, arith, refl, ap, sym, subst, inl, inr, length, take, drop, to_z, of_z, w32, w64}
use Rattle.std.specs.Int.{int_max, int_min}
use Rattle.std.specs.List.{All, AllZip}
use Rattle.std.proofs.lemmas.Slice.Zip.{all_zipped_more}
use Rattle.std.proofs.lemmas.Int.{ints, int_max_is, int_min_is}
use Rattle.std.proofs.lemmas.List.{take-append-drop, take-append-le, length-take, length-append}
use Rattle.std.proofs.lemmas.List.Elements.{All-from_recursion, recursion_from_All}
use Rattle.plane_terms.specs.Point.{Point, InReach}
use Rattle.plane_terms.specs.HalfPlane.{HalfPlane, Holds}
use Rattle.plane_terms.specs.Cell.{Cell, InCell, HasPoint, meet_of}
use Rattle.number_laws.proofs.Order.{cases_order_ℤ}
use Rattle.cell_laws.proofs.Lists.{all_append}
use Rattle.cell_laws.proofs.Meets.{meet_points}
use Rattle.convex_cell.specs.declared.span.Span.{Span}
use Rattle.convex_cell.specs.declared.bounds.Bounds.{Bounds}
use Rattle.convex_cell.specs.Span.{After, Before, IsSpan, InSpan, InBounds, IsBoundsOf, IsBounded}
use Rattle.convex_cell.specs.Needed.{SameCells}
use Rattle.convex_cell.proofs.Both.{all_of_both}
use Rattle.convex_cell.proofs.Steps.{after_at, before_from_after, scaled_neg, in_bounds}

pub begins_more : {A : Type 0} (old mid new : List A) → take (length old) mid ≡ old → take (length mid) new ≡ mid → take (length old) new ≡ old
begins_more old mid new h k =
    let within : length old ≤ length mid = omega (arith, length-take (length old) mid, ap length h) in
    let parts : new ≡ mid ++ drop (length mid) new = sym (take-append-drop (length mid) new) ∙ ap (λ xs. xs ++ drop (length mid) new) k in
    ap (take (length old)) parts ∙ (take-append-le (length old) mid (drop (length mid) new) within ∙ h)

-- ---- what lies within two spans
abbrev pub span_from : ℤ → ℤ → Span
span_from f t = record { from = f; to = t }

pub after_both : (j k z : ℤ) (w : ℕ) → After j z w → After k z w → After (int_max j k) z w
after_both j k z w a b = elim (cases_order_ℤ j k) [
  | inl h ↦ subst (λ m. After m z w) (sym (greater j k h)) b
  | inr h ↦ subst (λ m. After m z w) (sym (not_less j k h)) a
]
  where
    greater : (j k : ℤ) → j <ℤ k → int_max j k ≡ k
    greater j k h = omega (arith, ints, int_max_is j k)

    not_less : (j k : ℤ) → k ≤ℤ j → int_max j k ≡ j
    not_less j k h = omega (arith, ints, int_max_is j k)

pub before_both : (j k z : ℤ) (w : ℕ) → Before j z w → Before k z w → Before (int_min j k) z w
before_both j k z w a b = elim (cases_order_ℤ j k) [
  | inl h ↦ subst (λ m. Before m z w) (sym (less j k h)) a
  | inr h ↦ subst (λ m. Before m z w) (sym (not_greater j k h)) b
]
  where
    less : (j k : ℤ) → j <ℤ k → int_min j k ≡ j
    less j k h = omega (arith, ints, int_min_is j k)

    not_greater : (j k : ℤ) → k ≤ℤ j → int_min j k ≡ k
    not_greater j k h = omega (arith, ints, int_min_is j k)

pub within_both : (s u : Span) (z : ℤ) (w : ℕ) → InSpan s z w → InSpan u z w
    → InSpan (span_from (int_max s.from u.from) (int_min s.to u.to)) z w
within_both s u z w a b = record {
  after = after_both s.from u.from z w a.after b.after;
  before = before_both s.to u.to z w a.before b.before;
}

-- ---- from one whole number to another
pub before_at : (v z : ℤ) (w : ℕ) → 0 < w → z ≤ℤ (v *ℤ pos w) → Before (pos 2 *ℤ v) z w
before_at v z w n h = subst (λ k. Before k z w) (twice v) (before_from_after (pos 2 *ℤ neg_ℤ v) z w (after_at (neg_ℤ v) (neg_ℤ z) w n
    (rw (scaled_neg v w) (flip z (v *ℤ pos w) h))))
  where
    twice : (v : ℤ) → neg_ℤ (pos 2 *ℤ neg_ℤ v) ≡ pos 2 *ℤ v
    twice v = omega (arith, ints)

    flip : (z x : ℤ) → z ≤ℤ x → neg_ℤ x ≤ℤ neg_ℤ z
    flip z x h = omega (arith, ints)

-- ---- two spans, as the code has what they have in common
same_ends : (f t g u : ℤ) → f ≡ g → t ≡ u → span_from f t ≡ span_from g u
same_ends f t g u i j = rw (i, j) refl

pub common_code : (s u : Span) (f t : ℤ) → IsSpan s → IsSpan u → f ≡ int_max (to_z w64 (of_z w64 s.from)) (to_z w64 (of_z w64 u.from))
    → t ≡ int_min (to_z w64 (of_z w64 s.to)) (to_z w64 (of_z w64 u.to))
    → span_from (to_z w64 (of_z w64 f)) (to_z w64 (of_z w64 t)) ≡ span_from (int_max s.from u.from) (int_min s.to u.to)
common_code s u f t h k e g = same_ends _ _ _ _ (omega (arith, ints, int_max_is, e, h, k)) (omega (arith, ints, int_min_is, g, h, k))

pub common_is_span : (s u : Span) → IsSpan s → IsSpan u → IsSpan (span_from (int_max s.from u.from) (int_min s.to u.to))
common_is_span s u h k = record {
  from_low = omega (arith, ints, int_max_is s.from u.from, h, k);
  from_high = omega (arith, ints, int_max_is s.from u.from, h, k);
  to_low = omega (arith, ints, int_min_is s.to u.to, h, k);
  to_high = omega (arith, ints, int_min_is s.to u.to, h, k);
}

pub whole_code : (v f : ℤ) → InReach v → f ≡ to_z w32 (of_z w32 v)
    → to_z w64 (of_z w64 (pos 2 *ℤ to_z w64 (of_z w64 f))) ≡ pos 2 *ℤ v
whole_code v f h e = omega (arith, ints)

-- ---- a cell narrowed by another
pub held_in : (c : Cell) (p : Point) → All (λ h. Holds h p) c ↔ InCell c p
held_in c p = (recursion_from_All (λ h. Holds h p) c, All-from_recursion (λ h. Holds h p) c)

pub in_same : (c d : Cell) → SameCells c d → (p : Point) → InCell c p ↔ InCell d p
in_same c d s p = (
  λ m. (held_in d p).0 ((s p).0 ((held_in c p).1 m)),
  λ m. (held_in c p).0 ((s p).1 ((held_in d p).1 m)),
)

abbrev pub HoldBoth : Cell → Cell → Cell → Type 0
HoldBoth c d e = (p : Point) → All (λ h. Holds h p) e ↔ (All (λ h. Holds h p) c × All (λ h. Holds h p) d)

pub in_both : (c d e : Cell) → HoldBoth c d e → (p : Point) → InCell e p ↔ (InCell c p × InCell d p)
in_both c d e h p = (
  λ m. let a = (h p).0 ((held_in e p).1 m) in ((held_in c p).0 a.0, (held_in d p).0 a.1),
  λ m. (held_in e p).0 ((h p).1 ((held_in c p).1 m.0, (held_in d p).1 m.1)),
)

-- half-planes that hold within bounds of the cell
pub in_bounds_held : (b : Bounds) (c d : Cell) → IsBoundsOf b c → ((p : Point) → InBounds b p → All (λ h. Holds h p) d) → (p : Point)
    → InCell c p ↔ (InCell c p × InCell d p)
in_bounds_held b c d i h p = (λ m. (m, (held_in d p).0 (h p (in_bounds b c i p m))), λ m. m.0)

pub bounds_narrowed : (b o r : Bounds) (c d e : Cell) → HoldBoth c d e → IsBoundsOf b c → IsBoundsOf o d → IsSpan r.x → IsSpan r.y
    → ((p : Point) → InBounds b p → InBounds o p → InBounds r p) → IsBoundsOf r e
bounds_narrowed b o r c d e h i j x y f = record { x_fits = x; y_fits = y; x = λ p m. (within p m).along; y = λ p m. (within p m).up }
  where
    within : (p : Point) → InCell e p → InBounds r p
    within p m =
        let a = (in_both c d e h p).0 m in
        f p (in_bounds b c i p a.0) (in_bounds o d j p a.1)

pub bounds_same : (b : Bounds) (c d : Cell) → SameCells d c → IsBoundsOf b c → IsBoundsOf b d
bounds_same b c d s i = record {
  x_fits = i.x_fits;
  y_fits = i.y_fits;
  x = λ p m. i.x p ((in_same d c s p).0 m);
  y = λ p m. i.y p ((in_same d c s p).0 m);
}

-- bounds of what is in both lists
pub bounds_of_both : (b o r : Bounds) (c d : Cell) → IsBoundsOf b c → IsBoundsOf o d → IsSpan r.x → IsSpan r.y
    → ((p : Point) → InBounds b p → InBounds o p → InBounds r p) → IsBoundsOf r (c ++ d)
bounds_of_both b o r c d = bounds_narrowed b o r c d (c ++ d) (λ p. all_of_both (λ h. Holds h p) c d)

pub bounds_of_same : (b : Bounds) (c n d : Cell) → SameCells n c → IsBoundsOf b (c ++ d) → IsBoundsOf b (n ++ d)
bounds_of_same b c n d s = bounds_same b (c ++ d) (n ++ d) (λ p.
    let P : HalfPlane → Type 0 = λ h. Holds h p in
    let e = all_of_both P n d in
    let f = all_of_both P c d in
    (λ k. let a = e.0 k in f.1 ((s p).0 a.0, a.1), λ k. let a = f.0 k in e.1 ((s p).1 a.0, a.1)))

pub both_held : (c d : Cell) (p : Point) → InCell c p → InCell d p → HasPoint (c ++ d)
both_held c d p m n = (p, (all_append (λ h. Holds h p) c d).1 (m, n))

pub some_left : (c d e : Cell) → HoldBoth c d e → HasPoint (c ++ d) → HasPoint e
some_left c d e h m = (m.0, (in_both c d e h m.0).1 ((all_append (λ g. Holds g m.0) c d).0 m.1))

-- ---- bounds of what is carved
pub bounds_met : (b o r : Bounds) (c d e : Cell) → e ≡ meet_of c d → IsBoundsOf b c → IsBoundsOf o d → IsSpan r.x → IsSpan r.y
    → ((p : Point) → InBounds b p → InBounds o p → InBounds r p) → IsBoundsOf r e
bounds_met b o r c d e is i j x y f = record { x_fits = x; y_fits = y; x = λ p m. (within p m).along; y = λ p m. (within p m).up }
  where
    within : (p : Point) → InCell e p → InBounds r p
    within p m =
        let a = (meet_points c d p).0 (subst (λ (hs : Cell). InCell hs p) is m) in
        f p (in_bounds b c i p a.0) (in_bounds o d j p a.1)

pub bounded_more : (bs ds : List Bounds) (cs es : List Cell) (b : Bounds) (c : Cell) → AllZip IsBoundsOf bs cs → length bs ≡ length cs
    → IsBoundsOf b c → ds ≡ bs ++ b ∷ [] → es ≡ cs ++ c ∷ [] → IsBounded ds es false
bounded_more bs ds cs es b c z s i j k = record {
  bounds = rw (j, k) (all_zipped_more IsBoundsOf bs cs b c z i);
  same = rw (j, k) (omega (arith, s, length-append bs (b ∷ []), length-append cs (c ∷ [])));
  rising = tt;
}
