-- The whole numbers round a range.
use Rattle.std.proofs.Common.{◌≡◌, ℕ, ◌/◌, ◌^◌, ◌∙◌, ◌<◌, [], ◌∷◌, ℤ, pos, negsuc, ◌+ℤ◌, ◌-ℤ◌, ◌*ℤ◌, neg_ℤ, ◌≤ℤ◌, ◌<ℤ◌, ◌≤◌, Bool, true, false, unsigned_abs, arith, sym, subst, Option, Some, None, IfSome}
use Rattle.std.specs.Int.{int_div_euclid, w128}
use Rattle.std.specs.Prelude.{FitsSigned}
use mir.Val.{to_z, of_z}
use lib.Signed.{mag}
use Rattle.std.proofs.lemmas.Int.{ints, by_lt_z}
use Rattle.plane_terms.specs.Point.{Point}
use Rattle.plane_terms.specs.Cell.{Cell, InCell, HasPoint}
use Rattle.plane_terms.specs.Decide.{Bound}
use Rattle.number_laws.proofs.Ring.{num, neg, ◌⊕◌, ◌⊖◌, ◌⊗◌, le_by, lt_by, le_read, lt_read, same_read}
use Rattle.number_laws.proofs.Order.{product_at_least, scaled_le, lt_scaled}
use Rattle.cell_laws.specs.Bounds.{Allows, either}
use Rattle.cell_laws.proofs.Lines.{Above-weak, Above-unscaled, Above-any, compatible_at}
use Rattle.cell_laws.proofs.LineLists.{IsRising, AllowedBy, AreCompatible, helly}
use Rattle.convex_cell.specs.declared.range.Limit.{Limit}
use Rattle.convex_cell.specs.declared.range.Range.{Range}
use Rattle.convex_cell.specs.Range.{InRange, IsRange, IsLimit, AllowsLimit}
use Rattle.convex_cell.proofs.Ranges.{limit_at}

-- the quotient that rounds down
pub floor_below : (k : ℤ) (m : ℕ) → 0 < m → (int_div_euclid k (pos m) *ℤ pos m) ≤ℤ k
floor_below (pos k) m p = omega (arith, ints)
floor_below (negsuc k) m p = le_by (num (negsuc (k / m)) ⊗ num (pos m)) (num (negsuc k)) (omega arith)

pub floor_above : (k : ℤ) (m : ℕ) → 0 < m → k <ℤ ((int_div_euclid k (pos m) +ℤ pos 1) *ℤ pos m)
floor_above (pos k) m p = lt_by (num (pos k)) ((num (pos (k / m)) ⊕ num (pos 1)) ⊗ num (pos m)) (omega arith)
floor_above (negsuc k) m p = lt_by (num (negsuc k)) ((num (negsuc (k / m)) ⊕ num (pos 1)) ⊗ num (pos m)) (omega arith)

-- a bound from below, rounded down, holds
pub rounded_holds : (m k g t : ℤ) (s : Bool) (w : ℕ) → pos 0 <ℤ m → (g *ℤ m) ≤ℤ neg_ℤ k → Allows m k s t w → (g *ℤ pos w) ≤ℤ t
rounded_holds m k g t s w p h a =
    let b : pos 0 ≤ℤ ((neg_ℤ k -ℤ g *ℤ m) *ℤ pos w) = product_at_least _ (pos w) (omega (arith, ints)) (omega (arith, ints)) in
    let c : pos 0 ≤ℤ (m *ℤ t +ℤ k *ℤ pos w) = Above-weak s _ a in
    let d : pos 0 ≤ℤ (m *ℤ (t -ℤ g *ℤ pos w)) = le_by (num (pos 0)) (num m ⊗ (num t ⊖ num g ⊗ num (pos w)))
    (omega (
      arith,
      le_read (num (pos 0)) ((neg (num k) ⊖ num g ⊗ num m) ⊗ num (pos w)) b,
      le_read (num (pos 0))
          (num m ⊗ num t ⊕ num k ⊗ num (pos w)) c,
    )) in
    apart t (g *ℤ pos w) (Above-unscaled false m _ p d)
  where
    apart : (a b : ℤ) → pos 0 ≤ℤ (a -ℤ b) → b ≤ℤ a
    apart a b h = omega (arith, ints)

abbrev line : Limit → Bound
line l = record { m = l.m; k = l.k; strict = l.strict }

-- below g: t / w < g
abbrev under : ℤ → Bound
under g = record { m = pos 1; k = g; strict = true }

is_under : (g t : ℤ) (w : ℕ) → AllowedBy (neg_ℤ t) w (under g) → t <ℤ (g *ℤ pos w)
is_under g t w h =
    lt_by (num t) (num g ⊗ num (pos w)) (omega (arith, lt_read (num (pos 0)) (num (pos 1) ⊗ neg (num t) ⊕ num g ⊗ num (pos w)) h))

-- a number of the range below g, where the bound from below is below g
pub number_under : (low : Limit) (high : Option Limit) (g : ℤ) → IsLimit low → IfSome high IsLimit
    → IfSome high (λ u. AreCompatible (line low) (line u)) → neg_ℤ low.k <ℤ (g *ℤ low.m)
    → (t : ℤ) × (w : ℕ) × (0 < w) × AllowsLimit t w low × IfSome high (AllowsLimit (neg_ℤ t) w) × (t <ℤ (g *ℤ pos w))
number_under low None g v u c h =
    let r : IsRising (line low) = record { positive = v.rising } in
    let q = helly (line low ∷ []) (under g ∷ [])
    ((record { rising = r; each = (record { rising = record { positive = omega (arith, ints) }; with = meets low g h }, tt) }, tt))
    ((record { positive = omega (arith, ints) }, tt)) in
    (q.t, q.w, q.positive, q.below.0, tt, is_under g q.t q.w q.above.0)
  where
    meets : (low : Limit) (g : ℤ) → neg_ℤ low.k <ℤ (g *ℤ low.m) → AreCompatible (line low) (under g)
    meets low g h = Above-any (either low.strict true) _ (lt_by (num (pos 0)) (num low.k ⊗ num (pos 1) ⊕ num g ⊗ num low.m)
        (omega (arith, lt_read (neg (num low.k)) (num g ⊗ num low.m) h)))
number_under low (Some u) g v uv c h =
    let r : IsRising (line low) = record { positive = v.rising } in
    let s : IsRising (line u) = record { positive = uv.rising } in
    let o : IsRising (under g) = record { positive = omega (arith, ints) } in
    let q = helly (line low ∷ []) (line u ∷ under g ∷ []) ((
      record {
        rising = r;
        each =
            (record { rising = s; with = c }, (record { rising = o; with = meets low g h }, tt));
      },
      tt,
    )) ((s, (o, tt))) in
    (q.t, q.w, q.positive, q.below.0, q.above.0, is_under g q.t q.w q.above.1.0)
  where
    meets : (low : Limit) (g : ℤ) → neg_ℤ low.k <ℤ (g *ℤ low.m) → AreCompatible (line low) (under g)
    meets low g h = Above-any (either low.strict true) _ (lt_by (num (pos 0)) (num low.k ⊗ num (pos 1) ⊕ num g ⊗ num low.m)
        (omega (arith, lt_read (neg (num low.k)) (num g ⊗ num low.m) h)))

pub floor_at : (k m : ℤ) → pos 0 <ℤ m → ((int_div_euclid k m *ℤ m) ≤ℤ k) × (k <ℤ ((int_div_euclid k m +ℤ pos 1) *ℤ m))
floor_at k (pos m) p = (floor_below k m (omega (arith, ints)), floor_above k m (omega (arith, ints)))
floor_at k (negsuc m) p = absurd (omega (arith, ints))

floor_read : (k m r : ℤ) → FitsSigned w128 k → FitsSigned w128 m → mag r < 2 ^ 127
    → r ≡ int_div_euclid (to_z w128 (of_z w128 k)) (to_z w128 (of_z w128 m)) → to_z w128 (of_z w128 r) ≡ int_div_euclid k m
floor_read k m r f g h e =
    let i : to_z w128 (of_z w128 k) ≡ k = omega (arith, ints) in
    let j : to_z w128 (of_z w128 m) ≡ m = omega (arith, ints) in
    let l : to_z w128 (of_z w128 r) ≡ r = omega (arith, ints) in
    l ∙ (rw (i, j) at e)

pub floor_code_below : (k m r : ℤ) → FitsSigned w128 k → FitsSigned w128 m → mag r < 2 ^ 127 → pos 0 <ℤ m
    → r ≡ int_div_euclid (to_z w128 (of_z w128 k)) (to_z w128 (of_z w128 m)) → (to_z w128 (of_z w128 r) *ℤ m) ≤ℤ k
floor_code_below k m r f g h p e = rw (floor_read k m r f g h e) (floor_at k m p).0

pub floor_code_above : (k m r : ℤ) → FitsSigned w128 k → FitsSigned w128 m → mag r < 2 ^ 127 → pos 0 <ℤ m
    → r ≡ int_div_euclid (to_z w128 (of_z w128 k)) (to_z w128 (of_z w128 m)) → k <ℤ ((to_z w128 (of_z w128 r) +ℤ pos 1) *ℤ m)
floor_code_above k m r f g h p e = rw (floor_read k m r f g h e) (floor_at k m p).1

-- the numbers of r are those that f takes at the points of c
pub record IsRangeOf (f : Point → ℤ) (c : Cell) (r : Range) : Type 0 where
  pub within : (p : Point) → InCell c p → InRange r (f p) p.w
  pub taken : (t : ℤ) → (w : ℕ) → 0 < w → InRange r t w → (p : Point) × InCell c p × (f p *ℤ pos w ≡ t *ℤ pos p.w)

meets_high : (o : Option Limit) (low : Limit) (t : ℤ) (w : ℕ) → 0 < w → IsLimit low → IfSome o IsLimit → AllowsLimit t w low
    → IfSome o (AllowsLimit (neg_ℤ t) w) → IfSome o (λ u. AreCompatible (line low) (line u))
meets_high None low t w p v u a b = tt
meets_high (Some h) low t w p v u a b = compatible_at low.m low.k h.m h.k low.strict h.strict t w p v.rising u.rising a b

at_some : (P : Limit → Type 0) (o : Option Limit) (l : Limit) → o ≡ Some l → P l → IfSome o P
at_some P o l e h = subst (λ (x : Option Limit). IfSome x P) (sym e) h

-- no number of the range is below g, where f is nowhere
none_under : (f : Point → ℤ) (c : Cell) (r : Range) → IsRangeOf f c r → (g : ℤ) → ((p : Point) → InCell c p → (g *ℤ pos p.w) ≤ℤ f p)
    → (t : ℤ) (w : ℕ) → 0 < w → InRange r t w → ¬ (t <ℤ (g *ℤ pos w))
none_under f c r of g all t w n i less =
    let p = of.taken t w n i in
    clash t g (f p.0) w p.0.w (lt_scaled t (g *ℤ pos w) p.0.w p.0.positive less)
    (scaled_le (g *ℤ pos p.0.w) (f p.0) w (all p.0 p.1)) p.2
  where
    clash : (t g x : ℤ) (w d : ℕ) → (t *ℤ pos d) <ℤ ((g *ℤ pos w) *ℤ pos d) → ((g *ℤ pos d) *ℤ pos w) ≤ℤ (x *ℤ pos w)
        → x *ℤ pos w ≡ t *ℤ pos d → ⊥
    clash t g x w d h k e = omega (
      arith,
      lt_read (num t ⊗ num (pos d)) (num g ⊗ num (pos w) ⊗ num (pos d)) h,
      le_read (num g ⊗ num (pos d) ⊗ num (pos w)) (num x ⊗ num (pos w)) k,
      same_read (num x ⊗ num (pos w)) (num t ⊗ num (pos d)) e,
    )

-- no whole number above the rounded bound is below f at all points of the cell
pub greatest_from : (f : Point → ℤ) (c : Cell) (r : Range) → IsRangeOf f c r → IsRange r → HasPoint c → (low : Limit) → r.low ≡ Some low
    → (q : ℤ) → neg_ℤ low.k <ℤ ((q +ℤ pos 1) *ℤ low.m) → (g : ℤ) → ((p : Point) → InCell c p → (g *ℤ pos p.w) ≤ℤ f p) → g ≤ℤ q
greatest_from f c r of v some low e q above g all =
    by_lt_z q g (λ less.
    let z = some.0 in
    let i = of.within z some.1 in
    let l = limit_at IsLimit r.low low e v.low in
    let h = meets_high r.high low (f z) z.w z.positive l v.high (limit_at (AllowsLimit (f z) z.w) r.low low e i.low) i.high in
    let n = number_under low r.high g l v.high h (raised low.k low.m q g l.rising less above) in
    let in_range : InRange r n.0 n.1 = record { some = i.some; low = at_some (AllowsLimit n.0 n.1) r.low low e n.3; high = n.4 } in
    absurd (none_under f c r of g all n.0 n.1 n.2 in_range n.5)) (λ le. le)
  where
    raised : (k m q g : ℤ) → pos 0 <ℤ m → q <ℤ g → neg_ℤ k <ℤ ((q +ℤ pos 1) *ℤ m) → neg_ℤ k <ℤ (g *ℤ m)
    raised k m q g p less h =
        let d = product_at_least (g -ℤ (q +ℤ pos 1)) m (omega (arith, ints)) (omega (arith, ints)) in
        lt_by (neg (num k)) (num g ⊗ num m) (omega (
          arith,
          lt_read (neg (num k)) ((num q ⊕ num (pos 1)) ⊗ num m) h,
          le_read (num (pos 0))
              ((num g ⊖ (num q ⊕ num (pos 1))) ⊗ num m) d,
        ))

-- ---- where f is bounded from below, there is a low limit
number_below : (high : Option Limit) (g : ℤ) → IfSome high IsLimit → (t : ℤ) × (w : ℕ) × (0 < w) × IfSome high (AllowsLimit (neg_ℤ t) w)
    × (t <ℤ (g *ℤ pos w))
number_below None g v =
    let q = helly [] (under g ∷ []) tt ((record { positive = omega (arith, ints) }, tt)) in
    (q.t, q.w, q.positive, tt, is_under g q.t q.w q.above.0)
number_below (Some u) g v =
    let s : IsRising (line u) = record { positive = v.rising } in
    let q = helly [] (line u ∷ under g ∷ []) tt ((s, (record { positive = omega (arith, ints) }, tt))) in
    (q.t, q.w, q.positive, q.above.0, is_under g q.t q.w q.above.1.0)

pub low_known : (f : Point → ℤ) (c : Cell) (r : Range) → IsRangeOf f c r → IsRange r → HasPoint c → (g : ℤ)
    → ((p : Point) → InCell c p → (g *ℤ pos p.w) ≤ℤ f p) → ¬ (r.low ≡ None)
low_known f c r of v some g all e =
    let n = number_below r.high g v.high in
    none_under f c r of g all n.0 n.1 n.2 (record {
      some = (of.within some.0 some.1).some;
      low = at_none (AllowsLimit n.0 n.1) r.low e;
      high = n.3;
    }) n.4
  where
    at_none : (P : Limit → Type 0) (o : Option Limit) → o ≡ None → IfSome o P
    at_none P o e = subst (λ (x : Option Limit). IfSome x P) (sym e) tt

-- ---- as the code has them
pub whole_back : (q : ℤ) → mag q < 2 ^ 127 → to_z w128 (of_z w128 q) ≡ q
whole_back q h = omega (arith, ints)

limits_back : (m k : ℤ) → unsigned_abs m ≤ 2 ^ 47 → unsigned_abs k ≤ 2 ^ 70 → (to_z w128 (of_z w128 m) ≡ m)
    × (to_z w128 (of_z w128 (pos 0 -ℤ to_z w128 (of_z w128 k))) ≡ neg_ℤ k)
limits_back m k h g = (omega (arith, ints), omega (arith, ints))

pub read_below : (q m k : ℤ) → unsigned_abs m ≤ 2 ^ 47 → unsigned_abs k ≤ 2 ^ 70
    → (q *ℤ to_z w128 (of_z w128 m)) ≤ℤ to_z w128 (of_z w128 (pos 0 -ℤ to_z w128 (of_z w128 k))) → (q *ℤ m) ≤ℤ neg_ℤ k
read_below q m k h g a = let e = limits_back m k h g in rw (e.0, e.1) at a

pub read_above : (q m k : ℤ) → unsigned_abs m ≤ 2 ^ 47 → unsigned_abs k ≤ 2 ^ 70
    → to_z w128 (of_z w128 (pos 0 -ℤ to_z w128 (of_z w128 k))) <ℤ ((q +ℤ pos 1) *ℤ to_z w128 (of_z w128 m)) → neg_ℤ k <ℤ ((q +ℤ pos 1) *ℤ m)
read_above q m k h g a = let e = limits_back m k h g in rw (e.0, e.1) at a
