-- What half-planes say on a line.
use Rattle.std.proofs.Common.{◌≡◌, ◌↔◌, ℕ, ◌*◌, ◌<◌, ◌≤◌, ◌^◌, ℤ, pos, ◌+ℤ◌, ◌-ℤ◌, ◌*ℤ◌, neg_ℤ, ◌<ℤ◌, arith, length, get_or, sym, subst, unsigned_abs, ◌∙◌}
use Rattle.std.specs.Int.{w64}
use Rattle.std.proofs.lemmas.Int.{ints}
use Rattle.std.proofs.lemmas.List.Elements.{All-from_recursion, All-get_or}
use mir.Val.{to_z, of_z}
use Rattle.plane_terms.specs.Point.{Point}
use Rattle.plane_terms.specs.HalfPlane.{HalfPlane, Holds, Says, value_at}
use Rattle.plane_terms.specs.Columns.{gap_at}
use Rattle.plane_terms.specs.Cell.{Cell, InCell}
use Rattle.plane_terms.specs.declared.op.Op.{Op}
use Rattle.plane_terms.specs.declared.op.Op.TheVariants.{Over, AtLeast, Zero}
use Rattle.cell_laws.proofs.LinePoints.{gap_is, point_on, point_on-is, scaled_gap}
use Rattle.number_laws.proofs.Ring.{num, neg, ◌⊕◌, ◌⊖◌, ◌⊗◌, same_by}
use Rattle.number_laws.proofs.Order.{product_over, product_at_least, natural}
use Rattle.convex_cell.specs.declared.direction.Direction.{Direction}
use Rattle.convex_cell.specs.Seen.{seen, cell_seen}
use Rattle.convex_cell.specs.Line.{IsLineAcross, SaysOn}
use Rattle.convex_cell.proofs.Ranges.{unsigned_abs-product}
use Rattle.convex_cell.proofs.Sums.{says_unscaled}
use Rattle.convex_cell.proofs.Views.{All-unmap}

-- ---- the law
-- a test says the same of a positive multiple
says_scaled : (o : Op) (a v : ℤ) → pos 0 <ℤ a → Says o v → Says o (a *ℤ v)
says_scaled Over a v p h = product_over a v p h
says_scaled AtLeast a v p h = product_at_least a v (omega (arith, ints)) h
says_scaled Zero a v p h = subst (λ z. a *ℤ z ≡ pos 0) (sym h) (omega (arith, ints))

-- at a point of the line a half-plane holds just where it says so on the line
pub on_line : (l h : HalfPlane) (q : Point) → IsLineAcross l → value_at l q ≡ pos 0 → Holds h q ↔ SaysOn l h q.x q.w
on_line l h q r on =
    let e : l.b *ℤ value_at h q ≡ gap_at h l q.x (pos q.w) = gap_is h l q ∙ none h.b (value_at l q) (gap_at h l q.x (pos q.w)) on in (
      λ k. subst (Says h.op) e (says_scaled h.op l.b (value_at h q) r.across k),
      λ k. says_unscaled h.op l.b (value_at h q) r.across (subst (Says h.op) (sym e) k),
    )
  where
    none : (b v g : ℤ) → v ≡ pos 0 → b *ℤ v +ℤ g ≡ g
    none b v g h = rw h (omega (arith, ints))

pub says_on : (l h : HalfPlane) (q : Point) → IsLineAcross l → Holds l q → Holds h q → SaysOn l h q.x q.w
says_on l h q r on k = (on_line l h q r (subst (λ o. Says o (value_at l q)) r.line on)).0 k

pub record OnLine (l : HalfPlane) (t : ℤ) (w : ℕ) : Type 0 where
  pub at : Point
  pub first : at.x *ℤ pos w ≡ t *ℤ pos at.w
  pub holds : (h : HalfPlane) → SaysOn l h t w → Holds h at

pub over_line : (l : HalfPlane) (t : ℤ) (w : ℕ) → 0 < w → IsLineAcross l → OnLine l t w
unfolding point_on
over_line l t w p r =
    let b = natural l.b r.across in
    let q = point_on l t w b.0 p b.1 in
    let on = point_on-is l t w b.0 p b.1 b.2 in
    record {
      at = q;
      first = same_by (num t ⊗ num (pos b.0) ⊗ num (pos w)) (num t ⊗ num (pos (w * b.0))) (omega arith);
      holds = λ h s. (on_line l h q r on).1 (subst (Says h.op)
          (sym (scaled_gap (h.a *ℤ l.b -ℤ l.a *ℤ h.b) (h.c *ℤ l.b -ℤ l.c *ℤ h.b) t w b.0))
          (says_scaled h.op (pos b.0) (gap_at h l t (pos w)) (subst (λ z. pos 0 <ℤ z) b.2 r.across) s));
    }

-- ---- the code
-- what one of the half-planes says, all say
pub from_one : (d : Direction) (hs : Cell) (i : ℕ) (h l : HalfPlane) → i < length hs → h ≡ get_or hs i h
    → ((q : Point) → Holds (seen d h) q → Holds l q) → (q : Point) → InCell (cell_seen d hs) q → Holds l q
from_one d hs i h l lt e on q m =
    let a = All-unmap (λ g. Holds g q) (seen d) hs (All-from_recursion (λ g. Holds g q) (cell_seen d hs) m) in
    on q (subst (λ g. Holds (seen d g) q) (sym e) (All-get_or (λ g. Holds (seen d g) q) hs i h lt a))

-- the difference of two products, as the code adds them
pub difference_read : (r a b c d a1 b1 c1 d1 : ℤ) → unsigned_abs a ≤ 2 ^ 46 → unsigned_abs b ≤ 2 ^ 23 → unsigned_abs c ≤ 2 ^ 46
    → unsigned_abs d ≤ 2 ^ 23 → a1 ≡ a → b1 ≡ b → c1 ≡ c → d1 ≡ d
    → r ≡ to_z w64 (of_z w64 a1) *ℤ to_z w64 (of_z w64 b1)
    +ℤ to_z w64 (of_z w64 (pos 0 -ℤ to_z w64 (of_z w64 c1))) *ℤ to_z w64 (of_z w64 d1)
    → r ≡ a *ℤ b -ℤ c *ℤ d
difference_read r a b c d a1 b1 c1 d1 f g h i j k l m e =
    let x : to_z w64 (of_z w64 a1) ≡ a = omega (arith, ints) in
    let y : to_z w64 (of_z w64 b1) ≡ b = omega (arith, ints) in
    let z : to_z w64 (of_z w64 (pos 0 -ℤ to_z w64 (of_z w64 c1))) ≡ neg_ℤ c = omega (arith, ints) in
    let w : to_z w64 (of_z w64 d1) ≡ d = omega (arith, ints) in
    let f : r ≡ a *ℤ b +ℤ neg_ℤ c *ℤ d = rw (x, y, z, w) at e in
    f ∙ same_by (num a ⊗ num b ⊕ neg (num c) ⊗ num d) (num a ⊗ num b ⊖ num c ⊗ num d) (omega arith)

pub difference_fits : (r a b c d : ℤ) (m n : ℕ) → unsigned_abs a ≤ m → unsigned_abs b ≤ n → unsigned_abs c ≤ m → unsigned_abs d ≤ n
    → r ≡ a *ℤ b -ℤ c *ℤ d → unsigned_abs r ≤ 2 * (m * n)
difference_fits r a b c d m n h g i j e =
    let p = unsigned_abs-product a b m n h g in
    let q = unsigned_abs-product c d m n i j in
    rw e (small (a *ℤ b) (c *ℤ d) (m * n) p q)
  where
    small : (p q : ℤ) (k : ℕ) → unsigned_abs p ≤ k → unsigned_abs q ≤ k → unsigned_abs (p -ℤ q) ≤ 2 * k
    small p q k h g = omega (arith, ints)

-- a cut by the numbers of a half-plane on a line
pub said_on : (l h : HalfPlane) (o : Op) (m k m1 k1 t : ℤ) (w : ℕ) (R N : Type 0) → o ≡ h.op → m1 ≡ m → k1 ≡ k
    → m ≡ h.a *ℤ l.b -ℤ l.a *ℤ h.b → k ≡ h.c *ℤ l.b -ℤ l.c *ℤ h.b → (N ↔ (R × Says o (m1 *ℤ t +ℤ k1 *ℤ pos w)))
    → N ↔ (R × SaysOn l h t w)
said_on l h o m k m1 k1 t w R N e f g i j n = rw (e, f, g, i, j) at n
