-- A frame of whole numbers, and what holds within it.
use Rattle.std.proofs.Common.{◌≡◌, ◌↔◌, ℕ, ℤ, pos, negsuc, neg_ℤ, ◌+ℤ◌, ◌*ℤ◌, ◌≤ℤ◌, ◌<ℤ◌, List, [], ◌∷◌, arith, ap, sym, subst, ◌∙◌, ◌≤◌, ◌^◌, ◌-ℤ◌, unsigned_abs, to_z, of_z, w64}
use lib.IntN.{neg_ℤ-neg_ℤ}
use Rattle.std.specs.List.{All}
use Rattle.std.proofs.lemmas.Int.{ints}
use Rattle.std.proofs.lemmas.List.Elements.{All-from_recursion, recursion_from_All}
use Rattle.plane_terms.specs.Point.{Point}
use Rattle.plane_terms.specs.HalfPlane.{HalfPlane, Holds, Says, value_at, turned}
use Rattle.plane_terms.specs.declared.op.Op.TheVariants.{Over, AtLeast}
use Rattle.number_laws.proofs.Ring.{num, neg, ◌⊕◌, ◌⊗◌, le_by, le_read}
use Rattle.number_laws.proofs.Order.{product_over, product_at_least}
use Rattle.cell_laws.proofs.Outside.{turned_value}
use Rattle.convex_cell.specs.declared.needed.Reach.{Reach}
use Rattle.convex_cell.specs.Needed.{IsInFrame, closed_of}

-- ---- the four sides
left_read : (v x y : ℤ) (w : ℕ) → pos 0 ≤ℤ (pos 1 *ℤ x +ℤ pos 0 *ℤ y +ℤ neg_ℤ v *ℤ pos w) → (v *ℤ pos w) ≤ℤ x
left_read v x y w h = le_by (num v ⊗ num (pos w)) (num x)
    (omega (arith, le_read (num (pos 0)) (num (pos 1) ⊗ num x ⊕ num (pos 0) ⊗ num y ⊕ neg (num v) ⊗ num (pos w)) h))

left_holds : (v x y : ℤ) (w : ℕ) → (v *ℤ pos w) ≤ℤ x → pos 0 ≤ℤ (pos 1 *ℤ x +ℤ pos 0 *ℤ y +ℤ neg_ℤ v *ℤ pos w)
left_holds v x y w h = le_by (num (pos 0)) (num (pos 1) ⊗ num x ⊕ num (pos 0) ⊗ num y ⊕ neg (num v) ⊗ num (pos w))
    (omega (arith, le_read (num v ⊗ num (pos w)) (num x) h))

right_read : (v x y : ℤ) (w : ℕ) → pos 0 ≤ℤ (negsuc 0 *ℤ x +ℤ pos 0 *ℤ y +ℤ v *ℤ pos w) → x ≤ℤ (v *ℤ pos w)
right_read v x y w h = le_by (num x) (num v ⊗ num (pos w))
    (omega (arith, le_read (num (pos 0)) (num (negsuc 0) ⊗ num x ⊕ num (pos 0) ⊗ num y ⊕ num v ⊗ num (pos w)) h))

right_holds : (v x y : ℤ) (w : ℕ) → x ≤ℤ (v *ℤ pos w) → pos 0 ≤ℤ (negsuc 0 *ℤ x +ℤ pos 0 *ℤ y +ℤ v *ℤ pos w)
right_holds v x y w h = le_by (num (pos 0)) (num (negsuc 0) ⊗ num x ⊕ num (pos 0) ⊗ num y ⊕ num v ⊗ num (pos w))
    (omega (arith, le_read (num x) (num v ⊗ num (pos w)) h))

below_read : (v x y : ℤ) (w : ℕ) → pos 0 ≤ℤ (pos 0 *ℤ x +ℤ pos 1 *ℤ y +ℤ neg_ℤ v *ℤ pos w) → (v *ℤ pos w) ≤ℤ y
below_read v x y w h = le_by (num v ⊗ num (pos w)) (num y)
    (omega (arith, le_read (num (pos 0)) (num (pos 0) ⊗ num x ⊕ num (pos 1) ⊗ num y ⊕ neg (num v) ⊗ num (pos w)) h))

below_holds : (v x y : ℤ) (w : ℕ) → (v *ℤ pos w) ≤ℤ y → pos 0 ≤ℤ (pos 0 *ℤ x +ℤ pos 1 *ℤ y +ℤ neg_ℤ v *ℤ pos w)
below_holds v x y w h = le_by (num (pos 0)) (num (pos 0) ⊗ num x ⊕ num (pos 1) ⊗ num y ⊕ neg (num v) ⊗ num (pos w))
    (omega (arith, le_read (num v ⊗ num (pos w)) (num y) h))

above_read : (v x y : ℤ) (w : ℕ) → pos 0 ≤ℤ (pos 0 *ℤ x +ℤ negsuc 0 *ℤ y +ℤ v *ℤ pos w) → y ≤ℤ (v *ℤ pos w)
above_read v x y w h = le_by (num y) (num v ⊗ num (pos w))
    (omega (arith, le_read (num (pos 0)) (num (pos 0) ⊗ num x ⊕ num (negsuc 0) ⊗ num y ⊕ num v ⊗ num (pos w)) h))

above_holds : (v x y : ℤ) (w : ℕ) → y ≤ℤ (v *ℤ pos w) → pos 0 ≤ℤ (pos 0 *ℤ x +ℤ negsuc 0 *ℤ y +ℤ v *ℤ pos w)
above_holds v x y w h = le_by (num (pos 0)) (num (pos 0) ⊗ num x ⊕ num (negsuc 0) ⊗ num y ⊕ num v ⊗ num (pos w))
    (omega (arith, le_read (num y) (num v ⊗ num (pos w)) h))

abbrev pub left_side : Reach → HalfPlane
left_side x = closed_of (pos 1) (pos 0) (neg_ℤ x.from)

abbrev pub right_side : Reach → HalfPlane
right_side x = closed_of (negsuc 0) (pos 0) x.to

abbrev pub lower_side : Reach → HalfPlane
lower_side y = closed_of (pos 0) (pos 1) (neg_ℤ y.from)

abbrev pub upper_side : Reach → HalfPlane
upper_side y = closed_of (pos 0) (negsuc 0) y.to

pub sides_hold : (x y : Reach) (p : Point)
    → All (λ h. Holds h p) (left_side x ∷ right_side x ∷ lower_side y ∷ upper_side y ∷ []) ↔ IsInFrame x y p
sides_hold x y p =
    let sides : List HalfPlane = left_side x ∷ right_side x ∷ lower_side y ∷ upper_side y ∷ [] in (
      λ a. let r = recursion_from_All (λ h. Holds h p) sides a in record {
        along = record { after = left_read x.from p.x p.y p.w r.0; before = right_read x.to p.x p.y p.w r.1.0 };
        up = record { after = below_read y.from p.x p.y p.w r.1.1.0; before = above_read y.to p.x p.y p.w r.1.1.1.0 };
      },
      λ i. All-from_recursion (λ h. Holds h p) sides (
        left_holds x.from p.x p.y p.w i.along.after,
        (
          right_holds x.to p.x p.y p.w
              i.along.before,
          (below_holds y.from p.x p.y p.w i.up.after, (above_holds y.to p.x p.y p.w i.up.before, tt)),
        ),
      ),
    )

-- ---- the least that a half-plane asks about
sum_upto : (x y z u v : ℤ) (w : ℕ) → (x +ℤ z) ≤ℤ (u *ℤ pos w) → (y +ℤ pos 0 *ℤ pos w) ≤ℤ (v *ℤ pos w)
    → (neg_ℤ (u +ℤ v) *ℤ pos w) ≤ℤ neg_ℤ (x +ℤ y +ℤ z)
sum_upto x y z u v w h k = le_by (neg (num u ⊕ num v) ⊗ num (pos w)) (neg (num x ⊕ num y ⊕ num z)) (omega (
  arith,
  le_read (num x ⊕ num z) (num u ⊗ num (pos w)) h,
  le_read (num y ⊕ num (pos 0) ⊗ num (pos w)) (num v ⊗ num (pos w)) k,
))

pub lowest_at : (h : HalfPlane) (p : Point) (u v : ℤ)
    → ((turned h Over).a *ℤ p.x +ℤ (turned h Over).c *ℤ pos p.w) ≤ℤ (u *ℤ pos p.w)
    → ((turned h Over).b *ℤ p.y +ℤ pos 0 *ℤ pos p.w) ≤ℤ (v *ℤ pos p.w) → (neg_ℤ (u +ℤ v) *ℤ pos p.w) ≤ℤ value_at h p
lowest_at h p u v x y =
    let g = turned h Over in
    let twice : neg_ℤ (value_at g p) ≡ value_at h p = ap neg_ℤ (turned_value h Over p) ∙ neg_ℤ-neg_ℤ (value_at h p) in
    subst (λ z. (neg_ℤ (u +ℤ v) *ℤ pos p.w) ≤ℤ z) twice (sum_upto (g.a *ℤ p.x) (g.b *ℤ p.y) (g.c *ℤ pos p.w) u v p.w x y)

pub lowest_back : (u v : ℤ) → unsigned_abs u ≤ 2 ^ 47 → unsigned_abs v ≤ 2 ^ 47
    → to_z w64 (of_z w64 (pos 0 -ℤ to_z w64 (of_z w64 (to_z w64 (of_z w64 u) +ℤ to_z w64 (of_z w64 v))))) ≡ neg_ℤ (u +ℤ v)
lowest_back u v h k =
    let i : to_z w64 (of_z w64 u) ≡ u = omega (arith, ints) in
    let j : to_z w64 (of_z w64 v) ≡ v = omega (arith, ints) in
    let l : to_z w64 (of_z w64 (u +ℤ v)) ≡ u +ℤ v = omega (arith, ints) in
    rw (i, j, l) (omega (arith, ints))

-- where the least is above 0, or at least 0, so is all
pub over_holds : (h : HalfPlane) (p : Point) (l : ℤ) → h.op ≡ Over → (l *ℤ pos p.w) ≤ℤ value_at h p → pos 0 <ℤ l → Holds h p
over_holds h p l e k n =
    let s : pos 0 <ℤ (l *ℤ pos p.w) = product_over l (pos p.w) n (omega (arith, ints, p.positive)) in
    subst (λ o. Says o (value_at h p)) (sym e) (through _ _ s k)
  where
    through : (a b : ℤ) → pos 0 <ℤ a → a ≤ℤ b → pos 0 <ℤ b
    through a b h k = omega (arith, ints)

pub at_least_holds : (h : HalfPlane) (p : Point) (l : ℤ) → h.op ≡ AtLeast → (l *ℤ pos p.w) ≤ℤ value_at h p → pos 0 ≤ℤ l → Holds h p
at_least_holds h p l e k n =
    let s : pos 0 ≤ℤ (l *ℤ pos p.w) = product_at_least l (pos p.w) n (omega (arith, ints)) in
    subst (λ o. Says o (value_at h p)) (sym e) (through _ _ s k)
  where
    through : (a b : ℤ) → pos 0 ≤ℤ a → a ≤ℤ b → pos 0 ≤ℤ b
    through a b h k = omega (arith, ints)
