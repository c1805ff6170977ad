-- Heights on an upright line: where a half-plane holds nowhere, and a slot with a stretch that it does not reach.
use Rattle.std.proofs.Common.{◌≡◌, ◌≤◌, ◌^◌, ℤ, pos, ◌+ℤ◌, ◌-ℤ◌, ◌*ℤ◌, neg_ℤ, ◌≤ℤ◌, ◌<ℤ◌, arith, sym, subst, unsigned_abs, true}
use Rattle.std.proofs.Common.{FitsSigned, to_z, of_z, w64, int_le}
use Rattle.std.proofs.lemmas.Int.{ints}
use Rattle.plane_terms.specs.Point.{Point}
use Rattle.plane_terms.specs.HalfPlane.{HalfPlane, Holds, Says, value_at, x_is, y_over, y_under}
use Rattle.plane_terms.specs.declared.op.Op.{Op}
use Rattle.plane_terms.specs.declared.op.Op.TheVariants.{Over, AtLeast, Zero}
use Rattle.number_laws.proofs.Ring.{num, neg, ◌⊕◌, ◌⊖◌, ◌⊗◌, same_by}
use Rattle.number_laws.proofs.Order.{turned_at_least, product_over, product_at_least}
use Rattle.cell_laws.proofs.GridLines.{x_is_holds, y_over_holds, y_under_holds}

less : (v u t : ℤ) → v ≡ neg_ℤ u -ℤ t → pos 0 <ℤ u → pos 0 ≤ℤ t → v <ℤ pos 0
less v u t e f g = omega (arith, ints)

nowhere : (o : Op) (v : ℤ) → v <ℤ pos 0 → ¬ (Says o v)
nowhere Over v h s = omega (arith, ints)
nowhere AtLeast v h s = omega (arith, ints)
nowhere Zero v h s = omega (arith, ints)

falls : (a b c x y py w : ℤ) → a *ℤ (x *ℤ w) +ℤ b *ℤ py +ℤ c *ℤ w ≡ neg_ℤ (b *ℤ (y *ℤ w -ℤ py)) -ℤ (neg_ℤ (a *ℤ x +ℤ b *ℤ y +ℤ c) *ℤ w)
falls a b c x y py w =
    same_by (num a ⊗ (num x ⊗ num w) ⊕ num b ⊗ num py ⊕ num c ⊗ num w)
    (neg (num b ⊗ (num y ⊗ num w ⊖ num py)) ⊖ (neg (num a ⊗ num x ⊕ num b ⊗ num y ⊕ num c) ⊗ num w)) (omega arith)

rises : (a b c x y py w : ℤ) → a *ℤ (x *ℤ w) +ℤ b *ℤ py +ℤ c *ℤ w
    ≡ neg_ℤ (neg_ℤ b *ℤ (py -ℤ y *ℤ w)) -ℤ (neg_ℤ (a *ℤ x +ℤ b *ℤ y +ℤ c) *ℤ w)
rises a b c x y py w =
    same_by (num a ⊗ (num x ⊗ num w) ⊕ num b ⊗ num py ⊕ num c ⊗ num w)
    (neg (neg (num b) ⊗ (num py ⊖ num y ⊗ num w)) ⊖ (neg (num a ⊗ num x ⊕ num b ⊗ num y ⊕ num c) ⊗ num w)) (omega arith)

module _ (h : HalfPlane) (x y : ℤ) (p : Point) (under : (h.a *ℤ x +ℤ h.b *ℤ y +ℤ h.c) ≤ℤ pos 0) (on : Holds (x_is x) p) where
  abbrev at : ℤ → ℤ
  at px = h.a *ℤ px +ℤ h.b *ℤ p.y +ℤ h.c *ℤ pos p.w

  fails : at (x *ℤ pos p.w) <ℤ pos 0 → ¬ (Holds h p)
  fails l = nowhere h.op (value_at h p) (subst (λ px. at px <ℤ pos 0) (sym ((x_is_holds x p).0 on)) l)

  rest : pos 0 ≤ℤ (neg_ℤ (h.a *ℤ x +ℤ h.b *ℤ y +ℤ h.c) *ℤ pos p.w)
  rest = product_at_least _ (pos p.w) (turned_at_least _ under) (omega (arith, ints))

  pub below_fails : pos 0 <ℤ h.b → Holds (y_under y) p → ¬ (Holds h p)
  below_fails b l =
      let d = (y_under_holds y p).0 l in
      fails (less _ _ _ (falls h.a h.b h.c x y p.y (pos p.w)) (product_over h.b (y *ℤ pos p.w -ℤ p.y) b (omega (arith, ints, d))) rest)

  pub above_fails : h.b <ℤ pos 0 → Holds (y_over y) p → ¬ (Holds h p)
  above_fails b l =
      let d = (y_over_holds y p).0 l in
      fails (less _ _ _ (rises h.a h.b h.c x y p.y (pos p.w)) (product_over (neg_ℤ h.b) (p.y -ℤ y *ℤ pos p.w) (omega (arith, ints))
      (omega (arith, ints, d))) rest)

-- ---- as the code computes it
module _ (p q r : ℤ) (f : unsigned_abs p ≤ 2 ^ 46) (g : unsigned_abs q ≤ 2 ^ 46) (k : unsigned_abs r ≤ 2 ^ 46) where
  pub sum_fits : FitsSigned w64 (to_z w64 (of_z w64 (to_z w64 (of_z w64 p) +ℤ to_z w64 (of_z w64 q))) +ℤ to_z w64 (of_z w64 r))
  sum_fits = omega (arith, ints)

  pub sum_back : to_z w64 (of_z w64 (to_z w64 (of_z w64 (to_z w64 (of_z w64 p) +ℤ to_z w64 (of_z w64 q))) +ℤ to_z w64 (of_z w64 r)))
      ≡ p +ℤ q +ℤ r
  sum_back = omega (arith, ints)

  pub sum_small : unsigned_abs (p +ℤ q +ℤ r) ≤ 2 ^ 48
  sum_small = omega (arith, ints)

pub read_under : (r v : ℤ) → unsigned_abs r ≤ 2 ^ 48 → r ≡ v → int_le (to_z w64 (of_z w64 r)) (pos 0) ≡ true → v ≤ℤ pos 0
read_under r v f e t = omega (arith, ints)
