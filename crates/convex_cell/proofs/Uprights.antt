-- What the two half-planes of an upright line say of the first coordinate.
use Rattle.std.proofs.Common.{◌≡◌, ℤ, pos, negsuc, neg_ℤ, ◌+ℤ◌, ◌-ℤ◌, ◌*ℤ◌, ◌<ℤ◌, ◌≤ℤ◌, arith, subst, sym}
use Rattle.std.proofs.lemmas.Int.{ints}
use Rattle.number_laws.proofs.Ring.{num, neg, ◌⊕◌, ◌⊖◌, ◌⊗◌, same_by}
use Rattle.number_laws.proofs.Order.{difference_over}

low_is : (v z w : ℤ) → pos 1 *ℤ z +ℤ neg_ℤ v *ℤ w ≡ z -ℤ v *ℤ w
low_is v z w = same_by (num (pos 1) ⊗ num z ⊕ neg (num v) ⊗ num w) (num z ⊖ num v ⊗ num w) (omega arith)

high_is : (v z w : ℤ) → negsuc 0 *ℤ z +ℤ v *ℤ w ≡ v *ℤ w -ℤ z
high_is v z w = same_by (num (negsuc 0) ⊗ num z ⊕ num v ⊗ num w) (num v ⊗ num w ⊖ num z) (omega arith)

no_gap : (a b : ℤ) → a ≡ b → pos 0 ≤ℤ (b -ℤ a)
no_gap a b h = omega (arith, ints)

pub after_line : (v h z w : ℤ) → h ≡ neg_ℤ v → (v *ℤ w) <ℤ z → pos 0 <ℤ (pos 1 *ℤ z +ℤ h *ℤ w)
after_line v h z w e l = rw e (subst (λ u. pos 0 <ℤ u) (sym (low_is v z w)) (difference_over (v *ℤ w) z l))

pub before_line : (v h z w : ℤ) → h ≡ v → z <ℤ (v *ℤ w) → pos 0 <ℤ (negsuc 0 *ℤ z +ℤ h *ℤ w)
before_line v h z w e l = rw e (subst (λ u. pos 0 <ℤ u) (sym (high_is v z w)) (difference_over z (v *ℤ w) l))

pub from_line : (v h z w : ℤ) → h ≡ neg_ℤ v → z ≡ v *ℤ w → pos 0 ≤ℤ (pos 1 *ℤ z +ℤ h *ℤ w)
from_line v h z w e l = rw e (subst (λ u. pos 0 ≤ℤ u) (sym (low_is v z w)) (no_gap (v *ℤ w) z (sym l)))

pub to_line : (v h z w : ℤ) → h ≡ v → z ≡ v *ℤ w → pos 0 ≤ℤ (negsuc 0 *ℤ z +ℤ h *ℤ w)
to_line v h z w e l = rw e (subst (λ u. pos 0 ≤ℤ u) (sym (high_is v z w)) (no_gap z (v *ℤ w) l))
