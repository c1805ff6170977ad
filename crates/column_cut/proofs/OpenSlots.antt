-- Where the one half-plane ends above the other in the middle of a column, their slot has a point there: half way between both.
use Rattle.std.proofs.Common.{◌≡◌, ℕ, ◌<◌, ℤ, pos, ◌+ℤ◌, ◌-ℤ◌, ◌*ℤ◌, neg_ℤ, ◌<ℤ◌, arith, sym, subst, [], ◌∷◌, ap, refl, ◌∙◌}
use Rattle.std.proofs.lemmas.Int.{ints}
use Rattle.plane_terms.specs.Point.{Point}
use Rattle.plane_terms.specs.HalfPlane.{HalfPlane, Holds, Says, value_at, x_over, x_under}
use Rattle.plane_terms.specs.Cell.{HasPoint}
use Rattle.plane_terms.specs.declared.op.Op.{Op}
use Rattle.plane_terms.specs.declared.op.Op.TheVariants.{Over, AtLeast, Zero}
use Rattle.number_laws.proofs.Ring.{num, neg, ◌⊕◌, ◌⊖◌, ◌⊗◌, same_by}
use Rattle.number_laws.proofs.Order.{product_over, turned_over, difference_over, natural}

-- ---- with d the product of both slopes of y, and u and v twice the values at height 0
at_base : (a m d c : ℤ) → a *ℤ (m *ℤ (pos 2 *ℤ d)) +ℤ c *ℤ (pos 4 *ℤ d) ≡ (a *ℤ m +ℤ c *ℤ pos 2) *ℤ (pos 2 *ℤ d)
at_base a m d c = same_by (num a ⊗ (num m ⊗ (num (pos 2) ⊗ num d)) ⊕ num c ⊗ (num (pos 4) ⊗ num d))
    ((num a ⊗ num m ⊕ num c ⊗ num (pos 2)) ⊗ (num (pos 2) ⊗ num d)) (omega arith)

between : (s y t : ℤ) → s +ℤ y +ℤ t ≡ s +ℤ t +ℤ y
between s y t = omega (arith, ints)

over_base : (u v b k : ℤ) → u *ℤ (pos 2 *ℤ (b *ℤ k)) +ℤ b *ℤ (v *ℤ b -ℤ u *ℤ k) ≡ b *ℤ (v *ℤ b -ℤ u *ℤ neg_ℤ k)
over_base u v b k = same_by (num u ⊗ (num (pos 2) ⊗ (num b ⊗ num k)) ⊕ num b ⊗ (num v ⊗ num b ⊖ num u ⊗ num k))
    (num b ⊗ (num v ⊗ num b ⊖ num u ⊗ neg (num k))) (omega arith)

under_base : (u v b k : ℤ) → v *ℤ (pos 2 *ℤ (b *ℤ k)) +ℤ neg_ℤ k *ℤ (v *ℤ b -ℤ u *ℤ k) ≡ k *ℤ (v *ℤ b -ℤ u *ℤ neg_ℤ k)
under_base u v b k = same_by (num v ⊗ (num (pos 2) ⊗ (num b ⊗ num k)) ⊕ neg (num k) ⊗ (num v ⊗ num b ⊖ num u ⊗ num k))
    (num k ⊗ (num v ⊗ num b ⊖ num u ⊗ neg (num k))) (omega arith)

right_base : (l r d y : ℤ) → pos 1 *ℤ ((l +ℤ r) *ℤ (pos 2 *ℤ d)) +ℤ pos 0 *ℤ y +ℤ neg_ℤ l *ℤ (pos 4 *ℤ d) ≡ (pos 2 *ℤ d) *ℤ (r -ℤ l)
right_base l r d y = same_by (num (pos 1) ⊗ ((num l ⊕ num r) ⊗ (num (pos 2) ⊗ num d)) ⊕ num (pos 0) ⊗ num y ⊕ neg (num l) ⊗ (num (pos 4) ⊗ num d))
    ((num (pos 2) ⊗ num d) ⊗ (num r ⊖ num l)) (omega arith)

left_base : (l r d y : ℤ) → neg_ℤ (pos 1) *ℤ ((l +ℤ r) *ℤ (pos 2 *ℤ d)) +ℤ pos 0 *ℤ y +ℤ r *ℤ (pos 4 *ℤ d) ≡ (pos 2 *ℤ d) *ℤ (r -ℤ l)
left_base l r d y = same_by (neg (num (pos 1)) ⊗ ((num l ⊕ num r) ⊗ (num (pos 2) ⊗ num d)) ⊕ num (pos 0) ⊗ num y ⊕ num r ⊗ (num (pos 4) ⊗ num d))
    ((num (pos 2) ⊗ num d) ⊗ (num r ⊖ num l)) (omega arith)

holds : (o : Op) (v : ℤ) → ¬ (o ≡ Zero) → pos 0 <ℤ v → Says o v
holds Over v n h = h
holds AtLeast v n h = omega (arith, ints)
holds Zero v n h = absurd (n refl)

over_is_area : ¬ (Over ≡ Zero)
over_is_area e = subst IsArea e tt
  where
    IsArea : Op → Type 0
    IsArea Over = Unit {0}
    IsArea AtLeast = Unit {0}
    IsArea Zero = ⊥

twice_turned : (b : ℤ) → b ≡ neg_ℤ (neg_ℤ b)
twice_turned b = omega (arith, ints)

pub open_point : (l r : ℤ) (o u : HalfPlane) → l <ℤ r → ¬ (o.op ≡ Zero) → ¬ (u.op ≡ Zero) → pos 0 <ℤ o.b → u.b <ℤ pos 0
    → ((o.a *ℤ (l +ℤ r) +ℤ o.c *ℤ pos 2) *ℤ u.b) <ℤ ((u.a *ℤ (l +ℤ r) +ℤ u.c *ℤ pos 2) *ℤ o.b)
    → HasPoint (x_over l ∷ x_under r ∷ o ∷ u ∷ [])
open_point l r o u apart area_o area_u rising falling lower = (p, (in_left, (in_right, (in_over, (in_under, tt)))))
  where
    m : ℤ
    m = l +ℤ r

    k : ℤ
    k = neg_ℤ u.b

    d : ℤ
    d = o.b *ℤ k

    below : ℤ
    below = o.a *ℤ m +ℤ o.c *ℤ pos 2

    above : ℤ
    above = u.a *ℤ m +ℤ u.c *ℤ pos 2

    k_over : pos 0 <ℤ k
    k_over = turned_over u.b falling

    d_over : pos 0 <ℤ d
    d_over = product_over o.b k rising k_over

    twice : pos 0 <ℤ (pos 2 *ℤ d)
    twice = product_over (pos 2) d (omega (arith, ints)) d_over

    wide : (n : ℕ) × (0 < n) × (pos 4 *ℤ d ≡ pos n)
    wide = natural (pos 4 *ℤ d) (product_over (pos 4) d (omega (arith, ints)) d_over)

    y : ℤ
    y = above *ℤ o.b -ℤ below *ℤ k

    p : Point
    p = record { x = m *ℤ (pos 2 *ℤ d); y = y; w = wide.0; positive = wide.1 }

    height : ℤ
    height = above *ℤ o.b -ℤ below *ℤ neg_ℤ k

    high : pos 0 <ℤ height
    high = subst (λ b. pos 0 <ℤ (above *ℤ o.b -ℤ below *ℤ b)) (twice_turned u.b) (difference_over (below *ℤ u.b) (above *ℤ o.b) lower)

    -- a half-plane holds where its value, with the denominator written out, is above 0
    holds_by : (h : HalfPlane) (v : ℤ) → ¬ (h.op ≡ Zero) → h.a *ℤ (m *ℤ (pos 2 *ℤ d)) +ℤ h.b *ℤ y +ℤ h.c *ℤ (pos 4 *ℤ d) ≡ v → pos 0 <ℤ v
        → Holds h p
    holds_by h v area e f =
        let at : value_at h p ≡ v = ap (λ w. h.a *ℤ (m *ℤ (pos 2 *ℤ d)) +ℤ h.b *ℤ y +ℤ h.c *ℤ w) (sym wide.2) ∙ e in
        holds h.op (value_at h p) area (subst (λ z. pos 0 <ℤ z) (sym at) f)

    in_left : Holds (x_over l) p
    in_left = holds_by (x_over l) ((pos 2 *ℤ d) *ℤ (r -ℤ l)) over_is_area (right_base l r d y) (product_over (pos 2 *ℤ d) (r -ℤ l) twice (difference_over l r apart))

    in_right : Holds (x_under r) p
    in_right = holds_by (x_under r) ((pos 2 *ℤ d) *ℤ (r -ℤ l)) over_is_area (left_base l r d y) (product_over (pos 2 *ℤ d) (r -ℤ l) twice (difference_over l r apart))

    in_over : Holds o p
    in_over = holds_by o (o.b *ℤ height) area_o (between (o.a *ℤ (m *ℤ (pos 2 *ℤ d))) (o.b *ℤ y) (o.c *ℤ (pos 4 *ℤ d)) ∙ ap (λ s. s +ℤ o.b *ℤ y) (at_base o.a m d o.c) ∙ over_base below above o.b k)
        (product_over o.b height rising high)

    in_under : Holds u p
    in_under = holds_by u (k *ℤ height) area_u (between (u.a *ℤ (m *ℤ (pos 2 *ℤ d))) (u.b *ℤ y) (u.c *ℤ (pos 4 *ℤ d)) ∙ ap (λ s. s +ℤ u.b *ℤ y) (at_base u.a m d u.c)
        ∙ ap (λ b. above *ℤ (pos 2 *ℤ d) +ℤ b *ℤ y) (twice_turned u.b) ∙ under_base below above o.b k)
        (product_over k height k_over high)
