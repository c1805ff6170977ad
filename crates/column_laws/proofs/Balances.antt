-- Two numbers of opposite signs balance at weights that keep the middle in a range.
use Rattle.std.proofs.Common.{◌≡◌, ℤ, pos, ◌+ℤ◌, ◌-ℤ◌, ◌*ℤ◌, neg_ℤ, ◌≤ℤ◌, ◌<ℤ◌, arith, ◌⊎◌, inl, inr}
use Rattle.std.proofs.lemmas.Int.{ints}
use Rattle.number_laws.proofs.Ring.{num, neg, ◌⊕◌, ◌⊖◌, ◌⊗◌, same_by, le_by, le_read, lt_read, same_read}
use Rattle.number_laws.proofs.Order.{sum_at_least, turned_at_least, turned_over, product_at_least, product_over, cases_order_ℤ}

-- one is above zero and the other is not
abbrev pub Opposite : ℤ → ℤ → Type 0
Opposite u v = ((pos 0 <ℤ u) × (v ≤ℤ pos 0)) ⊎ ((u ≤ℤ pos 0) × (pos 0 <ℤ v))

-- the numbers u and v stand at two points whose denominators are z and w; a and b tell how far these are right of the range's left
-- side, c and d how far left of its right side
pub record Balance (z w u v a b c d : ℤ) : Type 0 where
  pub n : ℤ
  pub m : ℤ
  pub n_least : pos 0 ≤ℤ n
  pub m_least : pos 0 ≤ℤ m
  pub w_over : pos 0 <ℤ (n *ℤ z +ℤ m *ℤ w)
  pub even : n *ℤ u +ℤ m *ℤ v ≡ pos 0
  pub low : pos 0 ≤ℤ (n *ℤ a +ℤ m *ℤ b)
  pub high : pos 0 ≤ℤ (n *ℤ c +ℤ m *ℤ d)

sum_right : (x y : ℤ) → pos 0 ≤ℤ x → pos 0 <ℤ y → pos 0 <ℤ (x +ℤ y)
sum_right x y h k = omega (arith, ints)

sum_left : (x y : ℤ) → pos 0 <ℤ x → pos 0 ≤ℤ y → pos 0 <ℤ (x +ℤ y)
sum_left x y h k = omega (arith, ints)

weak : (x : ℤ) → pos 0 <ℤ x → pos 0 ≤ℤ x
weak x h = omega (arith, ints)

module _ (z w u v a b c d : ℤ) (pz : pos 0 <ℤ z) (pw : pos 0 <ℤ w) where
  balance_down : pos 0 <ℤ u → v ≤ℤ pos 0 → pos 0 ≤ℤ (neg_ℤ v *ℤ a +ℤ u *ℤ b) → pos 0 ≤ℤ (neg_ℤ v *ℤ c +ℤ u *ℤ d)
      → Balance z w u v a b c d
  balance_down h k l r = record {
    n = neg_ℤ v;
    m = u;
    n_least = turned_at_least v k;
    m_least = weak u h;
    w_over = sum_right (neg_ℤ v *ℤ z) (u *ℤ w) (product_at_least (neg_ℤ v) z (turned_at_least v k) (weak z pz)) (product_over u w h pw);
    even = same_by (neg (num v) ⊗ num u ⊕ num u ⊗ num v) (num (pos 0)) (omega arith);
    low = l;
    high = r;
  }

  balance_up : u ≤ℤ pos 0 → pos 0 <ℤ v → pos 0 ≤ℤ (v *ℤ a +ℤ neg_ℤ u *ℤ b) → pos 0 ≤ℤ (v *ℤ c +ℤ neg_ℤ u *ℤ d)
      → Balance z w u v a b c d
  balance_up h k l r = record {
    n = v;
    m = neg_ℤ u;
    n_least = weak v k;
    m_least = turned_at_least u h;
    w_over = sum_left (v *ℤ z) (neg_ℤ u *ℤ w) (product_over v z k pz) (product_at_least (neg_ℤ u) w (turned_at_least u h) (weak w pw));
    even = same_by (num v ⊗ num u ⊕ neg (num u) ⊗ num v) (num (pos 0)) (omega arith);
    low = l;
    high = r;
  }

  -- the middle of two that are on the right side
  down_least : (x y : ℤ) → pos 0 <ℤ u → v ≤ℤ pos 0 → pos 0 ≤ℤ x → pos 0 ≤ℤ y → pos 0 ≤ℤ (neg_ℤ v *ℤ x +ℤ u *ℤ y)
  down_least x y h k l r = sum_at_least (neg_ℤ v *ℤ x) (u *ℤ y) (product_at_least (neg_ℤ v) x (turned_at_least v k) l)
      (product_at_least u y (weak u h) r)

  up_least : (x y : ℤ) → u ≤ℤ pos 0 → pos 0 <ℤ v → pos 0 ≤ℤ x → pos 0 ≤ℤ y → pos 0 ≤ℤ (v *ℤ x +ℤ neg_ℤ u *ℤ y)
  up_least x y h k l r = sum_at_least (v *ℤ x) (neg_ℤ u *ℤ y) (product_at_least v x (weak v k) l)
      (product_at_least (neg_ℤ u) y (turned_at_least u h) r)

  -- ---- both points are in the range
  pub balance_both : pos 0 ≤ℤ a → pos 0 ≤ℤ b → pos 0 ≤ℤ c → pos 0 ≤ℤ d → Opposite u v → Balance z w u v a b c d
  balance_both ha hb hc hd (inl o) = balance_down o.0 o.1 (down_least a b o.0 o.1 ha hb) (down_least c d o.0 o.1 hc hd)
  balance_both ha hb hc hd (inr o) = balance_up o.0 o.1 (up_least a b o.0 o.1 ha hb) (up_least c d o.0 o.1 hc hd)

  -- ---- the second is right of the range; at the right side stands e, times k
  module _ (k e : ℤ) (pk : pos 0 <ℤ k) (i : k *ℤ e ≡ c *ℤ v -ℤ d *ℤ u) where
    right_down : pos 0 <ℤ u → e ≤ℤ pos 0 → pos 0 <ℤ c → d ≤ℤ pos 0 → v ≤ℤ pos 0
    right_down hu he hc hd =
        elim (cases_order_ℤ (pos 0) v) [
          | inl hv ↦
              let f = lt_read (num (pos 0)) (num c ⊗ num v) (product_over c v hc hv) in
              let g = le_read (num (pos 0)) (num k ⊗ neg (num e)) (product_at_least k (neg_ℤ e) (weak k pk) (turned_at_least e he)) in
              let h = le_read (num (pos 0)) (neg (num d) ⊗ num u) (product_at_least (neg_ℤ d) u (turned_at_least d hd) (weak u hu)) in
              let j = same_read (num k ⊗ num e) (num c ⊗ num v ⊖ num d ⊗ num u) i in
              absurd (omega (arith, f, g, h, j))
          | inr hv ↦ hv
        ]

    right_up : u ≤ℤ pos 0 → pos 0 <ℤ e → pos 0 <ℤ c → d ≤ℤ pos 0 → pos 0 <ℤ v
    right_up hu he hc hd =
        elim (cases_order_ℤ (pos 0) v) [
          | inl hv ↦ hv
          | inr hv ↦
              let f = le_read (num (pos 0)) (num c ⊗ neg (num v)) (product_at_least c (neg_ℤ v) (weak c hc) (turned_at_least v hv)) in
              let g = lt_read (num (pos 0)) (num k ⊗ num e) (product_over k e pk he) in
              let h = le_read (num (pos 0)) (neg (num d) ⊗ neg (num u))
              (product_at_least (neg_ℤ d) (neg_ℤ u) (turned_at_least d hd) (turned_at_least u hu)) in
              let j = same_read (num k ⊗ num e) (num c ⊗ num v ⊖ num d ⊗ num u) i in
              absurd (omega (arith, f, g, h, j))
        ]

    high_down : e ≤ℤ pos 0 → pos 0 ≤ℤ (neg_ℤ v *ℤ c +ℤ u *ℤ d)
    high_down he =
        let g = le_read (num (pos 0)) (num k ⊗ neg (num e)) (product_at_least k (neg_ℤ e) (weak k pk) (turned_at_least e he)) in
        let j = same_read (num k ⊗ num e) (num c ⊗ num v ⊖ num d ⊗ num u) i in
        le_by (num (pos 0)) (neg (num v) ⊗ num c ⊕ num u ⊗ num d) (omega (arith, g, j))

    high_up : pos 0 <ℤ e → pos 0 ≤ℤ (v *ℤ c +ℤ neg_ℤ u *ℤ d)
    high_up he =
        let g = le_read (num (pos 0)) (num k ⊗ num e) (product_at_least k e (weak k pk) (weak e he)) in
        let j = same_read (num k ⊗ num e) (num c ⊗ num v ⊖ num d ⊗ num u) i in
        le_by (num (pos 0)) (num v ⊗ num c ⊕ neg (num u) ⊗ num d) (omega (arith, g, j))

    pub balance_right : pos 0 ≤ℤ a → pos 0 ≤ℤ b → pos 0 <ℤ c → d ≤ℤ pos 0 → Opposite u e → Balance z w u v a b c d
    balance_right ha hb hc hd (inl o) =
        let hv = right_down o.0 o.1 hc hd in
        balance_down o.0 hv (down_least a b o.0 hv ha hb) (high_down o.1)
    balance_right ha hb hc hd (inr o) =
        let hv = right_up o.0 o.1 hc hd in
        balance_up o.0 hv (up_least a b o.0 hv ha hb) (high_up o.1)

  -- ---- the first is left of the range; at the left side stands e, times k
  module _ (k e : ℤ) (pk : pos 0 <ℤ k) (i : k *ℤ e ≡ b *ℤ u -ℤ a *ℤ v) where
    left_down : pos 0 <ℤ e → v ≤ℤ pos 0 → a <ℤ pos 0 → pos 0 ≤ℤ b → pos 0 <ℤ u
    left_down he hv ha hb =
        elim (cases_order_ℤ (pos 0) u) [
          | inl hu ↦ hu
          | inr hu ↦
              let f = le_read (num (pos 0)) (num b ⊗ neg (num u)) (product_at_least b (neg_ℤ u) hb (turned_at_least u hu)) in
              let g = lt_read (num (pos 0)) (num k ⊗ num e) (product_over k e pk he) in
              let h = le_read (num (pos 0)) (neg (num a) ⊗ neg (num v))
              (product_at_least (neg_ℤ a) (neg_ℤ v) (weak (neg_ℤ a) (turned_over a ha)) (turned_at_least v hv)) in
              let j = same_read (num k ⊗ num e) (num b ⊗ num u ⊖ num a ⊗ num v) i in
              absurd (omega (arith, f, g, h, j))
        ]

    left_up : e ≤ℤ pos 0 → pos 0 <ℤ v → a <ℤ pos 0 → pos 0 ≤ℤ b → u ≤ℤ pos 0
    left_up he hv ha hb =
        elim (cases_order_ℤ (pos 0) u) [
          | inl hu ↦
              let f = le_read (num (pos 0)) (num b ⊗ num u) (product_at_least b u hb (weak u hu)) in
              let g = le_read (num (pos 0)) (num k ⊗ neg (num e)) (product_at_least k (neg_ℤ e) (weak k pk) (turned_at_least e he)) in
              let h = lt_read (num (pos 0)) (neg (num a) ⊗ num v) (product_over (neg_ℤ a) v (turned_over a ha) hv) in
              let j = same_read (num k ⊗ num e) (num b ⊗ num u ⊖ num a ⊗ num v) i in
              absurd (omega (arith, f, g, h, j))
          | inr hu ↦ hu
        ]

    low_down : pos 0 <ℤ e → pos 0 ≤ℤ (neg_ℤ v *ℤ a +ℤ u *ℤ b)
    low_down he =
        let g = le_read (num (pos 0)) (num k ⊗ num e) (product_at_least k e (weak k pk) (weak e he)) in
        let j = same_read (num k ⊗ num e) (num b ⊗ num u ⊖ num a ⊗ num v) i in
        le_by (num (pos 0)) (neg (num v) ⊗ num a ⊕ num u ⊗ num b) (omega (arith, g, j))

    low_up : e ≤ℤ pos 0 → pos 0 ≤ℤ (v *ℤ a +ℤ neg_ℤ u *ℤ b)
    low_up he =
        let g = le_read (num (pos 0)) (num k ⊗ neg (num e)) (product_at_least k (neg_ℤ e) (weak k pk) (turned_at_least e he)) in
        let j = same_read (num k ⊗ num e) (num b ⊗ num u ⊖ num a ⊗ num v) i in
        le_by (num (pos 0)) (num v ⊗ num a ⊕ neg (num u) ⊗ num b) (omega (arith, g, j))

    pub balance_left : a <ℤ pos 0 → pos 0 ≤ℤ b → pos 0 ≤ℤ c → pos 0 ≤ℤ d → Opposite e v → Balance z w u v a b c d
    balance_left ha hb hc hd (inl o) =
        let hu = left_down o.0 o.1 ha hb in
        balance_down hu o.1 (low_down o.0) (down_least c d hu o.1 hc hd)
    balance_left ha hb hc hd (inr o) =
        let hu = left_up o.0 o.1 ha hb in
        balance_up hu o.1 (low_up o.0) (up_least c d hu o.1 hc hd)
