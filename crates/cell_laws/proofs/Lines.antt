-- One unknown: two constraints, and lists of them.
use Rattle.std.proofs.Common.{◌≡◌, ℕ, ◌*◌, ◌<◌, Bool, true, false, ℤ, pos, ◌+ℤ◌, ◌-ℤ◌, ◌*ℤ◌, neg_ℤ, ◌≤ℤ◌, ◌<ℤ◌, negsuc, arith, refl, sym}
use Rattle.std.proofs.Common.{subst, ap, suc, zero}
use Rattle.std.proofs.lemmas.Int.{ints}
use Rattle.std.proofs.Math.Nat.{mul-pos}
use Rattle.cell_laws.specs.Bounds.{Above, Allows, either}
use Rattle.number_laws.proofs.Ring.{num, neg, ◌⊕◌, ◌⊖◌, ◌⊗◌, same_by, same_read}
use Rattle.number_laws.proofs.Order.{product_at_least, product_over}

-- a positive factor keeps what is said, and may be taken away
pub Above-scaled : (s : Bool) (a v : ℤ) → pos 0 <ℤ a → Above s v → Above s (a *ℤ v)
Above-scaled true a v p h = product_over a v p h
Above-scaled false a v p h = product_at_least a v (omega (arith, ints)) h

pub Above-unscaled : (s : Bool) (a v : ℤ) → pos 0 <ℤ a → Above s (a *ℤ v) → Above s v
Above-unscaled true (pos a) (pos zero) p h = absurd (omega (arith, ints))
Above-unscaled true (pos a) (pos (suc v)) p h = omega (arith, ints)
Above-unscaled true (pos a) (negsuc v) p h = absurd (omega (arith, ints))
Above-unscaled true (negsuc a) v p h = absurd (omega (arith, ints))
Above-unscaled false (pos a) (pos v) p h = omega (arith, ints)
Above-unscaled false (pos a) (negsuc v) p h = absurd (omega (arith, ints))
Above-unscaled false (negsuc a) v p h = absurd (omega (arith, ints))

pub Above-sum : (s r : Bool) (u v : ℤ) → Above s u → Above r v → Above (either s r) (u +ℤ v)
Above-sum true true u v h k = omega (arith, ints)
Above-sum true false u v h k = omega (arith, ints)
Above-sum false true u v h k = omega (arith, ints)
Above-sum false false u v h k = omega (arith, ints)

-- a strict fact is a weak one
pub Above-weak : (s : Bool) (v : ℤ) → Above s v → pos 0 ≤ℤ v
Above-weak true v h = omega (arith, ints)
Above-weak false v h = h

pub Above-any : (s : Bool) (v : ℤ) → pos 0 <ℤ v → Above s v
Above-any true v h = h
Above-any false v h = omega (arith, ints)

pub Above-left : (s r : Bool) (v : ℤ) → Above (either s r) v → Above s v
Above-left true r v h = h
Above-left false true v h = omega (arith, ints)
Above-left false false v h = h

pub Above-right : (s r : Bool) (v : ℤ) → Above (either s r) v → Above r v
Above-right true true v h = h
Above-right true false v h = omega (arith, ints)
Above-right false r v h = h

-- ---- two constraints, one that bounds t from below and one that bounds it from above

-- at a common point they are compatible
pub compatible_at : (m k n l : ℤ) (s r : Bool) (t : ℤ) (w : ℕ) → 0 < w → pos 0 <ℤ m → pos 0 <ℤ n → Allows m k s t w
    → Allows n l r (neg_ℤ t) w → Above (either s r) (k *ℤ n +ℤ l *ℤ m)
compatible_at m k n l s r t w p pm pn h g =
    let e : n *ℤ (m *ℤ t +ℤ k *ℤ pos w) +ℤ m *ℤ (n *ℤ neg_ℤ t +ℤ l *ℤ pos w)
    ≡ pos w *ℤ (k *ℤ n +ℤ l *ℤ m) = same_by (num n ⊗ (num m ⊗ num t ⊕ num k ⊗ num (pos w)) ⊕ num m ⊗
    (num n ⊗ neg (num t) ⊕ num l ⊗ num (pos w))) (num (pos w) ⊗ (num k ⊗ num n ⊕ num l ⊗ num m)) (omega arith) in
    let sum = Above-sum s r _ _ (Above-scaled s n _ pn h) (Above-scaled r m _ pm g) in
    Above-unscaled (either s r) (pos w) _ (omega (arith, ints)) (subst (λ v. Above (either s r) v) e sum)

-- compatible ones have a common point, the middle
pub compatible_point : (m k n l : ℤ) (s r : Bool) → pos 0 <ℤ m → pos 0 <ℤ n → Above (either s r) (k *ℤ n +ℤ l *ℤ m)
    → (t : ℤ) × (w : ℕ) × (0 < w) × Allows m k s t w × Allows n l r (neg_ℤ t) w
compatible_point (pos m) k (pos n) l s r pm pn h =
    let qm : 0 < m = omega (arith, ints) in
    let qn : 0 < n = omega (arith, ints) in
    let t = l *ℤ pos m -ℤ k *ℤ pos n in
    let w = 2 * (m * n) in
    let e : pos m *ℤ (k *ℤ pos n +ℤ l *ℤ pos m)
    ≡ pos m *ℤ t +ℤ k *ℤ pos w = same_by (num (pos m) ⊗ (num k ⊗ num (pos n) ⊕ num l ⊗ num (pos m)))
    (num (pos m) ⊗ (num l ⊗ num (pos m) ⊖ num k ⊗ num (pos n)) ⊕ num k ⊗ num (pos w)) (omega arith) in
    let f : pos n *ℤ (k *ℤ pos n +ℤ l *ℤ pos m) ≡ pos n *ℤ neg_ℤ t +ℤ l *ℤ pos w = same_by
    (num (pos n) ⊗ (num k ⊗ num (pos n) ⊕ num l ⊗ num (pos m)))
    (num (pos n) ⊗ (neg (num l ⊗ num (pos m) ⊖ num k ⊗ num (pos n))) ⊕ num l ⊗ num (pos w)) (omega arith) in (
      t,
      w,
      omega (arith, mul-pos qm qn),
      subst (λ v. Above s v) e (Above-scaled s (pos m) _ pm (Above-left s r _ h)),
      subst
          (λ v. Above r v) f (Above-scaled r (pos n) _ pn (Above-right s r _ h)),
    )
compatible_point m k n l s r pm pn h = absurd (omega (arith, ints))

-- of two that bound t from below, the one with the lesser k / m is the tighter
pub tighter_less : (m k n l : ℤ) (s r : Bool) (t : ℤ) (w : ℕ) → 0 < w → pos 0 <ℤ m → pos 0 <ℤ n → (k *ℤ n) <ℤ (l *ℤ m) → Allows m k s t w
    → Allows n l r t w
tighter_less m k n l s r t w p pm pn less h =
    let e : m *ℤ (n *ℤ t +ℤ l *ℤ pos w) ≡ n *ℤ (m *ℤ t +ℤ k *ℤ pos w) +ℤ (l *ℤ m -ℤ k *ℤ n) *ℤ pos w = same_by
    (num m ⊗ (num n ⊗ num t ⊕ num l ⊗ num (pos w)))
    (num n ⊗ (num m ⊗ num t ⊕ num k ⊗ num (pos w)) ⊕ (num l ⊗ num m ⊖ num k ⊗ num n) ⊗ num (pos w)) (omega arith) in
    let a : pos 0 ≤ℤ (n *ℤ (m *ℤ t +ℤ k *ℤ pos w)) = product_at_least n _ (omega (arith, ints)) (Above-weak s _ h) in
    let b : pos 0 <ℤ ((l *ℤ m -ℤ k *ℤ n) *ℤ pos w) = product_over (l *ℤ m -ℤ k *ℤ n) (pos w) (omega (arith, ints))
    (omega (arith, ints)) in
    let c : pos 0 <ℤ (m *ℤ (n *ℤ t +ℤ l *ℤ pos w)) = subst (λ v. pos 0 <ℤ v) (sym e) (omega (arith, ints)) in
    Above-any r _ (Above-unscaled true m _ pm c)

-- at equal ones the strict one is
pub tighter_same : (m k n l : ℤ) (s r : Bool) (t : ℤ) (w : ℕ) → pos 0 <ℤ m → pos 0 <ℤ n → k *ℤ n ≡ l *ℤ m → either s r ≡ s
    → Allows m k s t w → Allows n l r t w
tighter_same m k n l s r t w pm pn same op h =
    let e : n *ℤ (m *ℤ t +ℤ k *ℤ pos w) ≡ m *ℤ (n *ℤ t +ℤ l *ℤ pos w) = same_by (num n ⊗ (num m ⊗ num t ⊕ num k ⊗ num (pos w)))
    (num m ⊗ (num n ⊗ num t ⊕ num l ⊗ num (pos w)))
    (omega (arith, ap (λ x. x * w) (same_read (num k ⊗ num n) (num l ⊗ num m) same))) in
    let a = Above-right s r _ (subst (λ b. Above b (m *ℤ t +ℤ k *ℤ pos w)) (sym op) h) in
    Above-unscaled r m _ pm (subst (λ v. Above r v) e (Above-scaled r n _ pn a))

pub either-true : (s r : Bool) → s ≡ true → either s r ≡ s
either-true true r e = refl
either-true false r e = cc

pub either-false : (s r : Bool) → r ≡ false → either s r ≡ s
either-false true r e = refl
either-false false r e = e
