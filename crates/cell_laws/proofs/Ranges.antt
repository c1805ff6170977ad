use Rattle.std.proofs.Common.{◌≡◌, ◌↔◌, ℕ, ◌<◌, Bool, ℤ, pos, ◌+ℤ◌, ◌*ℤ◌, neg_ℤ, arith, sym, subst}
use Rattle.std.proofs.lemmas.Int.{ints}
use Rattle.cell_laws.specs.Bounds.{Above, Allows}
use Rattle.number_laws.proofs.Ring.{num, neg, ◌⊕◌, ◌⊗◌, same_by}
use Rattle.cell_laws.proofs.Lines.{Above-scaled, Above-unscaled}

-- both signs turned
flip : (m k t : ℤ) (w : ℕ) → neg_ℤ m *ℤ neg_ℤ t +ℤ k *ℤ pos w ≡ m *ℤ t +ℤ k *ℤ pos w
flip m k t w = same_by (neg (num m) ⊗ neg (num t) ⊕ num k ⊗ num (pos w)) (num m ⊗ num t ⊕ num k ⊗ num (pos w)) (omega arith)

pub flipped : (m k : ℤ) (s : Bool) (t : ℤ) (w : ℕ) → Allows (neg_ℤ m) k s (neg_ℤ t) w ↔ Allows m k s t w
flipped m k s t w = (subst (Above s) (flip m k t w), subst (Above s) (sym (flip m k t w)))

level_out : (k t : ℤ) (w : ℕ) → pos 0 *ℤ t +ℤ k *ℤ pos w ≡ pos w *ℤ k
level_out k t w = same_by (num (pos 0) ⊗ num t ⊕ num k ⊗ num (pos w)) (num (pos w) ⊗ num k) (omega arith)

-- with no slope
pub level_allows : (m k : ℤ) (s : Bool) (t : ℤ) (w : ℕ) → 0 < w → m ≡ pos 0 → Allows m k s t w ↔ Above s k
level_allows m k s t w p e = (
  λ h. Above-unscaled s (pos w) k (omega (arith, ints))
      (subst (Above s) (level_out k t w) (subst (λ z. Allows z k s t w) e h)),
  λ h. subst (λ z. Allows z k s t w) (sym e)
      (subst (Above s) (sym (level_out k t w)) (Above-scaled s (pos w) k (omega (arith, ints)) h)),
)
