use Rattle.std.proofs.Common.{◌≡◌, ℕ, ℤ, pos, ◌+ℤ◌, ◌*ℤ◌, arith}
use Rattle.plane_terms.specs.Decide.{Edge}
use Rattle.cell_laws.specs.Bounds.{level}
use Rattle.number_laws.proofs.Ring.{num, ◌⊕◌, ◌⊗◌, same_by}

-- the numbers of a pair
pub pair_value : (l u : Edge) (t : ℤ) (w : ℕ) → (l.a *ℤ u.b +ℤ u.a *ℤ l.b) *ℤ t +ℤ (l.c *ℤ u.b +ℤ u.c *ℤ l.b) *ℤ pos w
    ≡ level l t w *ℤ u.b +ℤ level u t w *ℤ l.b
pair_value l u t w =
    same_by ((num l.a ⊗ num u.b ⊕ num u.a ⊗ num l.b) ⊗ num t ⊕ (num l.c ⊗ num u.b ⊕ num u.c ⊗ num l.b) ⊗ num (pos w))
    ((num l.a ⊗ num t ⊕ num l.c ⊗ num (pos w)) ⊗ num u.b ⊕ (num u.a ⊗ num t ⊕ num u.c ⊗ num (pos w)) ⊗ num l.b) (omega arith)
