-- Points at places of the grid.
use Rattle.std.proofs.Common.{◌≡◌, ℕ, ◌<◌, ℤ, pos, ◌*ℤ◌, arith, sym, ◌∙◌}
use Rattle.std.proofs.lemmas.Int.{ints}
use Rattle.plane_terms.specs.Point.{Place, Point, IsAt}
use Rattle.sound_laws.proofs.Planes.{le_from_scaled}

same_from_scaled : (a b : ℤ) (w : ℕ) → 0 < w → (a *ℤ pos w) ≡ (b *ℤ pos w) → a ≡ b
same_from_scaled a b w p h =
    let k = le_from_scaled a b w p (omega (arith, ints)) in
    let m = le_from_scaled b a w p (omega (arith, ints)) in
    omega (arith, ints)

-- a point is at one place
pub place_one : (q r : Place) (p : Point) → IsAt q p → IsAt r p → q ≡ r
place_one q r p h k =
    let a : q.x ≡ r.x = same_from_scaled q.x r.x p.w p.positive (sym h.x ∙ k.x) in
    let b : q.y ≡ r.y = same_from_scaled q.y r.y p.w p.positive (sym h.y ∙ k.y) in
    λ i. record { x = a i; y = b i }
