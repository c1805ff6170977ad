-- Worked rows, from the definitions.
use Rattle.std.proofs.Common.{pos, ◌+ℤ◌, [], ◌∷◌, inl, inr, arith, lit<}
use Rattle.std.proofs.lemmas.Int.{ints}
use Rattle.plane_terms.specs.Point.{Point}
use Rattle.plane_terms.specs.Rectangle.{Rectangle, rect_of}
use Rattle.plane_terms.specs.HalfPlane.{weak, x_over}
use Rattle.plane_terms.specs.Cell.{IsLeastFrame, at_place}
use Rattle.cell_laws.proofs.GridLines.{x_over_holds, weak_x_over_holds}
use Rattle.cell_laws.proofs.Outside.{at_place_points}
use Rattle.sound_check.specs.Rest.{IsWithinOff, AreSameOff}
use Rattle.sound_check.proofs.Sides.{sides_reached}

-- cells without any point have no least frame, and the whole plane has none
no_frame_of_nothing : (r : Rectangle) → ¬ (IsLeastFrame r [])
no_frame_of_nothing r f = sides_reached r [] f (λ s. s.left.1)

no_frame_of_the_plane : (r : Rectangle) → ¬ (IsLeastFrame r ([] ∷ []))
no_frame_of_the_plane r f =
    let h = f.holds (record { x = r.x1 +ℤ pos 1; y = pos 0; w = 1; positive = lit< tt }) (inl tt) in
    omega (arith, ints, h.right)

-- a place under the dirt need be nowhere
hidden_place : IsWithinOff (rect_of (pos 0) (pos 0) (pos 5) (pos 5) ∷ []) (at_place (record { x = pos 3; y = pos 5 }) ∷ []) []
hidden_place p n i = elim i [
  | inl m ↦ let a = (at_place_points (record { x = pos 3; y = pos 5 }) p).0 m in n (inl (record {
    left = omega (arith, ints, a.x);
    right = omega (arith, ints, a.x);
    below = omega (arith, ints, a.y);
    above = omega (arith, ints, a.y);
  }))
  | inr e ↦ e
]

-- a border alone tells two lists apart
border_counts : ¬ (AreSameOff [] ((weak (x_over (pos 0)) ∷ []) ∷ []) ((x_over (pos 0) ∷ []) ∷ []))
border_counts s =
    let p : Point = record { x = pos 0; y = pos 0; w = 1; positive = lit< tt } in
    elim ((s p (λ h. h)).0 (inl ((weak_x_over_holds (pos 0) p).1 (omega (arith, ints)), tt))) [
      | inl m ↦ omega (arith, ints, (x_over_holds (pos 0) p).0 m.0)
      | inr e ↦ e
    ]
