-- Findings that are right have frames, and a join of rectangles holds both.
use Rattle.std.proofs.Common.{◌≡◌, inl, inr, ℕ, arith, List, [], ◌∷◌, Some}
use Rattle.std.proofs.lemmas.Int.{ints, clamps}
use Rattle.plane_terms.specs.Lists.{Every}
use Rattle.plane_terms.specs.Point.{Point}
use Rattle.plane_terms.specs.Rectangle.{Rectangle, RectHolds, IsWithin, IsRectangle, whole_grid, join_of}
use Rattle.plane_terms.specs.Cell.{Cell, InCell, InCells}
use Rattle.topology_terms.specs.Feature.{Feature, feature_at, env, IsAscending}
use Rattle.topology_terms.specs.Broken.{Row}
use Rattle.topology_terms.specs.Meaning.{Meaning, Laws, CutsRight, Finding, by_partner, finding_at}
use Rattle.sound_laws.proofs.Keyed.{numbers, each_found}
use Rattle.sound_laws.proofs.Planes.{within_Holds}
use Rattle.validation_laws.specs.Parts.{AreInOrder}
use Rattle.validation_laws.specs.Framed.{IsFramable}
use Rattle.validation_laws.proofs.Viewed.{in_envelope}

-- ---- on the grid
every_cell : (Q : Point → Type 0) (cs : List Cell) → ((p : Point) → InCells cs p → Q p)
    → Every (λ (c : Cell). (p : Point) → InCell c p → Q p) cs
every_cell Q [] h = tt
every_cell Q (c ∷ cs) h = ((λ p k. h p (inl k)), every_cell Q cs (λ p k. h p (inr k)))

pub framable : (M : Meaning) → Laws M → CutsRight M → (row : Row) (F : List Feature) (a : ℕ) (f : Feature) (xs : List Finding)
    → IsAscending F → M.Fits row F → feature_at F a ≡ Some f → IsRectangle (env f) → M.IsCutting row F a xs → AreInOrder xs
    → Every IsFramable xs
unfolding finding_at
framable M L C row F a f xs u fits e r cut order =
    let right = C.right row F a f u fits e xs cut in
    each_found by_partner (numbers (λ (x : Finding). x.other)) IsFramable xs order (λ b x k. record {
      some = right.some b x k;
      points = right.have_points b x k;
      on_grid = λ w. every_cell (λ p. RectHolds whole_grid p) x.cells (λ p c. within_Holds (env f) whole_grid r.on_grid p
          (in_envelope M L row F a b f p fits e ((right.points b x k w p).0 c)));
    })

-- ---- frames
pub within_join_left : (r s : Rectangle) → IsWithin r (join_of r s)
within_join_left r s = omega (arith, ints, clamps)

pub within_join_right : (r s : Rectangle) → IsWithin s (join_of r s)
within_join_right r s = omega (arith, ints, clamps)
