-- Lines that cross a direction: on them each first coordinate has one point.
--
-- IsLineAcross l    l is a line whose b is above 0
-- SaysOn l h t w    h holds at the point of the line l whose first coordinate is t / w
use Rattle.std.specs.Prelude.{◌≡◌, ℕ, ℤ, pos, ◌<ℤ◌}
use Rattle.plane_terms.specs.HalfPlane.{HalfPlane, Says}
use Rattle.plane_terms.specs.Columns.{gap_at}
use Rattle.plane_terms.specs.declared.op.Op.TheVariants.{Zero}

pub record IsLineAcross (l : HalfPlane) : Type 0 where
  pub line : l.op ≡ Zero
  pub across : pos 0 <ℤ l.b

abbrev pub SaysOn : HalfPlane → HalfPlane → ℤ → ℕ → Type 0
SaysOn l h t w = Says h.op (gap_at h l t (pos w))
